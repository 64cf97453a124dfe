use Rattle.std.proofs.Common.{arith, sym, subst, set, ◌≡◌, ◌≤◌, ◌+◌, ℕ, length}
use Rattle.std.proofs.lemmas.Bool.{false≢true, eqb-true, eq-eqb}
use Rattle.page_text.proofs.IndexLemmas.{Indexing, indexing_none, slot_more, not_text, all_found, all_there, text_found, on_true}
use Rattle.page_text.proofs.indexing.index.Goals as goal

pub loop-slot-init : goal.loop-slot-init
loop-slot-init c =
    indexing_none c.args.bytes.now c.args.end c.args.bounds.now c.fits-bytes c.told-bounds

pub loop-slot-preserved : goal.loop-slot-preserved
loop-slot-preserved c =
    let l = c.loop-slot in
    let fits : c.args.end ≤ length c.args.bytes.now = omega (arith, c.told-bytes, c.requires) in
    subst (λ (k : ℕ). Indexing c.args.bytes.now c.args.end (l.slot + 1)
    (set l.bounds k l.at) c.in-Some.next) (sym c.from.ensures)
    (slot_more c.args.bytes.now c.args.end l.slot l.bounds l.at c.in-Some.next l.invariant fits
    c.loop-slot-test.true c.in-Some.ensures.some)

pub returns-in-None-clause-exact : goal.returns-in-None-clause-exact
returns-in-None-clause-exact c =
    let l = c.loop-slot in
    let fits : c.args.end ≤ length c.args.bytes.now = omega (arith, c.told-bytes, c.requires) in (
      λ h. absurd (false≢true h),
      λ text. absurd (not_text c.args.bytes.now c.args.end l.slot l.bounds l.at l.invariant fits
          c.loop-slot-test.true c.in-None.ensures.none.0 c.in-None.ensures.none.1 text),
    )

pub returns-clause-exact : goal.returns-clause-exact
returns-clause-exact c =
    let l = c.loop-slot in
    let fits : c.args.end ≤ length c.args.bytes.now = omega (arith, c.told-bytes, c.requires) in
    let all : l.slot ≡ 64 = omega (arith, c.loop-slot-test.false, l.auto.slot-end) in (
      λ h. let places = all_found c.args.bytes.now c.args.end l.slot l.bounds l.at l.invariant fits
          all c.requires (eqb-true l.at c.args.end h) in
          (places.page, text_found c.args.bytes.now c.args.end places),
      λ text. eq-eqb l.at c.args.end (all_there c.args.bytes.now c.args.end l.slot l.bounds l.at
          l.invariant fits all text),
    )

pub returns-clause-places : goal.returns-clause-places
returns-clause-places c =
    let l = c.loop-slot in
    let fits : c.args.end ≤ length c.args.bytes.now = omega (arith, c.told-bytes, c.requires) in
    let all : l.slot ≡ 64 = omega (arith, c.loop-slot-test.false, l.auto.slot-end) in
    on_true _ _ (λ h. all_found c.args.bytes.now c.args.end l.slot l.bounds l.at l.invariant fits
    all c.requires (eqb-true l.at c.args.end h))
