use Rattle.std.proofs.Common.{◌≡◌, ◌+◌, ◌*◌, ◌<◌, ◌≤◌, ℕ, true, false, replicate, Ok, Err, ap, subst, arith, refl, sym, ◌∙◌}
use Rattle.std.proofs.lemmas.List.{length-set}
use Rattle.std.proofs.lemmas.Result.{err_from_is_err_and}
use Rattle.chip_trait.proofs.CountsLemmas.{counts_none, counts_then}
use Rattle.unit_io.specs.Costs.{ProgramsAt}
use Rattle.unit_io.proofs.CostLemmas.{nothing_at, spends_at_most, spends_at_then, spends_none}
use Rattle.unit_log.proofs.OftenLemmas.{often_none}
use Rattle.selective_merge.proofs.OftenLemmas.{pages_often, some_often}
use Rattle.selective_merge.specs.Moved.{HasMoved, MovesPage, IsAside}
use Rattle.selective_merge.specs.Homes.{from_home}
use Rattle.selective_merge.specs.Writing.{MovesOnePage}
use Rattle.selective_merge.proofs.MoveLemmas.{few_none, few_more, moved_none, moved_more, moved_aside, aside_then}
use Rattle.selective_merge.proofs.PageMoveLemmas.{MovedSoFar, moved_so_far_none, moved_so_far_more, page_failed}
use Rattle.selective_merge.proofs.PlaceLemmas.{later_unmoved}
use Rattle.selective_merge.proofs.ThroughoutLemmas.{charts_none, charts_then}
use Rattle.std.specs.Prelude.{None}
use Rattle.ipl_base.specs.First.{first_below}
use Rattle.ipl_base.proofs.FirstLemmas.{first_more}
use Rattle.unit_io.proofs.SparesLemmas.{spares_none, spares_then}
use Rattle.selective_merge.specs.Faults.{page_fault_from}
use Rattle.selective_merge.proofs.FaultLemmas.{fault_as, page_from_alike, first_page}
use Rattle.selective_merge.proofs.TidyLemmas.{tidy_none, tidy_page_more, tidy_pages}
use Rattle.selective_merge.specs.Pages.{IsBaseSpotBelow}
use Rattle.selective_merge.proofs.pages.move_pages.Goals as goal

pub loop-page-init : goal.loop-page-init
loop-page-init g c =
    let told = g.C.Chip.told c.args.chip.now in
    let from = from_home c.args.home.now c.args.status.now.numbers c.args.log.now in
    let generation = c.args.head.now.generation in record {
      moves = λ m h steady rests bare clean.
          moved_so_far_none told.places from c.args.place generation m h (replicate 15 0) told
          steady rests;
      tells = charts_none (HasMoved from c.args.place generation (replicate 15 0) 0) told
          (moved_none from c.args.place generation (replicate 15 0));
      costs = spends_none (ProgramsAt c.args.place 0 0 4) told (nothing_at c.args.place 0 0 4);
      tidy = tidy_none c.args.place (IsBaseSpotBelow 0) true told;
      reads = often_none told;
      counts = counts_none told;
      sound = λ x _. refl;
      spares = spares_none c.args.place told told refl;
      few = few_none 15;
      long = refl;
    }

pub loop-page-preserved : goal.loop-page-preserved
loop-page-preserved g c =
    let old = g.C.Chip.told c.args.chip.now in
    let mid = g.C.Chip.told c.loop-page.chip in
    let new = g.C.Chip.told c.move_page.new.chip in
    let from = from_home c.args.home.now c.args.status.now.numbers c.args.log.now in
    let p = c.args.place in
    let generation = c.args.head.now.generation in
    let k = c.loop-page.page in
    let pieces = c.loop-page.pieces in
    let n = c.in_ok-count.count in
    let so = c.loop-page.invariant in
    let says = c.in_ok-count.ensures in
    let low : k < 15 = omega arith in
    let small : n ≤ 16 = says.few in record {
      moves = λ m h steady rests bare clean.
          moved_so_far_more old.places from p generation m h old c.requires.may.another bare clean k low
          pieces mid so.counts (so.moves m h steady rests bare clean) n new
          (omega (arith, low, so.long)) so.few small
          (subst (λ (q : ℕ). MovesOnePage q from p generation k mid (Ok n) new) so.counts.places
          says.moves);
      tells = charts_then (HasMoved from p generation pieces k) (MovesPage from p generation k n) _
          old mid new so.tells says.tells
          (λ x y z one two. moved_more from p generation pieces k n x y z c.requires.may.another
          (omega (arith, low, so.long)) so.few small one two);
      costs = spends_at_most p (16 * k + 16) (16 * (k + 1)) 0 0 4 old new (omega arith) (omega arith)
          (spends_at_then p (16 * k) 16 0 0 4 old mid new so.costs says.spends.costs);
      tidy = tidy_page_more p k true old mid new so.tidy says.spends.tidy;
      reads = pages_often c.args.home.now.place k old mid new so.reads says.spends.reads;
      counts = counts_then old mid new so.counts says.spends.accounts.counts;
      sound = λ x told.
          let (y, told_y, same) = so.spares x told in
          first_more (page_fault_from x from) k (so.sound x told)
          (sym (page_from_alike x y from p c.requires.may.another same k) ∙ says.fault y told_y);
      spares = spares_then p old mid new so.spares says.spends.spares;
      few = few_more pieces k n (omega (arith, low, so.long)) so.few small;
      long = length-set pieces k n ∙ so.long;
    }

pub returns-in_err-count-clause-moves : goal.returns-in_err-count-clause-moves
returns-in_err-count-clause-moves g c = λ m h steady rests bare clean.
    let old = g.C.Chip.told c.args.chip.now in
    let mid = g.C.Chip.told c.loop-page.chip in
    let new = g.C.Chip.told c.move_page.new.chip in
    let from = from_home c.args.home.now c.args.status.now.numbers c.args.log.now in
    let p = c.args.place in
    let generation = c.args.head.now.generation in
    let k = c.loop-page.page in
    let so = c.loop-page.invariant in
    let low : k < 15 = omega arith in
    let fault = c.in_err-count.field-0.0 in
    let e = err_from_is_err_and c.from_residual.result c.from_residual.ensures.1 in
    rw e.1 (page_failed old.places from p generation m h old c.requires.may.another bare clean k low
    c.loop-page.pieces mid so.counts (so.moves m h steady rests bare clean)
    (λ pieces. HasMoved from p generation pieces 15) fault e.0 new e.2
    (subst (λ (q : ℕ). MovesOnePage q from p generation k mid (Err fault) new) so.counts.places
    c.in_err-count.ensures.moves))

pub returns-in_err-count-clause-tells : goal.returns-in_err-count-clause-tells
returns-in_err-count-clause-tells g c =
    let old = g.C.Chip.told c.args.chip.now in
    let mid = g.C.Chip.told c.loop-page.chip in
    let new = g.C.Chip.told c.move_page.new.chip in
    let from = from_home c.args.home.now c.args.status.now.numbers c.args.log.now in
    let p = c.args.place in
    let generation = c.args.head.now.generation in
    let k = c.loop-page.page in
    let pieces = c.loop-page.pieces in
    let so = c.loop-page.invariant in
    let e = err_from_is_err_and c.from_residual.result c.from_residual.ensures.1 in
    rw e.1 (λ soft. charts_then (HasMoved from p generation pieces k) (IsAside p)
    (IsAside p) old mid new so.tells (c.in_err-count.ensures.tells (λ same. soft (e.2 ∙ same)))
    (λ x y z moved aside. aside_then p x y z (moved_aside from p generation pieces k x y moved)
    aside))

pub returns-clause-moves : goal.returns-clause-moves
returns-clause-moves g c = λ m h steady rests bare clean.
    let told = g.C.Chip.told c.args.chip.now in
    let from = from_home c.args.home.now c.args.status.now.numbers c.args.log.now in
    let done : c.loop-page.page ≡ 15 = omega arith in
    subst (λ (k : ℕ). MovedSoFar told.places from c.args.place c.args.head.now.generation m h k
    c.loop-page.pieces told (g.C.Chip.told c.loop-page.chip)) done
    (c.loop-page.invariant.moves m h steady rests bare clean)

pub returns-in_err-count-clause-fault : goal.returns-in_err-count-clause-fault
returns-in_err-count-clause-fault g c = λ x told.
    let from = from_home c.args.home.now c.args.status.now.numbers c.args.log.now in
    let so = c.loop-page.invariant in
    let low : c.loop-page.page < 15 = omega arith in
    let (y, told_y, same) = so.spares x told in
    let e = err_from_is_err_and c.from_residual.result c.from_residual.ensures.1 in
    rw e.1 (fault_as _ e.0 c.in_err-count.field-0.0 e.2
    (first_page x y from c.args.place c.requires.may.another same c.loop-page.page _ low
    (so.sound x told) (c.in_err-count.ensures.fault y told_y)))

pub returns-clause-fault : goal.returns-clause-fault
returns-clause-fault g c = λ x told.
    let from = from_home c.args.home.now c.args.status.now.numbers c.args.log.now in
    let done : c.loop-page.page ≡ 15 = omega arith in
    subst (λ (k : ℕ). first_below (page_fault_from x from) k ≡ None) done
    (c.loop-page.invariant.sound x told)

pub returns-in_err-count-clause-spends : goal.returns-in_err-count-clause-spends
returns-in_err-count-clause-spends g c =
    let old = g.C.Chip.told c.args.chip.now in
    let mid = g.C.Chip.told c.loop-page.chip in
    let new = g.C.Chip.told c.move_page.new.chip in
    let p = c.args.place in
    let k = c.loop-page.page in
    let so = c.loop-page.invariant in
    let fault = c.in_err-count.field-0.0 in
    let says = c.in_err-count.ensures.spends in
    let low : k < 15 = omega arith in
    let e = err_from_is_err_and c.from_residual.result c.from_residual.ensures.1 in
    rw (e.1 ∙ ap Err e.2) (record {
      spares = λ held. spares_then p old mid new so.spares (says.spares held);
      costs = spends_at_most p (16 * k + 16) 240 0 0 4 old new (omega (arith, low)) (omega arith)
          (spends_at_then p (16 * k) 16 0 0 4 old mid new so.costs says.costs);
      tidy = tidy_pages p (k + 1) 15 false false old new (omega (arith, low))
          (tidy_page_more p k false old mid new so.tidy says.tidy);
      reads = some_often c.args.home.now.place ((k + 1) * 16) old new (omega (arith, low))
          (pages_often c.args.home.now.place k old mid new so.reads says.reads);
      accounts = record {
        counts = counts_then old mid new so.counts says.accounts.counts;
        cause = later_unmoved {T = ℕ} c.args.home.now.place (Err fault) old mid new so.counts says.accounts.cause;
      };
    })

pub returns-clause-spends : goal.returns-clause-spends
returns-clause-spends g c =
    let old = g.C.Chip.told c.args.chip.now in
    let new = g.C.Chip.told c.loop-page.chip in
    let k = c.loop-page.page in
    let so = c.loop-page.invariant in
    let done : k ≡ 15 = omega arith in record {
      spares = so.spares;
      costs = spends_at_most c.args.place (16 * k) 240 0 0 4 old new (omega (arith, done)) (omega arith) so.costs;
      tidy = tidy_pages c.args.place k 15 true true old new (omega (arith, done)) so.tidy;
      reads = some_often c.args.home.now.place (k * 16) old new (omega (arith, done)) so.reads;
      accounts = record { counts = so.counts; cause = tt };
    }
