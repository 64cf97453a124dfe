use Rattle.std.proofs.Common.{◌≡◌, ◌∙◌, ℕ, List, length, drop, take, ◌-◌, ◌*◌, ◌/◌, ap, arith, length-drop}
use Rattle.std.proofs.lemmas.List.{take_all}
use Rattle.ipl_format.specs.Numbers.{long_at}
use Rattle.number_set.specs.Numbers.{Numbers}
use Rattle.number_set.proofs.NumberLemmas.{length_with_number}
use Rattle.txn_status.proofs.ReadLemmas.{payload_more, payload_full}
use Rattle.txn_status.proofs.payloads.add_numbers.Goals as goal

-- the first number of what is left is that at this rank
number_at : (i first : ℕ) (bytes : List ℕ) → first ≡ long_at 0 (take (length bytes - 8 * i) (drop (8 * i) bytes))
    → first ≡ long_at 0 (drop (8 * i) bytes)
number_at i first bytes is = is ∙ ap (long_at 0)
    (take_all (length bytes - 8 * i) (drop (8 * i) bytes) (omega (arith, length-drop (8 * i) bytes)))

pub loop-i-preserved : goal.loop-i-preserved
loop-i-preserved c =
    let so = c.loop-i.invariant in
    let added = c.if-not-add_within.ensures.added in record {
      numbers = payload_more c.loop-i.i c.first_number.result c.args.payload.now c.args.numbers.now
          c.loop-i.numbers c.add_within.new.self so.numbers
          (number_at c.loop-i.i c.first_number.result c.args.payload.now c.first_number.ensures) added;
      few = omega (
        arith,
        so.few,
        ap (λ (n : Numbers). length n.list) added,
        length_with_number c.first_number.result c.loop-i.numbers.list,
      );
      most = ap (λ (n : Numbers). n.most) added ∙ so.most;
    }

pub returns-then-not-add_within-clause-many : goal.returns-then-not-add_within-clause-many
returns-then-not-add_within-clause-many c =
    let so = c.loop-i.invariant in
    payload_full c.loop-i.i (length c.args.payload.now / 8) c.first_number.result c.args.numbers.now.most c.args.payload.now
    c.args.numbers.now c.loop-i.numbers c.loop-i-test.true so.numbers
    (number_at c.loop-i.i c.first_number.result c.args.payload.now c.first_number.ensures)
    (omega (arith, c.if-not-add_within.ensures.full, so.most))

pub returns-then-not-add_within-clause-near : goal.returns-then-not-add_within-clause-near
returns-then-not-add_within-clause-near c =
    let so = c.loop-i.invariant in
    omega (
      arith,
      c.if-not-add_within.ensures.full,
      so.most,
      so.few,
      c.loop-i-test.true,
      length_with_number c.first_number.result c.loop-i.numbers.list,
    )
