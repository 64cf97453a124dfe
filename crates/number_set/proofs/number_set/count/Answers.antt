use Rattle.std.proofs.Common.{◌<◌, ◌∷◌, [], ℕ, List, length, take, get_or, ap, sym, ◌∙◌, arith, length-append}
use Rattle.number_set.specs.Flags.{has_flag, flagged_from}
use Rattle.number_set.proofs.GatherLemmas.{next_taken, next_left}
use Rattle.number_set.proofs.number_set.count.Goals.{then-has, else-has}
use Rattle.number_set.proofs.number_set.count.Goals as goal

pub loop-i-preserved : goal.loop-i-preserved
loop-i-preserved c =
    let so = c.loop-i.invariant in
    let f = has_flag c.args.flags.now.bytes in
    let items = c.args.items.now in
    let i = c.loop-i.i in
    let low : i < length items = omega (arith, c.loop-i-test.true) in
    let xs : List ℕ = flagged_from f 0 (take i items) in
    let x : ℕ = get_or items i 0 in
    elim c.if-has.branch [
      | then-has w ↦
          let next = next_taken f items i low (sym c.has.ensures ∙ w.if-has.true) in record {
            few = omega (arith, so.few, w.seen-is);
            seen = omega (arith, w.seen-is, so.seen, ap length next, length-append xs (x ∷ []));
          }
      | else-has w ↦
          let next = next_left f items i low (sym c.has.ensures ∙ w.if-has.false) in record {
            few = omega (arith, so.few, w.seen-is);
            seen = omega (arith, w.seen-is, so.seen, ap length next);
          }
    ]
