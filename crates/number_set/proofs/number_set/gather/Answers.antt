use Rattle.std.proofs.Common.{◌≡◌, ◌<◌, ◌+◌, ◌++◌, ◌∷◌, [], ℕ, List, length, take, drop, get_or, ap, sym, ◌∙◌, arith, length-append}
use Rattle.arrayvec.specs.ArrayVec.{ArrayVec}
use Rattle.ipl_base.specs.declared.limits.TheConstants.{COMMIT_NUMBERS}
use Rattle.number_set.specs.Flags.{has_flag, flagged_from}
use Rattle.number_set.proofs.GatherLemmas.{next_taken, next_left, part_more, part_full, part_later}
use Rattle.number_set.proofs.number_set.gather.Goals.{then-has, then-start-seen+then-len-lt-COMMIT_NUMBERS, else-start-seen, else-start-seen-via-then-start-seen+else-len-lt-COMMIT_NUMBERS, else-start-seen-via-else-start-seen, else-has}
use Rattle.number_set.proofs.number_set.gather.Goals as goal

pub loop-i-preserved : goal.loop-i-preserved
loop-i-preserved c =
    let so = c.loop-i.invariant in
    let f = has_flag c.args.flags.now.bytes in
    let items = c.args.items.now in
    let i = c.loop-i.i in
    let low : i < length items = omega (arith, c.loop-i-test.true) in
    let xs : List ℕ = flagged_from f 0 (take i items) in
    let s = c.args.start in
    let x : ℕ = get_or items i 0 in
    let part : List ℕ = c.loop-i.part.items in
    elim c.if-has.branch [
      | then-has w ↦
          let next = next_taken f items i low (sym c.has.ensures ∙ w.if-has.true) in
          let more : (part : List ℕ) → part ≡ take COMMIT_NUMBERS (drop s (xs ++ x ∷ []))
          → part ≡ take COMMIT_NUMBERS (drop s (flagged_from f 0 (take (i + 1) items))) =
          λ part is. is ∙ ap (λ (l : List ℕ). take COMMIT_NUMBERS (drop s l)) (sym next) in record {
            few = omega (arith, so.few, w.seen-is);
            seen = omega (arith, w.seen-is, so.seen, ap length next, length-append xs (x ∷ []));
            part = ap (λ (v : ArrayVec ℕ). v.items) w.part-is ∙ more w.if-start-seen.part.items
                (elim w.if-start-seen.branch [
                  | then-start-seen+then-len-lt-COMMIT_NUMBERS v ↦
                      ap (λ (v : ArrayVec ℕ). v.items) v.part-is ∙ v.push.ensures.items
                      ∙ part_more xs x s part COMMIT_NUMBERS so.part (omega (arith, v.if-start-seen.true, so.seen))
                      (omega (arith, v.if-len-lt-COMMIT_NUMBERS.true, v.len.ensures.value))
                  | else-start-seen v ↦ ap (λ (v : ArrayVec ℕ). v.items) v.part-is ∙ elim v.else-start-seen.branch [
                    | else-start-seen-via-then-start-seen+else-len-lt-COMMIT_NUMBERS u ↦
                        part_full xs x s part COMMIT_NUMBERS so.part (omega (arith, u.if-start-seen.true, so.seen))
                        (omega (arith, u.if-len-lt-COMMIT_NUMBERS.false, u.len.ensures.value))
                    | else-start-seen-via-else-start-seen u ↦
                        part_later xs x s part COMMIT_NUMBERS so.part (omega (arith, u.if-start-seen.false, so.seen))
                  ]
                ]);
          }
      | else-has w ↦
          let next = next_left f items i low (sym c.has.ensures ∙ w.if-has.false) in record {
            few = omega (arith, so.few, w.seen-is);
            seen = omega (arith, w.seen-is, so.seen, ap length next);
            part = ap (λ (v : ArrayVec ℕ). v.items) w.part-is ∙ so.part
                ∙ ap (λ (l : List ℕ). take COMMIT_NUMBERS (drop s l)) (sym next);
          }
    ]
