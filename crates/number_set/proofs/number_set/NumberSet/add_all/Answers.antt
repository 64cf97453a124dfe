use Rattle.std.proofs.Common.{List, ℕ, ◌+◌, length, drop, get_or, sym, ◌∙◌, ap, arith}
use Rattle.std.proofs.lemmas.List.{drop_more}
use Rattle.number_set.specs.Numbers.{Numbers, with_numbers}
use Rattle.number_set.proofs.NumberLemmas.{length_with_number}
use Rattle.number_set.proofs.number_set.NumberSet.add_all.Goals as goal

pub loop-number-preserved : goal.loop-number-preserved
loop-number-preserved c =
    let so = c.loop-number.invariant in
    let i = c.loop-number.number-index in
    let numbers = c.args.numbers.now in
    let old = c.loop-number.self in record {
      rest = so.rest ∙ ap (λ (l : List ℕ). with_numbers l old.list)
          (drop_more numbers i 0 c.loop-number-test.true)
          ∙ ap (λ (v : Numbers). with_numbers (drop (i + 1) numbers) v.list) (sym c.add.ensures);
      few = omega (
        arith,
        so.few,
        ap (λ (v : Numbers). length v.list) c.add.ensures,
        length_with_number (get_or numbers i 0) old.list,
      );
      most = ap (λ (v : Numbers). v.most) c.add.ensures ∙ so.most;
    }
