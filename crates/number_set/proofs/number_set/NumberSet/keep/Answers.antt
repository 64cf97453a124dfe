use Rattle.std.proofs.Common.{ℕ, ap, sym, subst, arith, length}
use Rattle.bounded_vec.specs.Bounded.{Bounded}
use Rattle.number_set.specs.Numbers.{AreRising}
use Rattle.number_set.specs.Flags.{has_flag}
use Rattle.number_set.proofs.FlagLemmas.{flagged_rise, flagged_few}
use Rattle.number_set.proofs.number_set.NumberSet.keep.Goals as goal

pub invariant_of-self : goal.invariant_of-self
invariant_of-self c =
    let numbers = c.self.inside.items.items in
    let (rise, few) = c.self.invariant in
    let same = ap (λ (v : Bounded ℕ). v.items) c.compact.ensures in (
      subst AreRising (sym same) (flagged_rise (has_flag c.args.flags.now.bytes) 0 numbers rise),
      omega (
        arith,
        ap length same,
        ap (λ (v : Bounded ℕ). v.room) c.compact.ensures,
        flagged_few (has_flag c.args.flags.now.bytes) 0 numbers,
        few,
      ),
    )
