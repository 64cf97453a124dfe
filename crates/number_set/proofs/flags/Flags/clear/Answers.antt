use Rattle.std.proofs.Common.{ℕ, List, ◌∙◌, ap, arith, length}
use Rattle.bounded_vec.proofs.WriteLemmas.{refilled}
use Rattle.number_set.specs.Flags.{has_flag}
use Rattle.number_set.proofs.FlagLemmas.{none_length}
use Rattle.number_set.proofs.flags.Flags.clear.Goals as goal

pub returns-clause-none : goal.returns-clause-none
returns-clause-none c = λ i.
    ap (λ (bytes : List ℕ). has_flag bytes i) (refilled c.self.inside.bytes.items c.clear_flags.new.bytes
    (c.clear_flags.ensures.size ∙ ap length c.deref_mut.ensures.value)) ∙ c.clear_flags.ensures.none i

pub invariant_of-self : goal.invariant_of-self
invariant_of-self c =
    let long = c.clear_flags.ensures.size ∙ ap length c.deref_mut.ensures.value in
    let same = refilled c.self.inside.bytes.items c.clear_flags.new.bytes long in (
      omega (arith, ap length same, long, c.self.invariant.0),
      omega arith,
      λ numbers. none_length _ numbers 0 (returns-clause-none c),
    )
