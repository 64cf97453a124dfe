use Rattle.std.proofs.Common.{ℕ, ◌+◌, ◌/◌, ap, length, arith}
use Rattle.std.proofs.lemmas.List.{length-replicate}
use Rattle.bounded_vec.specs.Bounded.{Bounded}
use Rattle.number_set.proofs.BitLemmas.{no_bits}
use Rattle.number_set.proofs.FlagLemmas.{none_length}
use Rattle.number_set.proofs.flags.Flags.new.Goals as goal

pub invariant_of-result : goal.invariant_of-result
invariant_of-result c =
    let size = (c.args.room + 7) / 8 in
    let bytes = ap (λ (v : Bounded ℕ). v.items) c.in_ok-bytes.ensures in (
      omega (arith, ap length bytes, length-replicate {A = ℕ} size 0),
      omega arith,
      λ numbers. none_length c.in_ok-bytes.bytes.items numbers 0 (λ i. no_bits size i c.in_ok-bytes.bytes.items bytes),
    )
