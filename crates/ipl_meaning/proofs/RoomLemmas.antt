-- Values that are the same in each slot have room alike.
use Rattle.std.proofs.Common.{◌≡◌, ◌<◌, ℕ, ap, arith}
use Rattle.ipl_base.specs.declared.limits.TheConstants.{SLOTS}
use Rattle.ipl_base.specs.Sizes.{size_in_page, size_of_values}
use Rattle.ipl_model.proofs.SumLemmas.{sums_same}
use Rattle.ipl_meaning.specs.Values.{Values}

-- values that are the same in each slot take as many bytes
pub same_sizes : (v w : Values) → ((slot : ℕ) → slot < SLOTS → v slot ≡ w slot) → size_of_values v ≡ size_of_values w
unfolding size_of_values
same_sizes v w same = sums_same (λ slot. size_in_page (v slot)) (λ slot. size_in_page (w slot)) 0 SLOTS (λ i low. ap size_in_page (same i (omega (arith, low))))
