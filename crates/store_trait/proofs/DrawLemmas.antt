-- Numbers that are drawn.
use Rattle.std.proofs.Common.{◌≤◌, arith}
use Rattle.store_trait.specs.Keeping.{Keeping, FOUND_NUMBER, SCRIPT_DRAWS, Draws}

-- they last for a script, where the counter is at most what an opening sets it to
pub numbers_last : {S : Type 0} {k : Keeping S} {before then : S} {IsSpent : Type 0} → Draws k SCRIPT_DRAWS before IsSpent then → k.counter before ≤ FOUND_NUMBER → ¬ IsSpent
numbers_last draws low is = let past = draws.spent is in omega (arith, past, low)
