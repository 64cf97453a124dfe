-- Which sectors of a status place the calls program, whatever the chip tells.
use Rattle.std.proofs.Common.{◌≤◌, ◌+◌, ℕ, Bool, true, arith}
use Rattle.chip_trait.specs.Told.{Told}
use Rattle.unit_io.specs.Costs.{Spends}
use Rattle.unit_io.specs.Spots.{Programs, IsSpot}
use Rattle.unit_io.proofs.CostLemmas.{spends_none}
use Rattle.unit_io.proofs.SpotLemmas.{programs_none}
use Rattle.unit_io.proofs.TidyLemmas.{tidy_wider, tidy_then}
use Rattle.txn_status.specs.Switching.{IsPartSpot, IsStatusSpot}

-- ---- the parts, one after the other

-- none of them yet
pub tidy_parts_none : (p : ℕ) (told : Told) → Spends (Programs p (IsPartSpot 0) true) told told
tidy_parts_none p told =
    spends_none (Programs p (IsPartSpot 0) true) told (programs_none p (IsPartSpot 0) true)

-- one more
pub tidy_parts_more : (p n : ℕ) (done : Bool) (old mid new : Told)
    → Spends (Programs p (IsPartSpot n) true) old mid
    → Spends (Programs p (IsSpot (1 + n)) done) mid new
    → Spends (Programs p (IsPartSpot (n + 1)) done) old new
tidy_parts_more p n done old mid new =
    tidy_then p (IsPartSpot n) (IsSpot (1 + n)) (IsPartSpot (n + 1)) true done old mid new
    (λ s is at. omega (arith, is.1, at)) (λ s is. (is.0, omega (arith, is.1)))
    (λ s at. (omega (arith, at), omega (arith, at)))

-- so many, or more of them
pub tidy_parts : (p n m : ℕ) (done then : Bool) (old new : Told) → n ≤ m
    → Spends (Programs p (IsPartSpot n) done) old new
    → Spends (Programs p (IsPartSpot m) then) old new
tidy_parts p n m done then old new few =
    tidy_wider p (IsPartSpot n) (IsPartSpot m) done then old new
    (λ s is. (is.0, omega (arith, is.1, few)))

-- ---- a new status place

-- some parts, or all of them
pub tidy_parts_only : (p n : ℕ) (done then : Bool) (old new : Told)
    → Spends (Programs p (IsPartSpot n) done) old new
    → Spends (Programs p (IsStatusSpot n) then) old new
tidy_parts_only p n done then old new =
    tidy_wider p (IsPartSpot n) (IsStatusSpot n) done then old new (λ s spot. spot.1)

-- and then the header
pub tidy_switched : (p n : ℕ) (done : Bool) (old mid new : Told)
    → Spends (Programs p (IsPartSpot n) true) old mid → Spends (Programs p (IsSpot 0) done) mid new
    → Spends (Programs p (IsStatusSpot n) done) old new
tidy_switched p n done old mid new =
    tidy_then p (IsPartSpot n) (IsSpot 0) (IsStatusSpot n) true done old mid new
    (λ s spot at. omega (arith, at, spot.0)) (λ s spot. spot.1) (λ s at. omega (arith, at))
