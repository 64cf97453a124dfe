-- What follows from how many units are kept on how many places.
use Rattle.std.proofs.Common.{ℕ, ◌≡◌, ◌+◌, ◌<◌, ◌≤◌, arith}
use Rattle.ipl_base.specs.Places.{IsGeometry, KeepsUnits, units_on}

-- where no place is spare
pub units_are_kept : (places : ℕ) → IsGeometry places → KeepsUnits places (units_on places)
units_are_kept places it = (omega arith, omega arith, omega arith)

pub some_unit : (places units : ℕ) → KeepsUnits places units → 1 ≤ units
some_unit places units keeps = keeps.0

pub units_and_four : (places units : ℕ) → KeepsUnits places units → units + 4 ≤ places
units_and_four places units keeps = keeps.1

-- there are more places than units
pub unit_below : (places units u : ℕ) → KeepsUnits places units → u < units → u < places
unit_below places units u keeps low = omega (arith, keeps.1, low)

-- and no more units than where no place is spare
pub unit_on : (places units u : ℕ) → KeepsUnits places units → u < units → u < units_on places
unit_on places units u keeps low = omega (arith, keeps.1, low)
