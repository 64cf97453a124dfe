-- It is the least of the places before.
use Rattle.std.proofs.Common.{◌≡◌, ◌≤◌, ◌^◌, ◌-◌}
use Rattle.unit_directory.specs.Reserves.{least_below, erases_or}
use Rattle.unit_directory.proofs.directory.Directory.least_erases.Given as goal

abbrev pub invariant-loop-place : goal.invariant-loop-place
invariant-loop-place l =
    (l.least ≡ least_below (2 ^ 32 - 1) (erases_or (2 ^ 32 - 1) l.self) l.place) × (l.least ≤ 2 ^ 32 - 1)
