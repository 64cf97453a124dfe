-- It is the greatest of the places before.
use Rattle.std.proofs.Common.{◌≡◌}
use Rattle.ipl_meaning.specs.First.{greatest_below}
use Rattle.unit_directory.specs.Reserves.{erases_or}
use Rattle.unit_directory.proofs.directory.Directory.most_erases.Given as goal

abbrev pub invariant-loop-place : goal.invariant-loop-place
invariant-loop-place l = l.most ≡ greatest_below 0 (erases_or 0 l.self) l.place
