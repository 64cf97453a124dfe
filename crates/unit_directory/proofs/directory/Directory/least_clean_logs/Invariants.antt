-- It is the least of the units before.
use Rattle.std.proofs.Common.{◌≡◌, ◌≤◌}
use Rattle.ipl_base.specs.declared.limits.TheConstants.{LOG_SECTORS}
use Rattle.unit_directory.specs.Reserves.{least_below, clean_logs}
use Rattle.unit_directory.proofs.directory.Directory.least_clean_logs.Given as goal

abbrev pub invariant-loop-unit : goal.invariant-loop-unit
invariant-loop-unit l = (l.least ≡ least_below LOG_SECTORS (clean_logs l.self) l.unit) × (l.least ≤ LOG_SECTORS)
