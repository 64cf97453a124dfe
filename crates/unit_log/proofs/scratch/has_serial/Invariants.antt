use Rattle.std.proofs.Common.{◌≡◌, drop}
use Rattle.unit_log.specs.Kept.{has_serial}
use Rattle.unit_log.proofs.scratch.has_serial.Given as goal

abbrev pub invariant-loop-sector : goal.invariant-loop-sector
invariant-loop-sector l =
    has_serial l.serial l.sectors ≡ has_serial l.serial (drop l.sector-index l.sectors)
