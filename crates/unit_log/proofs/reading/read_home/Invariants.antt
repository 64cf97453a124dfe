use Rattle.std.proofs.Common.{◌≤◌, ◌+◌, ◌-◌, length}
use Rattle.unit_log.specs.Live.{spots_from}
use Rattle.unit_log.specs.Looks.{IsFrom}
use Rattle.unit_log.proofs.GatherLemmas.{AreRead}
use Rattle.unit_log.proofs.reading.read_home.Given as goal

abbrev pub invariant-loop-sector : goal.invariant-loop-sector
invariant-loop-sector g l = record {
  read : AreRead (IsFrom l.place 241) l.owner.unit l.owner.generation
      (spots_from l.place 241 (l.end - 241)) (spots_from l.place l.sector (l.end - l.sector))
      l.initial.scratch l.scratch (g.C.Chip.told l.fn.chip) (g.C.Chip.told l.chip);
  count : length l.scratch + 241 ≤ length l.initial.scratch + l.sector;
}
