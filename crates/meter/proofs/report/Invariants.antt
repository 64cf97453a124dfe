use Rattle.meter.specs.Sound.{IsSoundFor}
use Rattle.meter.proofs.report.Given as goal

abbrev pub invariant-loop-meter : goal.invariant-loop-meter
invariant-loop-meter g l = record { sound : IsSoundFor (g.C.Chip.told l.chip) l.meters }
