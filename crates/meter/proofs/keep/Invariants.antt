use Rattle.meter.specs.Sound.{IsSoundFor}
use Rattle.meter.proofs.keep.Given as goal

abbrev pub invariant-loop-line : goal.invariant-loop-line
invariant-loop-line g l = record { sound : IsSoundFor (g.C.Chip.told l.chip) l.meters }
