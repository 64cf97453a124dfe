use Rattle.std.proofs.Common.{◌≡◌, take}
use Rattle.ipl_model.specs.Peaks.{peaks_of, weights}
use Rattle.ipl_model.specs.Plain.{newest_first}
use Rattle.ipl_model.proofs.plain_model.peaks.weights.Given as goal

abbrev pub invariant-loop-i : goal.invariant-loop-i
invariant-loop-i l = l.total ≡ weights (peaks_of (newest_first (take l.i l.log))) l.unit
