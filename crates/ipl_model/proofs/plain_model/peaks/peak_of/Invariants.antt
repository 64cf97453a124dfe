use Rattle.std.proofs.Common.{◌≡◌, ◌≤◌, ◌+◌, take}
use Rattle.ipl_base.specs.declared.limits.TheConstants.{VALUE_LEN}
use Rattle.ipl_model.specs.Peaks.{peaks_of}
use Rattle.ipl_model.specs.Plain.{newest_first}
use Rattle.ipl_model.proofs.plain_model.peaks.peak_of.Given as goal

abbrev pub invariant-loop-write : goal.invariant-loop-write
invariant-loop-write l = record { peak : l.most ≡ peaks_of (newest_first (take l.write-index l.log)) l.name; fits : l.most ≤ 4 + VALUE_LEN }
