use Rattle.std.proofs.Common.{◌≡◌, take, length}
use Rattle.ipl_model.specs.Plain.{AreRecordSizes}
use Rattle.ipl_model.proofs.plain_model.peaks.record_sizes.Given as goal

abbrev pub invariant-loop-write : goal.invariant-loop-write
invariant-loop-write l = (length l.sizes.items ≡ l.names) × AreRecordSizes (take l.write-index l.committed) l.sizes.items
