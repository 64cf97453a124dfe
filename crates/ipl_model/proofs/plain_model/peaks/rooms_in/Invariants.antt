use Rattle.std.proofs.Common.{◌≡◌, take}
use Rattle.ipl_model.specs.Plain.{rooms_in}
use Rattle.ipl_model.proofs.plain_model.peaks.rooms_in.Given as goal

abbrev pub invariant-loop-write : goal.invariant-loop-write
invariant-loop-write l = l.rooms ≡ rooms_in l.committed (take l.write-index l.log) l.page
