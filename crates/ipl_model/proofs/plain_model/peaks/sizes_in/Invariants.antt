use Rattle.std.proofs.Common.{◌≡◌, take}
use Rattle.ipl_model.specs.Plain.{sizes_in}
use Rattle.ipl_model.proofs.plain_model.peaks.sizes_in.Given as goal

abbrev pub invariant-loop-write : goal.invariant-loop-write
invariant-loop-write l = l.sizes ≡ sizes_in (take l.write-index l.committed) l.page
