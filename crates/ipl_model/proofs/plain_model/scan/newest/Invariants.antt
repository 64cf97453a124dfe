use Rattle.std.proofs.Common.{◌≡◌, take}
use Rattle.ipl_model.specs.State.{last_write}
use Rattle.ipl_model.specs.Plain.{newest_first}
use Rattle.ipl_model.proofs.plain_model.scan.newest.Given as goal

abbrev pub invariant-loop-write : goal.invariant-loop-write
invariant-loop-write l = l.found ≡ last_write (newest_first (take l.write-index l.log)) l.name
