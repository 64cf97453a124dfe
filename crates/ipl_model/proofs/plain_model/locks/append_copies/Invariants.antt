use Rattle.std.proofs.Common.{◌≡◌, ◌++◌, take}
use Rattle.ipl_model.specs.Plain.{newest_first}
use Rattle.ipl_model.proofs.plain_model.locks.append_copies.Given as goal

abbrev pub invariant-loop-write : goal.invariant-loop-write
invariant-loop-write l = newest_first l.all.items ≡ newest_first (take l.write-index l.log) ++ newest_first l.initial.all.items
