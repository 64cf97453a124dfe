use Rattle.std.proofs.Common.{◌≡◌, ◌++◌, drop}
use Rattle.ipl_model.specs.Plain.{state_of, newest_first, batch_writes}
use Rattle.ipl_model.proofs.plain_model.PlainModel.copy_writes.Given as goal

-- with those of the later sessions they are all
abbrev pub invariant-loop-s : goal.invariant-loop-s
invariant-loop-s l = batch_writes (state_of l.self) (drop l.s-index l.sessions) ++ newest_first l.all.items ≡ batch_writes (state_of l.self) l.sessions
