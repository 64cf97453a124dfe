use Rattle.std.proofs.Common.{◌≡◌, take}
use Rattle.record_locks.specs.Held.{writer_numbers}
use Rattle.ipl_store.proofs.numbers.writer_numbers.Given as goal

-- the numbers of those of the sessions so far
abbrev pub invariant-loop-s : goal.invariant-loop-s
invariant-loop-s l = l.tids ≡ writer_numbers l.sessions (take l.s-index l.numbers)
