use Rattle.std.proofs.Common.{◌≡◌, ◌≤◌, length, take}
use Rattle.record_locks.specs.Held.{numbers_in}
use Rattle.ipl_store.proofs.numbers.active_numbers.Given as goal

-- the numbers of the sessions so far
abbrev pub invariant-loop-s : goal.invariant-loop-s
invariant-loop-s l = (l.active ≡ numbers_in (take l.s l.sessions)) × (l.s ≤ length l.sessions)
