use Rattle.std.proofs.Common.{◌≡◌, ◌-◌, length}
use Rattle.std.specs.List.{find, range_with_len}
use Rattle.ipl_model.specs.State.{is_open_session}
use Rattle.record_locks.specs.Standing.{state_of}
use Rattle.record_locks.proofs.sessions.Sessions.least_open.Given as goal

-- no session below this one is open
abbrev pub invariant-loop-s : goal.invariant-loop-s
invariant-loop-s l = find (is_open_session (state_of l.self)) (range_with_len 0 (length l.self)) ≡ find (is_open_session (state_of l.self)) (range_with_len l.s (length l.self - l.s))
