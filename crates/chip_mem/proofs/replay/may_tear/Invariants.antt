use Rattle.std.proofs.Common.{take, reverse}
use Rattle.chip_mem.specs.Story.{IsLasting}
use Rattle.chip_mem.proofs.replay.may_tear.Given as goal

abbrev pub invariant-loop-event : goal.invariant-loop-event
invariant-loop-event l = IsLasting l.state.open l.state.sound l.state.worn (reverse (take l.event-index l.events)) l.p l.s
