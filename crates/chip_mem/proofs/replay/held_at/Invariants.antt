use Rattle.std.proofs.Common.{◌≡◌, take, reverse}
use Rattle.chip_trait.specs.Story.{held}
use Rattle.chip_mem.specs.Sectors.{contents_of}
use Rattle.chip_mem.proofs.replay.held_at.Given as goal

abbrev pub invariant-loop-event : goal.invariant-loop-event
invariant-loop-event l = l.bytes ≡ held (contents_of l.start) (reverse (take l.event-index l.events)) l.p l.s
