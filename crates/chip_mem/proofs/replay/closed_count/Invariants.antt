use Rattle.std.proofs.Common.{◌≡◌, ◌≤◌, take, reverse}
use Rattle.chip_mem.specs.Picked.{closed_count}
use Rattle.chip_mem.proofs.replay.closed_count.Given as goal

abbrev pub invariant-loop-i : goal.invariant-loop-i
invariant-loop-i l = record { count : l.count ≡ closed_count (reverse (take l.i l.events)); within : l.count ≤ l.i }
