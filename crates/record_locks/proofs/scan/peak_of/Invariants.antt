use Rattle.std.proofs.Common.{◌≡◌, ◌≤◌, ◌^◌, drop, length}
use Rattle.record_locks.specs.Held.{peaks_in}
use Rattle.record_locks.proofs.scan.peak_of.Given as goal

abbrev pub invariant-loop-left : goal.invariant-loop-left
invariant-loop-left l = record { rest : l.most ≡ peaks_in (drop l.left l.slots) l.name.0; fits : l.most ≤ 2 ^ 32; within : l.left ≤ length l.slots }

abbrev pub decreases-loop-left : goal.decreases-loop-left
decreases-loop-left l = l.left
