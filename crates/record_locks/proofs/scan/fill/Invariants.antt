-- So many slots are empty.
use Rattle.std.proofs.Common.{◌≡◌, None, replicate}
use Rattle.bounded_vec.specs.Bounded.{with_items}
use Rattle.record_locks.proofs.scan.fill.Given as goal

abbrev pub invariant-loop : goal.invariant-loop
invariant-loop l = l.slots ≡ with_items l.fn.slots (replicate l.counter None)
