-- So many times the value stand there.
use Rattle.std.proofs.Common.{◌≡◌, replicate}
use Rattle.bounded_vec.specs.Bounded.{with_items}
use Rattle.bounded_vec.proofs.bounded_vec.BoundedVec.refill.Given as goal

abbrev pub invariant-loop : goal.invariant-loop
invariant-loop g l = l.self ≡ with_items l.fn.self (replicate l.counter l.fn.value)
