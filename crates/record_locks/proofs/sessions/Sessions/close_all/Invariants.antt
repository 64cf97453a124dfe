use Rattle.std.proofs.Common.{◌≡◌, drop, length}
use Rattle.record_locks.specs.Held.{after_batch}
use Rattle.record_locks.proofs.sessions.Sessions.close_all.Given as goal

abbrev pub invariant-loop-s : goal.invariant-loop-s
invariant-loop-s l = record {
  rest : after_batch l.self (drop l.s-index l.numbers) ≡ after_batch l.fn.self l.numbers;
  all : length l.self ≡ length l.fn.self;
}
