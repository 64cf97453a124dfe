use Rattle.std.proofs.Common.{◌≡◌, ◌+◌, map, drop}
use Rattle.record_locks.specs.Held.{rank_of}
use Rattle.record_locks.proofs.session.rank_of.Given as goal

abbrev pub invariant-loop-listed : goal.invariant-loop-listed
invariant-loop-listed l = record {
  so_far : l.rank ≡ l.listed-index;
  later : rank_of l.name.0 (map (λ n. n.0) l.names) ≡ l.listed-index + rank_of l.name.0 (drop l.listed-index (map (λ n. n.0) l.names));
}
