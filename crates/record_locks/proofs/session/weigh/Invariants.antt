use Rattle.std.proofs.Common.{◌≡◌, ◌≤◌, ◌+◌, ◌*◌, map, drop}
use Rattle.ipl_base.specs.declared.limits.TheConstants.{LONG_WEIGHT}
use Rattle.record_locks.specs.Held.{weight_listed}
use Rattle.record_locks.proofs.session.weigh.Given as goal

abbrev pub invariant-loop-i : goal.invariant-loop-i
invariant-loop-i l = record {
  later : weight_listed (map (λ n. n.0) l.names) l.sizes l.unit ≡ l.weight + weight_listed (drop l.i (map (λ n. n.0) l.names)) (drop l.i l.sizes) l.unit;
  few : l.weight ≤ LONG_WEIGHT * l.i;
}
