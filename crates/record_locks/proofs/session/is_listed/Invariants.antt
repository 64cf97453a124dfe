use Rattle.std.proofs.Common.{◌≡◌, map, drop}
use Rattle.record_locks.specs.Held.{is_among}
use Rattle.record_locks.proofs.session.is_listed.Given as goal

-- it is among them where it is among the rest
abbrev pub invariant-loop-listed : goal.invariant-loop-listed
invariant-loop-listed l = is_among l.name.0 (map (λ n. n.0) l.names) ≡ is_among l.name.0 (map (λ n. n.0) (drop l.listed-index l.names))
