use Rattle.std.proofs.Common.{◌≡◌, ◌==◌, ◌&&◌, not, map, drop}
use Rattle.std.specs.Prelude.{find}
use Rattle.ipl_model.specs.Slots.{open_from}
use Rattle.record_locks.specs.Standing.{slot_of, keeps_from}
use Rattle.record_locks.proofs.scan.find_holder.Given as goal

-- no session before this one keeps it
abbrev pub invariant-loop-i : goal.invariant-loop-i
invariant-loop-i l = find (λ e. not (e.0 == l.s) && keeps_from l.for_write l.name.0 e.1) (open_from 0 (map slot_of l.slots)) ≡ find (λ e. not (e.0 == l.s) && keeps_from l.for_write l.name.0 e.1) (open_from l.i (drop l.i (map slot_of l.slots)))
