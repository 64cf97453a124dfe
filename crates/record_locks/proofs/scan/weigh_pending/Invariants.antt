use Rattle.std.proofs.Common.{◌≡◌, ◌≤◌, ◌*◌, take}
use Rattle.std.specs.List.{sum_by}
use Rattle.ipl_base.specs.declared.limits.TheConstants.{LONG_WEIGHT, SESSION_NAMES}
use Rattle.record_locks.specs.Held.{slot_weight}
use Rattle.record_locks.proofs.scan.weigh_pending.Given as goal

abbrev pub invariant-loop-slot : goal.invariant-loop-slot
invariant-loop-slot l = record { so_far : l.weight ≡ sum_by (λ o. slot_weight o l.unit) (take l.slot-index l.slots); few : l.weight ≤ LONG_WEIGHT * SESSION_NAMES * l.slot-index }
