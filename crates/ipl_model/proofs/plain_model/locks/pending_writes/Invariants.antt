use Rattle.std.proofs.Common.{◌≡◌, ◌≤◌, map, drop, length}
use Rattle.std.specs.List.{flat_map}
use Rattle.ipl_model.specs.Slots.{open_from}
use Rattle.ipl_model.specs.Plain.{newest_first, slot_of}
use Rattle.ipl_model.proofs.plain_model.locks.pending_writes.Given as goal

-- the writes of the sessions from this one on
abbrev pub invariant-loop-left : goal.invariant-loop-left
invariant-loop-left l = record {
  within : l.left ≤ length l.sessions;
  so_far : newest_first l.all.items ≡ flat_map (λ e. e.1.writes) (open_from l.left (drop l.left (map slot_of l.sessions)));
}

abbrev pub decreases-loop-left : goal.decreases-loop-left
decreases-loop-left l = l.left
