use Rattle.std.proofs.Common.{◌≡◌, ◌≤◌, ◌+◌, ◌*◌, ◌^◌}
use Rattle.std.specs.Prelude.{sum_by}
use Rattle.std.specs.List.{range_with_len}
use Rattle.serial_view.specs.Running.{run_of, room_in}
use Rattle.serial_view.proofs.running.Running.fill.Given as goal

-- the slots so far
abbrev pub invariant-loop-slot : goal.invariant-loop-slot
invariant-loop-slot l = record {
  so_far : l.total ≡ sum_by (λ slot. room_in (run_of l.self) l.name l.size (l.first + slot)) (range_with_len 0 l.slot);
  few : l.total ≤ 2 ^ 32 * l.slot;
}
