use Rattle.std.proofs.Common.{◌≡◌, ◌++◌, take}
use Rattle.std.specs.Prelude.{slice_index}
use Rattle.std.specs.List.{flat_map}
use Rattle.serial_view.specs.Turns.{turns_from}
use Rattle.serial_view.proofs.turn_table.append_batch.Given as goal

-- the turns of the sessions so far
abbrev pub invariant-loop-s : goal.invariant-loop-s
invariant-loop-s l = record {
  so_far : l.order.items ≡ l.fn.order.items
      ++ flat_map (λ s. turns_from l.turns s (slice_index l.begun s)) (take l.s-index l.sessions);
}
