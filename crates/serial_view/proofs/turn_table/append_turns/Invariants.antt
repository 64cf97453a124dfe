use Rattle.std.proofs.Common.{◌≡◌, ◌≤◌, ◌-◌, ◌++◌, max, length}
use Rattle.std.specs.Prelude.{filter, slice_index_or, None}
use Rattle.std.specs.List.{range_with_len}
use Rattle.serial_view.specs.Turns.{is_turn_of}
use Rattle.serial_view.proofs.turn_table.append_turns.Given as goal

-- the session's turns so far
abbrev pub invariant-loop-at : goal.invariant-loop-at
invariant-loop-at l = record {
  so_far : l.order.items ≡ l.fn.order.items
      ++ filter (λ j. is_turn_of l.s (slice_index_or l.turns j None)) (range_with_len l.from (l.at - l.from));
  within : l.at ≤ max l.from (length l.turns);
}
