use Rattle.std.proofs.Common.{map, take}
use Rattle.std.specs.Prelude.{slice_index}
use Rattle.serial_view.specs.Running.{Sets}
use Rattle.serial_view.proofs.size_table.copy_sizes.Given as goal

-- those of the names so far
abbrev pub invariant-loop-name : goal.invariant-loop-name
invariant-loop-name l = Sets (take l.name-index (map (λ n. n.0) l.names)) (slice_index l.from.items) l.fn.sizes.items
    l.sizes.items
