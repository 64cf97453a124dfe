use Rattle.std.proofs.Common.{map, take}
use Rattle.serial_view.specs.Running.{Sets}
use Rattle.serial_view.proofs.size_table.clear_sizes.Given as goal

-- those of the names so far
abbrev pub invariant-loop-name : goal.invariant-loop-name
invariant-loop-name l = Sets (take l.name-index (map (λ n. n.0) l.names)) (λ n. 0) l.fn.sizes.items l.sizes.items
