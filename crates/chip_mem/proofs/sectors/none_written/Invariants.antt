use Rattle.std.proofs.Common.{◌≡◌, false, replicate, vec_len}
use Rattle.std.specs.Vec.{vec_capacity}
use Rattle.chip_mem.proofs.sectors.none_written.Given as goal

abbrev pub invariant-loop-i : goal.invariant-loop-i
invariant-loop-i l = record { items : l.written.items ≡ replicate l.i false; len : vec_len l.written ≡ l.i; capacity : vec_capacity l.written ≡ l.count }
