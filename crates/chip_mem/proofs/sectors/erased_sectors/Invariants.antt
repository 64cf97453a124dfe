use Rattle.std.proofs.Common.{◌≡◌, replicate, vec_len}
use Rattle.std.specs.Vec.{vec_capacity}
use Rattle.chip_mem.specs.declared.sectors.TheConstants.{BLANK}
use Rattle.chip_mem.proofs.sectors.erased_sectors.Given as goal

abbrev pub invariant-loop-i : goal.invariant-loop-i
invariant-loop-i l = record { items : l.sectors.items ≡ replicate l.i BLANK; len : vec_len l.sectors ≡ l.i; capacity : vec_capacity l.sectors ≡ l.count }
