use Rattle.std.proofs.Common.{◌≡◌, ◌<◌, ◌+◌, ◌*◌, ℕ, [], get_or, length}
use Rattle.chip_mem.specs.Sectors.{written_contents}
use Rattle.nand_2k.specs.Views.{mem_told_of}
use Rattle.nand_2k.proofs.mem_part.MemPartPart.read_page.Given as goal

abbrev pub invariant-loop-quarter : goal.invariant-loop-quarter
invariant-loop-quarter l = record { long : length l.into ≡ 4; same : mem_told_of l.self ≡ mem_told_of l.fn.self; read : (q : ℕ) → q < l.quarter → get_or l.into q [] ≡ written_contents l.fn.self.sectors.written.items l.fn.self.sectors.sectors.items l.block (l.page * 4 + q) }
