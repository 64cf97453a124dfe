use Rattle.std.proofs.Common.{arith}
use Rattle.chip_mem.proofs.SectorLemmas.{unwritten}
use Rattle.chip_mem.proofs.sectors.read_written.Goals as goal

pub returns-else-written-n : goal.returns-else-written-n
returns-else-written-n c = unwritten c.args.written.now c.args.sectors.now c.args.place c.args.sector (omega arith)
    c.requires.sector c.if-written-n.false
