use Rattle.std.proofs.Common.{rules, ◌+◌, ◌*◌, ℕ, List, ap, arith}
use Rattle.std.proofs.Math.ListN.{length-set}
use Rattle.chip_mem.specs.Sectors.{written_contents}
use Rattle.nand_2k.specs.Part.{PartTold}
use Rattle.nand_2k.proofs.SectorLemmas.{one_quarter_more, read_there}
use Rattle.nand_2k.proofs.mem_part.MemPartPart.read_page.Goals as goal

pub loop-quarter-preserved : goal.loop-quarter-preserved
loop-quarter-preserved c =
    let x = written_contents c.args.self.now.sectors.written.items c.args.self.now.sectors.sectors.items in
    let page = c.args.page * 4 in
    let q = c.loop-quarter.quarter in
    let same = ap (λ (t : PartTold). t.contents) c.loop-quarter.invariant.same in
    let here = read_there c.read.result c.read.new.into c.args.block (page + q) _ x c.read.ensures.never c.read.ensures.bytes same in
    record {
      long = omega (arith, length-set {A = List ℕ});
      same = search rules;
      read = one_quarter_more c.loop-quarter.into q c.read.new.into (λ i. x c.args.block (page + i)) (omega arith) c.loop-quarter.invariant.read here;
    }
