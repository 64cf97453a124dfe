use Rattle.std.proofs.Common.{arith, ap}
use Rattle.nand_rising.specs.declared.shape.Shape.{Shape}
use Rattle.nand_rising.proofs.MarkLemmas.{table_short}
use Rattle.nand_rising.proofs.good.good_blocks.Goals as goal

pub take-requires : goal.take-requires
take-requires g c =
    let short = table_short (g.D.Pages.bad c.args.pages.now) c.loop-block.block c.loop-block.good.items c.loop-block.invariant.items in
    let room = c.loop-block.invariant.room in
    let count = ap (λ (s : Shape). s.blocks) c.shape-count.ensures in
    let below = c.loop-block-test.true in
    omega arith
