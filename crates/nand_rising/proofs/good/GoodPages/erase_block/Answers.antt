use Rattle.std.proofs.Common.{ℕ, subst}
use Rattle.chip_trait.specs.declared.event.Event.TheVariants.{Erase}
use Rattle.nand_2k.specs.Part.{AsksErase}
use Rattle.nand_rising.proofs.MarkLemmas.{erases_good, table_rises}
use Rattle.nand_rising.proofs.good.GoodPages.erase_block.Goals as goal

pub returns-clause-asks : goal.returns-clause-asks
returns-clause-asks g c =
    let pages = c.args.self.now.pages in
    let good = c.args.self.now.good.items in
    let now = g.D.Pages.told c.erase_block.new.self in
    erases_good good (table_rises (g.D.Pages.bad pages) (g.D.Pages.shape pages).blocks good c.args.self.now.table) c.erase_block.result c.args.block (g.D.Pages.told pages) now c.requires
    (subst (λ (k : ℕ). AsksErase c.erase_block.result (Erase k) (g.D.Pages.told pages) now) c.block-block.ensures.value c.erase_block.ensures.asks)
