use Rattle.std.proofs.Common.{ℕ, ◌+◌, ◌*◌, length, IfSome, sym, subst}
use Rattle.chip_trait.specs.Story.{Contents}
use Rattle.chip_trait.specs.declared.event.Event.TheVariants.{Program}
use Rattle.nand_2k.specs.Part.{AsksPart}
use Rattle.nand_rising.specs.Shapes.{AreErasedFrom}
use Rattle.nand_rising.proofs.MarkLemmas.{rising_good, asks_good, table_rises}
use Rattle.nand_rising.proofs.good.GoodPages.program_chunk.Goals as goal

pub program_chunk-requires-clause-rising : goal.program_chunk-requires-clause-rising
program_chunk-requires-clause-rising g c =
    let pages = c.args.self.now.pages in
    subst (λ (k : ℕ). IfSome (g.D.Pages.told pages).contents (λ (x : Contents). AreErasedFrom (g.D.Pages.shape pages) c.args.page c.args.chunk (x k))) (sym c.block-block.ensures.value)
    (rising_good c.args.self.now.good.items (g.D.Pages.told pages).contents (g.D.Pages.shape pages) (length c.args.self.now.good.items) c.args.block c.args.page c.args.chunk c.requires.block c.requires.rising)

pub returns-clause-asks : goal.returns-clause-asks
returns-clause-asks g c =
    let pages = c.args.self.now.pages in
    let good = c.args.self.now.good.items in
    let index = c.args.page * (g.D.Pages.shape pages).chunks + c.args.chunk in
    let now = g.D.Pages.told c.program_chunk.new.self in
    asks_good good (table_rises (g.D.Pages.bad pages) (g.D.Pages.shape pages).blocks good c.args.self.now.table) c.program_chunk.result c.args.block index c.args.from.now (g.D.Pages.told pages) now c.requires.block
    (subst (λ (k : ℕ). AsksPart c.program_chunk.result (Program k index c.args.from.now) (g.D.Pages.told pages) now) c.block-block.ensures.value c.program_chunk.ensures.asks)
