use Rattle.std.proofs.Common.{ℕ, ◌≡◌, ◌+◌, ◌*◌, IfSome, subst}
use Rattle.chip_trait.specs.Story.{Contents}
use Rattle.nand_rising.proofs.MarkLemmas.{read_good}
use Rattle.nand_rising.proofs.good.GoodPages.read_chunk.Goals as goal

pub returns-clause-bytes : goal.returns-clause-bytes
returns-clause-bytes g c =
    let pages = c.args.self.now.pages in
    let index = c.args.page * (g.D.Pages.shape pages).chunks + c.args.chunk in
    λ e. read_good c.args.self.now.good.items (g.D.Pages.told pages).contents c.args.block index c.read_chunk.new.into c.requires.block
    (subst (λ (k : ℕ). IfSome (g.D.Pages.told pages).contents (λ (x : Contents). c.read_chunk.new.into ≡ x k index)) c.block-block.ensures.value (c.read_chunk.ensures.bytes e))
