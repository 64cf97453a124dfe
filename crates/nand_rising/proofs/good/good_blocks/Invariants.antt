use Rattle.std.proofs.Common.{◌≡◌}
use Rattle.nand_2k.specs.Part.{ChangesStatus}
use Rattle.nand_rising.specs.Marks.{good_in}
use Rattle.nand_rising.proofs.good.good_blocks.Given as goal

abbrev pub invariant-loop-block : goal.invariant-loop-block
invariant-loop-block g l = record {
  shape : g.D.Pages.shape l.pages ≡ g.D.Pages.shape l.fn.pages;
  marks : g.D.Pages.bad l.pages ≡ g.D.Pages.bad l.fn.pages;
  only : ChangesStatus (g.D.Pages.told l.fn.pages) (g.D.Pages.told l.pages);
  items : l.good.items ≡ good_in (g.D.Pages.bad l.fn.pages) l.block;
  room : l.good.room ≡ (g.D.Pages.shape l.fn.pages).blocks;
}
