-- Slots over pages, as contracts see them.
use Rattle.std.specs.Prelude.{Bool}
use Rattle.nand_2k.specs.Part.{PartTold}
use Rattle.nand_rising.specs.declared.shape.Shape.{Shape}
use Rattle.nand_rising.specs.declared.pages.Pages.{Ghosts}
use Rattle.nand_rising.specs.declared.shaped.Shaped.{Shaped}
use Rattle.nand_rising.specs.Pages.{telling_pages}

module _ {D : Type 0} {g : Ghosts D} where
  -- the shape of its pages, and what they tell
  abbrev pub shape_of : Shaped D g → Shape
  shape_of part = g.shape part.pages

  abbrev pub pages_of : Shaped D g → PartTold
  pages_of part = g.told part.pages

  -- all that it tells
  abbrev pub shaped_told_of : Shaped D g → PartTold
  shaped_told_of part = telling_pages (shape_of part) part.said (pages_of part)

  -- the ECC had to correct what was read last
  abbrev pub shaped_corrected_of : Shaped D g → Bool
  shaped_corrected_of part = g.corrected part.pages
