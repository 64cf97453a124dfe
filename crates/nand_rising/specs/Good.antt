-- Pages over good blocks, as contracts see them.
use Rattle.std.specs.Prelude.{ℕ, Bool, List, length}
use Rattle.nand_2k.specs.Part.{PartTold}
use Rattle.nand_rising.specs.declared.shape.Shape.{Shape}
use Rattle.nand_rising.specs.declared.pages.Pages.{Ghosts}
use Rattle.nand_rising.specs.declared.good.Good.{Good}
use Rattle.nand_rising.specs.Marks.{telling_good, none_marked}

module _ {D : Type 0} {g : Ghosts D} where
  -- the numbers of the good blocks, in rising order
  abbrev pub good_of : Good D g → List ℕ
  good_of part = part.good.items

  -- the shape of all its pages, and what they tell
  abbrev pub all_shape_of : Good D g → Shape
  all_shape_of part = g.shape part.pages

  abbrev pub all_pages_of : Good D g → PartTold
  all_pages_of part = g.told part.pages

  -- its own shape, of as many blocks as are good
  abbrev pub good_shape_of : Good D g → Shape
  good_shape_of part = record (all_shape_of part) { blocks = length (good_of part) }

  -- all that it tells
  abbrev pub good_told_of : Good D g → PartTold
  good_told_of part = telling_good (good_of part) (all_pages_of part)

  -- none of its blocks is marked
  abbrev pub good_marks_of : Good D g → ℕ → Bool
  good_marks_of part = none_marked

  -- the ECC had to correct what was read last
  abbrev pub good_corrected_of : Good D g → Bool
  good_corrected_of part = g.corrected part.pages
