-- A part in memory, as contracts see it.
use Rattle.std.specs.Prelude.{ℕ, Bool, false}
use Rattle.chip_mem.specs.Views.{plain_told_of}
use Rattle.nand_2k.specs.Part.{PartTold}
use Rattle.nand_2k.specs.Tells.{holding}
use Rattle.nand_rising.specs.declared.shape.Shape.{Shape}
use Rattle.nand_rising.specs.Marks.{none_marked}
use Rattle.nand_rising.specs.declared.mem_pages.MemPages.{MemPages}

-- its shape, and what it tells
abbrev pub mem_shape_of : MemPages → Shape
mem_shape_of part = part.shape

abbrev pub mem_pages_told_of : MemPages → PartTold
mem_pages_told_of part = let t = plain_told_of part.chunks in holding t.places t.contents

-- none of its blocks is marked, and nothing has to be corrected
abbrev pub mem_marks_of : MemPages → ℕ → Bool
mem_marks_of part = none_marked

abbrev pub mem_corrected_of : MemPages → Bool
mem_corrected_of part = false
