-- Pages that hold whoever programs them to their order, as contracts see them.
use Rattle.std.specs.Prelude.{◌≡◌, ◌<◌, ◌≤◌, ◌+◌, ℕ, Bool, List, get_or, set, None}
use Rattle.chip_trait.specs.declared.event.Event.TheVariants.{Program}
use Rattle.chip_mem.specs.Plan.{counted}
use Rattle.nand_2k.specs.declared.part.Status.{Status}
use Rattle.nand_2k.specs.declared.part.Status.TheVariants.{Failed}
use Rattle.nand_2k.specs.Part.{PartTold, AsksPart}
use Rattle.nand_rising.specs.declared.shape.Shape.{Shape}
use Rattle.nand_rising.specs.declared.pages.Pages.{Ghosts}
use Rattle.nand_rising.specs.declared.strict.Strict.{Strict}

-- what is told over pages that tell this: not what they were asked
abbrev pub telling_strict : Status → PartTold → PartTold
telling_strict status pages = record { blocks = pages.blocks; status = status; asked = None; contents = pages.contents }

module _ {D : Type 0} {g : Ghosts D} where
  -- the shape of its pages, and what they tell
  abbrev pub strict_shape_of : Strict D g → Shape
  strict_shape_of part = g.shape part.pages

  abbrev pub strict_pages_of : Strict D g → PartTold
  strict_pages_of part = g.told part.pages

  -- all that it tells
  abbrev pub strict_told_of : Strict D g → PartTold
  strict_told_of part = telling_strict part.said (strict_pages_of part)

  -- the factory's marks, and that the ECC had to correct what was read last
  abbrev pub strict_marks_of : Strict D g → ℕ → Bool
  strict_marks_of part = g.bad part.pages

  abbrev pub strict_corrected_of : Strict D g → Bool
  strict_corrected_of part = g.corrected part.pages

  -- from which chunk on each block may be programmed: behind all that it got since its erase
  abbrev pub free_of : Strict D g → List ℕ
  free_of part = part.free.items

  -- how many programs were refused, up to the last value of the count
  abbrev pub refused_of : Strict D g → ℕ
  refused_of part = part.refused

  -- A program of a chunk, by its number in its block: where it is behind all that the block got, it is asked of the pages; else
  -- it fails and is counted, and nothing is asked.
  pub record IsHeldTo (block index : ℕ) (bytes : List ℕ) (answer : Status) (old new : Strict D g) : Type 0 where
    pub asked : get_or (free_of old) block 0 ≤ index → AsksPart answer (Program block index bytes) (strict_pages_of old) (strict_pages_of new)
    pub free : get_or (free_of old) block 0 ≤ index → free_of new ≡ set (free_of old) block (index + 1)
    pub counts : get_or (free_of old) block 0 ≤ index → refused_of new ≡ refused_of old
    pub fails : index < get_or (free_of old) block 0 → answer ≡ Failed
    pub pages : index < get_or (free_of old) block 0 → strict_pages_of new ≡ strict_pages_of old
    pub left : index < get_or (free_of old) block 0 → free_of new ≡ free_of old
    pub counted : index < get_or (free_of old) block 0 → refused_of new ≡ counted (refused_of old)
