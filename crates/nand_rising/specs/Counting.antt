-- Slots whose corrected reads are counted, as contracts see them.
use Rattle.std.specs.Prelude.{ℕ, ◌+◌, Bool, List, get_or, set, min}
use Rattle.nand_2k.specs.Part.{PartTold}
use Rattle.nand_rising.specs.declared.part.SlotPart.{Ghosts}
use Rattle.nand_rising.specs.declared.counting.Counting.{Counting}

-- one more at a place, up to 255
abbrev pub counted_at : List ℕ → ℕ → List ℕ
counted_at counts place = set counts place (min (get_or counts place 0 + 1) 255)

module _ {P : Type 0} {g : Ghosts P} where
  -- what its part tells
  abbrev pub counting_told_of : Counting P g → PartTold
  counting_told_of counting = g.told counting.part

  -- the part's ECC had to correct what was read last
  abbrev pub was_corrected : Counting P g → Bool
  was_corrected counting = g.corrected counting.part

  -- how many reads were corrected since its last erase or the start, of each place
  abbrev pub counts_of : Counting P g → List ℕ
  counts_of counting = counting.counts.items
