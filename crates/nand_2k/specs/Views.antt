-- A chip over a part, and a part in memory, as contracts see them.
use Rattle.std.specs.Prelude.{◌≡◌, ℕ, Some}
use Rattle.chip_trait.specs.Told.{Told}
use Rattle.chip_mem.specs.Views.{plain_told_of}
use Rattle.nand_2k.specs.declared.part.Part.{Ghosts}
use Rattle.nand_2k.specs.declared.chip.Nand2k.{Nand2k}
use Rattle.nand_2k.specs.declared.mem_part.MemPart.{MemPart}
use Rattle.nand_2k.specs.Part.{PartTold}
use Rattle.nand_2k.specs.Tells.{telling_part, holding}

module _ {P : Type 0} {g : Ghosts P} where
  -- what its part tells
  abbrev pub part_of : Nand2k P g → PartTold
  part_of chip = g.told chip.part

  -- all that it tells
  abbrev pub nand_told_of : Nand2k P g → Told
  nand_told_of chip = telling_part (part_of chip) chip.faults chip.worn

  -- the page is in memory
  abbrev pub HasInMemory : Nand2k P g → ℕ → ℕ → Type 0
  HasInMemory chip block page = chip.cached ≡ Some (record { block = block; page = page })

-- what a part in memory tells
abbrev pub mem_told_of : MemPart → PartTold
mem_told_of part = let t = plain_told_of part.sectors in holding t.places t.contents
