-- What a chip answers for what its part says, and what it tells then.
use Rattle.std.specs.Prelude.{ℕ, Bool, true, false, Option, Some, None}
use Rattle.chip_trait.specs.declared.event.Event.TheVariants.{Erase}
use Rattle.chip_trait.specs.declared.wear.Wear.{Wear}
use Rattle.chip_trait.specs.declared.wear.Wear.TheVariants.{Done, Worn}
use Rattle.chip_trait.specs.Told.{Told}
use Rattle.chip_mem.specs.Tells.{appended, found_worn}
use Rattle.nand_2k.specs.declared.part.Status.{Status}
use Rattle.nand_2k.specs.declared.part.Status.TheVariants.{Passed, Failed, Unknown}

-- a read or a program fails unless it passed
abbrev pub fails : Status → Bool
fails Passed = false
fails Failed = true
fails Unknown = true

-- an erase that failed says that its block is worn, and one of which nothing is known fails
abbrev pub wear_of : Status → Option Wear
wear_of Passed = Some Done
wear_of Failed = Some Worn
wear_of Unknown = None

-- after an erase that is answered so
abbrev pub told_after_wear : Wear → ℕ → Told → Told
told_after_wear Done p t = appended (Erase p) t
told_after_wear Worn p t = found_worn p t
