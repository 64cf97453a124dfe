-- The page in memory.
use Rattle.std.specs.Prelude.{◌≡◌, ℕ, List, Option, Some}
use Rattle.chip_trait.specs.Story.{Contents}
use Rattle.nand_2k.specs.declared.page_at.PageAt.{PageAt}
use Rattle.nand_2k.specs.Part.{AreQuarters}

-- the page in memory, where there is one, is what the part holds there
abbrev pub IsCached : Option Contents → Option PageAt → List (List ℕ) → Type 0
IsCached contents cached quarters = (at : PageAt) → cached ≡ Some at → AreQuarters contents at.block at.page quarters
