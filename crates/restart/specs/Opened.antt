-- What an opening leaves of the tables, whatever the chip tells.
use Rattle.std.specs.Prelude.{ℕ, ◌↔◌, length, slice_index}
use Rattle.chip_trait.specs.Story.{Contents}
use Rattle.ipl_meaning.specs.Marks.{IsMarked}
use Rattle.ipl_meaning.specs.Tables.{Places, IsFree, Tables, IsCountedClean}
use Rattle.place_taking.specs.Homes.{IsUnknown}
use Rattle.unit_directory.specs.Free.{IsReadyToTake}
use Rattle.restart.specs.Counted.{NoneKnown, HasWholeLog}

-- a place may be taken, however many of the spare ones are worn, and that of the first unit isn't free
pub record HasFree (directory : Places) : Type 0 where
  pub ready : IsReadyToTake directory
  pub first : ¬ IsFree directory (slice_index directory.current 0)

-- the tables count no sector as clean
abbrev pub NoneIsClean : Tables → Type 0
NoneIsClean t = (p s : ℕ) → ¬ IsCountedClean t p s

-- no mark counts: nothing is known of the units' log sectors, and no sector is counted as clean
pub record IsUnmarked (t : Tables) : Type 0 where
  pub unknown : NoneKnown (length t.places.current) t.places
  pub none : NoneIsClean t

-- each sector that is counted as clean is marked
abbrev pub CountsMarked : ℕ → Contents → Tables → Type 0
CountsMarked places x t = (p s : ℕ) → IsCountedClean t p s → IsMarked places x p s

-- each sector that is marked is counted as clean, where its unit's log is whole
abbrev pub CountsWhole : ℕ → Contents → Tables → Type 0
CountsWhole places x t = (p s : ℕ) → IsMarked places x p s → HasWholeLog x p → IsCountedClean t p s

-- something is known of each unit that is marked and whose log is whole
abbrev pub KnowsWhole : ℕ → Contents → Tables → Type 0
KnowsWhole places x t = (p s : ℕ) (it : IsMarked places x p s) → HasWholeLog x p → ¬ IsUnknown t.places it.unit

-- a sector is counted as clean exactly where it is marked and its unit's log is whole
abbrev pub CountsExactly : ℕ → Contents → Tables → Type 0
CountsExactly places x t = (p s : ℕ) → IsCountedClean t p s ↔ (IsMarked places x p s × HasWholeLog x p)
