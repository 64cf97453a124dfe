-- What it comes to that erases are counted, and that each is of the next free place.
use Rattle.std.specs.Prelude.{ℕ, ◌≡◌, ◌⊎◌, ◌<◌, ◌≤◌, true, false, ◌∷◌, ◌++◌, length, slice_index}
use Rattle.chip_trait.specs.declared.event.Event.TheVariants.{Erase, Worn}
use Rattle.chip_trait.specs.Story.{Story}
use Rattle.ipl_meaning.specs.Tables.{Places, IsFree, one_more}
use Rattle.unit_directory.specs.Free.{IsNextFree}
use Rattle.unit_io.specs.Costs.{is_erased, is_tried}
use Rattle.place_taking.specs.Counts.{Counted}
use Rattle.place_taking.specs.Spending.{is_found_worn}

-- a place that wasn't erased among these events counts as it did
abbrev pub OthersCountAsBefore : Type 0
OthersCountAsBefore = (added : Story) (before after : Places) → Counted added before after → (p : ℕ)
    → is_erased added p ≡ false → slice_index after.erases p ≡ slice_index before.erases p

-- one that was erased, and not found worn, counts one more at least; or it is free
abbrev pub ErasesCount : Type 0
ErasesCount = (added : Story) (before after : Places) → Counted added before after → (p : ℕ)
    → p < length before.erases → is_erased added p ≡ true → is_found_worn added p ≡ false
    → (one_more (slice_index before.erases p) ≤ slice_index after.erases p) ⊎ IsFree after p

-- one that was free and wasn't tried is free still
abbrev pub UntriedPlacesStayFree : Type 0
UntriedPlacesStayFree = (added : Story) (before after : Places) → Counted added before after → (p : ℕ)
    → is_tried added p ≡ false → IsFree before p → IsFree after p

-- what the events so far made of places, of which this one is the next free one
pub record IsNextThen (earlier : Story) (before : Places) (p : ℕ) : Type 0 where
  pub then : Places
  pub counted : Counted earlier before then
  pub next : IsNextFree then p

-- so is each that is erased or found worn
abbrev pub EachTriedIsNext : Type 0
EachTriedIsNext = (later earlier : Story) (before after : Places) (p : ℕ)
    → Counted (later ++ Erase p ∷ earlier) before after ⊎ Counted (later ++ Worn p ∷ earlier) before after
    → IsNextThen earlier before p
