-- The units of whose log sectors nothing is known, and their places.
use Rattle.std.specs.Prelude.{ℕ, ◌≡◌, ◌<◌, ◌≤◌, Bool, false, length, slice_index}
use Rattle.chip_trait.specs.Story.{Story}
use Rattle.ipl_meaning.specs.Tables.{Places, IsFree, UNKNOWN_LOGS}
use Rattle.unit_io.specs.Costs.{is_tried}
use Rattle.place_taking.specs.Counts.{Counted}
use Rattle.place_taking.specs.Spending.{RetiresWorn}

-- nothing is known of the unit's log sectors
abbrev pub IsUnknown : Places → ℕ → Type 0
IsUnknown it u = UNKNOWN_LOGS ≤ slice_index it.written u

-- no unit's place is free
abbrev pub HomesAreUsed : Places → Type 0
HomesAreUsed it = (u : ℕ) → u < length it.current → ¬ IsFree it (slice_index it.current u)

-- there was such a unit, nothing was known of it, and it has the place that it had
pub record StaysHome (before after : Places) (u : ℕ) : Type 0 where
  pub low : u < length before.current
  pub unknown : IsUnknown before u
  pub place : slice_index after.current u ≡ slice_index before.current u

-- each unit of which nothing is known then stayed so
abbrev pub KeepsHomes : Places → Places → Type 0
KeepsHomes before after = (u : ℕ) → u < length after.current → IsUnknown after u
    → StaysHome before after u

-- A unit whose place was erased is known: each of which nothing is known then stayed so, and no erase
-- of its place was tried.
abbrev pub ErasesKnown : Places → Places → Story → Type 0
ErasesKnown before after added = (u : ℕ) → u < length after.current → IsUnknown after u
    → StaysHome before after u × (is_tried added (slice_index before.current u) ≡ false)

-- What these events leave of places: which are retired, that a unit whose place was erased is known, and that
-- each erase is of the next free place then, and counted.
pub record LeavesPlaces (before after : Places) (worn_out : Bool) (added : Story) : Type 0 where
  pub retires : RetiresWorn before after worn_out added
  pub homes : ErasesKnown before after added
  pub counted : Counted added before after
