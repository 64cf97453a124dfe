-- Which pages the live log sectors name, as far as they are found.
use Rattle.std.specs.Prelude.{ℕ, ◌≡◌, ◌<◌, ◌≤◌, ◌+◌, ◌-◌, ◌*◌, nat_lt, Bool, false, map, slice_index, Option, Some, if◌then◌else◌}
use Rattle.ipl_base.specs.declared.limits.TheConstants.{SECTORS, FIRST_LOG_SECTOR}
use Rattle.ipl_meaning.specs.Chart.{Chart}
use Rattle.ipl_meaning.specs.Tables.{Places, OverflowLists, masks_in, with_mask}
use Rattle.overflow.specs.Lists.{spots_in, masks_at}
use Rattle.ipl_meaning.specs.Chosen.{KeptHeader, Winner}
use Rattle.ipl_meaning.specs.Live.{is_overflow_place, live_at}
use Rattle.ipl_meaning.specs.FoundLogs.{mask_of_sector}

-- each unit has the place and the generation that it had, and which are in use or retired and how far they are written is
-- the same
pub record SamePlaces (old new : Places) : Type 0 where
  pub current : new.current ≡ old.current
  pub in_use : new.in_use ≡ old.in_use
  pub retired : new.retired ≡ old.retired
  pub written : new.written ≡ old.written
  pub generations : new.generations ≡ old.generations

-- no log sector at home names a page
abbrev pub NoneNamed : ℕ → Places → Type 0
NoneNamed units it = (u s : ℕ) → u < units → FIRST_LOG_SECTOR ≤ s → s < SECTORS
    → slice_index (masks_in it u) (s - FIRST_LOG_SECTOR) ≡ 0

-- the mask of the unit's log sector is set, where it stands at home
abbrev pub masked : Bool → Places → ℕ → ℕ → ℕ → Places
masked in_overflow it u s mask = if in_overflow then it else with_mask it u s mask

-- which pages the live log sector of the unit at the number k names, by these headers; none, where it has none there
abbrev pub mask_by : (ℕ → Option KeptHeader) → (ℕ → Option Winner) → Chart → ℕ → ℕ → ℕ
mask_by heads current c u k = mask_of_sector u (live_at heads current c k)

-- the mask of the number j, where that is below the number k
abbrev pub mask_below : ℕ → ℕ → ℕ → ℕ
mask_below k j mask = if nat_lt j k then mask else 0

-- the masks have what was found below the number k
pub record IsMasked (heads : ℕ → Option KeptHeader) (current : ℕ → Option Winner) (found : ℕ → ℕ → ℕ) (k : ℕ)
    (it : Places) (lists : OverflowLists) : Type 0 where
  pub home : (u s : ℕ) (winner : Winner) → current u ≡ Some winner → is_overflow_place (heads winner.place) ≡ false
      → FIRST_LOG_SECTOR ≤ s → s < SECTORS
      → slice_index (masks_in it u) (s - FIRST_LOG_SECTOR)
      ≡ mask_below k (winner.place * SECTORS + s) (found u (winner.place * SECTORS + s))
  pub elsewhere : (u : ℕ) → masks_at lists u ≡ map (λ spot. found u (spot.0 * SECTORS + spot.1)) (spots_in lists u)
