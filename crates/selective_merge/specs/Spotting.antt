-- Where a log sector of a unit goes.
use Rattle.std.specs.Prelude.{ℕ, ◌≡◌, ◌⊎◌, ◌<◌, ◌≤◌, List, length, slice_index, Contains}
use Rattle.ipl_base.specs.declared.limits.TheConstants.{SECTORS, LOG_SECTORS, OVERFLOW_PLACES, OVERFLOW_SECTORS}
use Rattle.ipl_meaning.specs.Tables.{IsFree, Tables, spots_of, first_log}
use Rattle.ipl_meaning.specs.TableSteps.{taken, with_overflow}
use Rattle.unit_directory.specs.Free.{IsNextFree, AreNext, aside}
use Rattle.selective_merge.specs.Moving.{set_aside}
use Rattle.selective_merge.specs.declared.spots.OverflowChoice.{OverflowChoice}
use Rattle.selective_merge.specs.declared.spots.OverflowChoice.TheVariants.{Clean, NewPlace, Nothing}

-- ---- spots

-- a log sector at the unit's home is known clean and may be written
abbrev pub HasHomeSpot : Tables → ℕ → Type 0
HasHomeSpot t u = slice_index t.places.written u < LOG_SECTORS

-- the first such log sector at the unit's home
pub record IsHomeSpot (t : Tables) (u p s : ℕ) : Type 0 where
  pub left : HasHomeSpot t u
  pub place : p ≡ slice_index t.places.current u
  pub sector : s ≡ first_log t u

-- the first clean sector of an overflow place, for a unit with fewer than 16 log sectors there
pub record IsOverflowSpot (t : Tables) (u p s : ℕ) : Type 0 where
  pub first : Contains t.overflow.in_use (p, s)
  pub within : (1 ≤ s) × (s < SECTORS)
  pub few : length (spots_of t u) < OVERFLOW_SECTORS

-- a log sector of the unit may go there
abbrev pub IsSpotFor : Tables → ℕ → ℕ → ℕ → Type 0
IsSpotFor t u p s = IsHomeSpot t u p s ⊎ IsOverflowSpot t u p s

-- ---- overflow sectors

-- a sector of an overflow place is known clean
abbrev pub HasCleanSpot : Tables → Type 0
HasCleanSpot t = (p s : ℕ) × Contains t.overflow.in_use (p, s) × (s < SECTORS)

-- no lower overflow place has a clean sector
abbrev pub IsLowest : Tables → ℕ → Type 0
IsLowest t p = (q s : ℕ) → Contains t.overflow.in_use (q, s) → s < SECTORS → p ≤ q

-- an overflow sector is to be had for the unit: it has fewer than 16, and one is clean or fewer than
-- two overflow places are in use
abbrev pub MayOverflow : Tables → ℕ → Type 0
MayOverflow t u =
    (length (spots_of t u) < OVERFLOW_SECTORS)
    × (HasCleanSpot t ⊎ (length t.overflow.in_use < OVERFLOW_PLACES))

-- the place is a new overflow place: the next free one, once some places were found worn, each the
-- next free one in its turn, and set aside
pub record OpensNext (t after : Tables) (p next : ℕ) : Type 0 where
  pub worn : List ℕ
  pub in_turn : AreNext t.places worn
  pub next_free : IsNextFree (aside t.places worn) p
  pub tables_are : after ≡ with_overflow (taken (set_aside t worn) p) p next

-- the sector of an overflow place that the unit gets: a clean one, where there is one, and else the
-- first of a new overflow place
pub record TakesOverflow (t after : Tables) (u p s : ℕ) : Type 0 where
  pub spot : IsOverflowSpot after u p s
  pub clean : HasCleanSpot t → (after ≡ t) × IsLowest t p
  pub new : ¬ HasCleanSpot t → IsFree t.places p × (s ≡ 1) × ((next : ℕ) × OpensNext t after p next)

-- what is chosen of this
abbrev pub IsChoice : Tables → ℕ → OverflowChoice → Type 0
IsChoice t u (Clean spot) = IsOverflowSpot t u spot.place spot.sector × IsLowest t spot.place
IsChoice t u NewPlace =
    (length (spots_of t u) < OVERFLOW_SECTORS) × (¬ HasCleanSpot t)
    × (length t.overflow.in_use < OVERFLOW_PLACES)
IsChoice t u Nothing = ¬ MayOverflow t u

-- ---- the rules

-- The first of the rules that applies is followed: the lowest clean log sector at home; where at
-- most 7 sectors would be carried, that of the merged unit; an overflow sector, where one is to be
-- had; that of the merged unit all the same.
pub record FollowsRules (IsMerged : Type 0) (carried : ℕ) (t after : Tables) (u p s : ℕ) : Type 0 where
  pub home : HasHomeSpot t u → (after ≡ t) × IsHomeSpot t u p s
  pub few : ¬ HasHomeSpot t u → carried ≤ 7 → IsMerged × IsHomeSpot after u p s
  pub overflow : ¬ HasHomeSpot t u → 7 < carried → MayOverflow t u → TakesOverflow t after u p s
  pub merged : ¬ HasHomeSpot t u → 7 < carried → ¬ MayOverflow t u
      → IsMerged × IsHomeSpot after u p s
