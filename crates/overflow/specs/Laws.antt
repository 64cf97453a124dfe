-- What the calls on overflow places come to in the words of the tables.
use Rattle.std.specs.Prelude.{ℕ, ◌≡◌, ◌≢◌, ◌<◌, ◌≤◌, List, map, length, Some, None, All, AllPairs, Contains}
use Rattle.ipl_base.specs.declared.limits.TheConstants.{SECTORS}
use Rattle.ipl_meaning.specs.Tables.{OverflowLists, Tables, place_of, overflow_places}
use Rattle.ipl_meaning.specs.Mirrors.{AreApart}
use Rattle.ipl_meaning.specs.TableSteps.{after_overflow_log}
use Rattle.ipl_meaning.specs.FirstTables.{first_tables}
use Rattle.overflow.specs.Lists.{empty_lists, after_add, after_drop, places_left, spots_in, first_spot}

-- The spot that is offered is the first clean sector of a place in use, no lower place has a clean
-- sector, and none is offered exactly where no place has one.
pub record OffersSpots (places : List (ℕ × ℕ)) : Type 0 where
  pub some : (p s : ℕ) → first_spot None places ≡ Some (p, s)
      → Contains places (p, s) × (s < SECTORS)
  pub lowest : (p s : ℕ) → first_spot None places ≡ Some (p, s)
      → (q first : ℕ) → Contains places (q, first) → first < SECTORS → p ≤ q
  pub none : first_spot None places ≡ None
      → (p first : ℕ) → Contains places (p, first) → SECTORS ≤ first

abbrev pub SpotsAreCleanOnes : Type 0
SpotsAreCleanOnes = (places : List (ℕ × ℕ)) → OffersSpots places

-- to add a place's first clean sector is a log sector written there
abbrev pub FirstSpotsAreAdded : Type 0
FirstSpotsAreAdded = (t : Tables) (u p s mask next : ℕ)
    → AllPairs AreApart (overflow_places t) → Contains t.overflow.in_use (p, s)
    → after_add t.overflow u p s mask ≡ (after_overflow_log t u p s mask next).overflow

-- to add a sector that isn't clean changes the lists alone
abbrev pub FoundSpotsAreAdded : Type 0
FoundSpotsAreAdded = (it : OverflowLists) (u p s mask : ℕ)
    → ((first : ℕ) → Contains it.in_use (p, first) → s < first)
    → (after_add it u p s mask).in_use ≡ it.in_use

-- what a unit's move to a new place makes of the table
pub record OverflowMoves (before after : OverflowLists) (u : ℕ) : Type 0 where
  pub sized : after.places ≡ before.places
  pub some : All (Contains before.in_use) after.in_use
  pub fewer : length after.in_use ≤ length before.in_use
  pub apart : AllPairs AreApart (map place_of before.in_use)
      → AllPairs AreApart (map place_of after.in_use)
  -- a place that another unit's list names stays in use
  pub named : (v q s : ℕ) → v ≢ u
      → Contains (spots_in before v) (q, s) → Contains (map place_of before.in_use) q
      → Contains (map place_of after.in_use) q
  -- and the places that are answered are exactly those that don't stay
  pub left : (q : ℕ) → Contains (places_left before u) q
      → Contains (map place_of before.in_use) q × ¬ Contains (map place_of after.in_use) q
  pub all_left : (q : ℕ)
      → Contains (map place_of before.in_use) q → ¬ Contains (map place_of after.in_use) q
      → Contains (places_left before u) q

-- to drop a unit's spots is such a move
abbrev pub DropsMove : Type 0
DropsMove = (it : OverflowLists) (u : ℕ) → OverflowMoves it (after_drop it u) u

-- an empty table is that of a formatted chip
abbrev pub EmptyListsAreFirst : Type 0
EmptyListsAreFirst = (places units : ℕ)
    → empty_lists places units ≡ (first_tables places units).overflow
