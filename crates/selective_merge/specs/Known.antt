-- What the tables know of the places of a chip.
use Rattle.std.specs.Prelude.{ℕ, ◌≡◌, ◌⊎◌, ◌<◌, ◌≤◌, length, AllPairs, Contains}
use Rattle.ipl_base.specs.declared.limits.TheConstants.{OVERFLOW_PLACES}
use Rattle.ipl_base.specs.Places.{KeepsUnits}
use Rattle.ipl_meaning.specs.Mirrors.{AreApart, NoneIsLost}
use Rattle.ipl_meaning.specs.Tables.{IsFree, Tables, overflow_places}

-- the tables are made for a chip of so many places, and for as many units as may be kept on them
pub record Suits (places : ℕ) (t : Tables) : Type 0 where
  pub all : length t.places.in_use ≡ places
  pub units : KeepsUnits places (length t.places.current)
  pub overflow : length t.overflow.spots ≡ length t.places.current
  pub sized : t.overflow.places ≡ places

-- the place is a unit's, the status place or an overflow place
abbrev pub IsNamed : Tables → ℕ → Type 0
IsNamed t p =
    Contains t.places.current p ⊎ (p ≡ t.status.place) ⊎ Contains (overflow_places t) p

-- The tables know each place: it is in use exactly where it is a unit's, the status place, an overflow
-- place or a retired one; no place is two of these, there are at most two overflow places, and the
-- status place is one of the chip's.
pub record KnowsPlaces (places : ℕ) (t : Tables) : Type 0 where
  pub suits : Suits places t
  pub none_lost : NoneIsLost places t
  pub used : (p : ℕ) → IsNamed t p → ¬ IsFree t.places p
  pub retired_apart : (p : ℕ) → Contains t.places.retired p
      → (¬ IsNamed t p) × (¬ IsFree t.places p)
  pub homes_apart : AllPairs AreApart t.places.current
  pub overflows_apart : AllPairs AreApart (overflow_places t)
  pub no_home : (p : ℕ) → Contains (overflow_places t) p → ¬ Contains t.places.current p
  pub status_apart :
      (¬ Contains t.places.current t.status.place) × (¬ Contains (overflow_places t) t.status.place)
  pub two : length t.overflow.in_use ≤ OVERFLOW_PLACES
  pub status_placed : t.status.place < places
