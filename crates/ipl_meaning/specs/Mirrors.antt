-- The tables in memory say what the chip's sectors say.
use Rattle.std.specs.Prelude.{ℕ, ◌≡◌, ◌≢◌, ◌↔◌, ◌⊎◌, ◌<◌, ◌≤◌, false, IsTrue, length, map, slice_index, None, All, AllPairs, Contains}
use Rattle.ipl_base.specs.declared.limits.TheConstants.{SECTORS, FIRST_LOG_SECTOR, LOG_SECTORS, OVERFLOW_PLACES, OVERFLOW_SECTORS}
use Rattle.ipl_format.specs.Sector.{Sector}
use Rattle.ipl_meaning.specs.Chart.{Chart, IsOverflow}
use Rattle.ipl_meaning.specs.Layout.{Layout, Laid, IsLiveIn}
use Rattle.ipl_meaning.specs.Steps.{NoMarkHas}
use Rattle.ipl_meaning.specs.Masks.{mask_at, mask_at_spot}
use Rattle.ipl_meaning.specs.Found.{IsAbove}
use Rattle.ipl_meaning.specs.Tables.{IsFree, Tables, masks_in, spots_of, masks_of, home_mask, overflow_places, written_of, first_log, clean_from, UNKNOWN_LOGS, IsCountedClean}

-- the two are not the same
abbrev pub AreApart : {X : Type 0} → X → X → Type 0
AreApart x y = x ≢ y

-- the directory has each unit's place and generation, and a count for each place; no place in use is free
pub record MirrorsPlaces (places : ℕ) (it : Layout) (t : Tables) : Type 0 where
  pub units : length t.places.current ≡ it.count
  pub logs : length t.places.written ≡ it.count
  pub all : length t.places.in_use ≡ places
  pub counts : length t.places.erases ≡ places
  pub current : (u : ℕ) → u < it.count
      → slice_index t.places.current u ≡ (it.units u).home
  pub heads : length t.places.generations ≡ it.count
  pub generation : (u : ℕ) → u < it.count
      → slice_index t.places.generations u ≡ (it.units u).head.generation
  pub not_home : (p : ℕ) → IsFree t.places p → (u : ℕ) → u < it.count
      → (it.units u).home ≢ p
  pub not_status : (p : ℕ) → IsFree t.places p → it.status ≢ p
  pub not_overflow : (p : ℕ) → IsFree t.places p → ¬ Contains (overflow_places t) p

-- the overflow lists have exactly the live sectors that stand elsewhere
pub record MirrorsOverflow (places : ℕ) (c : Chart) (it : Layout) (t : Tables) : Type 0 where
  pub units : length t.overflow.spots ≡ it.count
  pub listed : (u p s : ℕ) (sector : Sector) → u < it.count
      → IsLiveIn c places it u p s sector
      → p ≢ (it.units u).home → Contains (spots_of t u) (p, s)
  pub only : (u p s : ℕ) → u < it.count → Contains (spots_of t u) (p, s)
      → (p ≢ (it.units u).home) × (sector : Sector) × IsLiveIn c places it u p s sector
  pub once : (u : ℕ) → u < it.count → AllPairs AreApart (spots_of t u)
  pub few : (u : ℕ) → u < it.count → length (spots_of t u) ≤ OVERFLOW_SECTORS
  pub in_overflow : (u p s : ℕ) → u < it.count → Contains (spots_of t u) (p, s) → Contains (overflow_places t) p
  pub headed : (p : ℕ) → Contains (overflow_places t) p → (p < places) × IsOverflow c p
  pub two : length t.overflow.in_use ≤ OVERFLOW_PLACES
  pub apart : AllPairs AreApart (overflow_places t)

-- the status table has the status place, its generation and the committed numbers
pub record MirrorsStatus (it : Layout) (t : Tables) : Type 0 where
  pub place : t.status.place ≡ it.status
  pub generation : t.status.generation ≡ it.head.generation
  pub numbers : (tid : ℕ) → IsTrue (it.committed tid) ↔ Contains t.status.numbers tid

-- the counter is above all numbers found or open, and the open ones are distinct and not committed
pub record MirrorsNumbers (places : ℕ) (c : Chart) (it : Layout) (t : Tables) : Type 0 where
  pub above : IsAbove places c it t.next
  pub below : All (λ n. n < t.next) t.active
  pub once : AllPairs AreApart t.active
  pub waits : All (λ n. it.committed n ≡ false) t.active

-- each live log sector's mask has the pages that its records name, and every other sector's has none
pub record MirrorsMasks (it : Layout) (t : Tables) : Type 0 where
  pub units : length t.places.masks ≡ it.count
  pub lists : length t.overflow.masks ≡ it.count
  pub sectors : (u : ℕ) → u < it.count → length (masks_in t.places u) ≡ LOG_SECTORS
  pub home : (u s : ℕ) → u < it.count → FIRST_LOG_SECTOR ≤ s → s < SECTORS
      → home_mask t u s ≡ mask_at (it.units u).log (it.units u).home s
  pub elsewhere : (u : ℕ) → u < it.count
      → masks_of t u ≡ map (mask_at_spot (it.units u).log) (spots_of t u)

-- what the tables know of the log sectors at the units' places
pub record MirrorsLogs (c : Chart) (it : Layout) (t : Tables) : Type 0 where
  -- where one may be written, no mark behind the unit's header has the unit
  pub unmarked : (u : ℕ) → u < it.count → first_log t u < SECTORS → NoMarkHas c it u
  -- where something is known, each that counts as written checks
  pub whole : (u n : ℕ) → u < it.count → written_of t u < UNKNOWN_LOGS → FIRST_LOG_SECTOR ≤ n → n < clean_from t u
      → c (it.units u).home n ≢ None

-- no place is lost: each that is in use is a unit's, the status place, an overflow place or a retired one
abbrev pub NoneIsLost : ℕ → Tables → Type 0
NoneIsLost places t = (p : ℕ) → p < places → ¬ IsFree t.places p
    → Contains t.places.current p ⊎ (p ≡ t.status.place) ⊎ Contains (overflow_places t) p
    ⊎ Contains t.places.retired p

-- the tables say what the chart is laid out as
pub record Mirrors (places : ℕ) (c : Chart) (it : Layout) (t : Tables) : Type 0 where
  pub laid : Laid places c it
  pub directory : MirrorsPlaces places it t
  pub overflow : MirrorsOverflow places c it t
  pub status : MirrorsStatus it t
  pub numbers : MirrorsNumbers places c it t
  pub masks : MirrorsMasks it t
  pub logs : MirrorsLogs c it t
  -- no sector that is counted as clean checks
  pub counted_clean : (p s : ℕ) → IsCountedClean t p s → c p s ≡ None
