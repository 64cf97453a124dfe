-- What each step makes of the tables, and what it asks of them.
use Rattle.std.specs.Prelude.{ℕ, ◌≡◌, ◌≢◌, ◌⊎◌, ◌<◌, ◌≤◌, ◌+◌, ◌-◌, ◌==◌, true, List, [], ◌∷◌, ◌++◌, map, length, slice_index, slice_set, None, All, AllPairs, Contains, if◌then◌else◌}
use Rattle.ipl_base.specs.declared.limits.TheConstants.{SECTORS, FIRST_LOG_SECTOR, LOG_SECTORS, OVERFLOW_PLACES}
use Rattle.ipl_format.specs.Sector.{Sector}
use Rattle.ipl_format.specs.Record.{Record, SpellsLog}
use Rattle.ipl_format.specs.Header.{SpellsDataHeader}
use Rattle.ipl_meaning.specs.Chart.{Chart, IsDataHeader, IsLive}
use Rattle.ipl_meaning.specs.Layout.{Entry, Shape, Layout, AllRise, IsEntry}
use Rattle.ipl_meaning.specs.Masks.{mask_at}
use Rattle.ipl_meaning.specs.Tables.{IsFree, with_use, with_erased, with_retired, with_written, with_mask, with_marks_ended, Tables, spots_of, masks_of, overflow_places, first_log, IsCountedClean}
use Rattle.ipl_meaning.specs.Mirrors.{AreApart}

-- a log sector as the counter and the open sessions make it
pub record IsFreshLog (it : Layout) (t : Tables) (u : ℕ) (sector : Sector) (records : List Record) : Type 0 where
  pub kind : sector.kind ≡ 5
  pub of_unit : sector.unit ≡ u
  pub of_generation : sector.generation ≡ (it.units u).head.generation
  pub new : t.next ≤ sector.serial
  pub spelled : SpellsLog sector.version sector.payload records
  pub active : All (λ r. Contains t.active r.tid) records

-- a place with its log sectors, ready for a header of a new generation
pub record IsReady (places : ℕ) (c : Chart) (t : Tables) (u p : ℕ) (fresh : Shape) : Type 0 where
  pub within : p < places
  pub bare : c p 0 ≡ None
  pub home : fresh.home ≡ p
  pub fits : IsDataHeader u fresh.head
  pub counts : SpellsDataHeader fresh.head.version (length t.places.current) fresh.pieces
      fresh.head.payload
  pub new_generation : t.next ≤ fresh.head.generation
  pub new_serial : t.next ≤ fresh.head.serial
  pub each : All (IsEntry c places u p fresh.head.generation) fresh.log
  pub gathered : All (λ e. e.place ≡ p) fresh.log
  pub all : (s : ℕ) (sector : Sector) → IsLive c places u p fresh.head.generation p s sector
      → (e : Entry) × Contains fresh.log e × (e.number ≡ s)
  pub rising : AllRise fresh.log

-- a log sector that names these pages was written to the unit's first clean one
abbrev pub after_home_log : Tables → ℕ → ℕ → ℕ → Tables
after_home_log t u mask next = record {
  places = with_mask (with_written t.places u) u (first_log t u) mask;
  overflow = t.overflow;
  status = t.status;
  next = next;
  active = t.active;
}

-- the overflow place's first clean sector is the next one now
abbrev pub with_next_spot : ℕ → ℕ × ℕ → ℕ × ℕ
with_next_spot p it = if it.0 == p then (it.0, it.1 + 1) else it

-- a log sector of the unit that names these pages was written to this spot of an overflow place
abbrev pub after_overflow_log : Tables → ℕ → ℕ → ℕ → ℕ → ℕ → Tables
after_overflow_log t u p s mask next = record {
  places = t.places;
  overflow = record {
    places = t.overflow.places;
    spots = slice_set t.overflow.spots u (spots_of t u ++ (p, s) ∷ []);
    masks = slice_set t.overflow.masks u (masks_of t u ++ mask ∷ []);
    in_use = map (with_next_spot p) t.overflow.in_use;
  };
  status = t.status;
  next = next;
  active = t.active;
}

-- a commit sector of these numbers was written, and these sessions are still open
abbrev pub after_commit : Tables → List ℕ → ℕ → List ℕ → Tables
after_commit t numbers next active = record {
  places = t.places;
  overflow = t.overflow;
  status = record {
    place = t.status.place;
    generation = t.status.generation;
    numbers = t.status.numbers ++ numbers;
    most = t.status.most;
    first = t.status.first + 1;
  };
  next = next;
  active = active;
}

-- what is counted as clean after a step was so before, and is not the sector just written
abbrev pub CountedShrink : Tables → Tables → ℕ → ℕ → Type 0
CountedShrink t after p s = (q n : ℕ) → IsCountedClean after q n → IsCountedClean t q n × (q ≡ p → n ≢ s)

-- what is counted as clean after a step was so before, or is a sector of this place from one on; and it is not the sector
-- just written
abbrev pub CountedMove : Tables → Tables → ℕ → ℕ → ℕ → Type 0
CountedMove t after p s from = (q n : ℕ) → IsCountedClean after q n
    → (IsCountedClean t q n ⊎ ((q ≡ p) × (from ≤ n) × (n < SECTORS))) × (q ≡ p → n ≢ s)

-- no mark counts any more
abbrev pub without_marks : Tables → Tables
without_marks t = record { places = with_marks_ended t.places; overflow = t.overflow; status = t.status; next = t.next; active = t.active }

-- numbers were drawn
abbrev pub with_next : Tables → ℕ → Tables
with_next t next = record { places = t.places; overflow = t.overflow; status = t.status; next = next; active = t.active }

-- the places were erased so often
abbrev pub with_erases : Tables → List ℕ → Tables
with_erases t erases = record { places = record t.places { erases = erases }; overflow = t.overflow; status = t.status; next = t.next; active = t.active }

-- these places are retired
abbrev pub with_all_retired : Tables → List ℕ → Tables
with_all_retired t retired = record { places = record t.places { retired = retired }; overflow = t.overflow; status = t.status; next = t.next; active = t.active }

-- the place was taken and found worn: it is retired
abbrev pub without_worn : Tables → ℕ → Tables
without_worn t p = record { places = with_retired (with_use t.places p true) p; overflow = t.overflow; status = t.status; next = t.next; active = t.active }

-- the place was taken, and erased for it
abbrev pub taken : Tables → ℕ → Tables
taken t p = record { places = with_erased (with_use t.places p true) p; overflow = t.overflow; status = t.status; next = t.next; active = t.active }

-- the tables once the unit stands at its new place, with this many log sectors written there, at most 15
pub record IsMoved (t after : Tables) (u p used : ℕ) : Type 0 where
  pub current : after.places.current ≡ slice_set t.places.current u p
  pub written : after.places.written ≡ slice_set t.places.written u used
  pub few : used ≤ LOG_SECTORS
  pub all : length after.places.in_use ≡ length t.places.in_use
  pub erases : after.places.erases ≡ t.places.erases
  pub retired : after.places.retired ≡ t.places.retired
  -- what is free now was free, or was the unit's place, or was an overflow place that no list names any more
  pub free : (q : ℕ) → IsFree after.places q
      → IsFree t.places q ⊎ (q ≡ slice_index t.places.current u)
      ⊎ (Contains (overflow_places t) q × ¬ Contains (overflow_places after) q)
  pub sized : after.overflow.places ≡ t.overflow.places
  pub spots : after.overflow.spots ≡ slice_set t.overflow.spots u []
  pub some : All (Contains t.overflow.in_use) after.overflow.in_use
  pub two : length after.overflow.in_use ≤ OVERFLOW_PLACES
  pub apart : AllPairs AreApart (overflow_places after)
  pub named : (v q s : ℕ) → v ≢ u → Contains (spots_of t v) (q, s) → Contains (overflow_places t) q
      → Contains (overflow_places after) q
  pub status : after.status ≡ t.status
  pub next : t.next ≤ after.next
  pub active : after.active ≡ t.active

-- the unit's generation once it stands at its new place, and which pages its log sectors name there
pub record TellsShape (t after : Tables) (u : ℕ) (fresh : Shape) : Type 0 where
  pub generation : after.places.generations ≡ slice_set t.places.generations u fresh.head.generation
  pub masks : List ℕ
  pub sectors : length masks ≡ LOG_SECTORS
  pub each : (s : ℕ) → FIRST_LOG_SECTOR ≤ s → s < SECTORS
      → slice_index masks (s - FIRST_LOG_SECTOR) ≡ mask_at fresh.log fresh.home s
  pub home : after.places.masks ≡ slice_set t.places.masks u masks
  pub elsewhere : after.overflow.masks ≡ slice_set t.overflow.masks u []

-- the tables once the status stands at its new place, its first clean sector being this one
pub record IsRenewed (t after : Tables) (p own from : ℕ) : Type 0 where
  pub current : after.places.current ≡ t.places.current
  pub written : after.places.written ≡ t.places.written
  pub generations : after.places.generations ≡ t.places.generations
  pub masks : after.places.masks ≡ t.places.masks
  pub all : length after.places.in_use ≡ length t.places.in_use
  pub erases : after.places.erases ≡ t.places.erases
  pub retired : after.places.retired ≡ t.places.retired
  -- what is free now was free, or was the status place
  pub free : (q : ℕ) → IsFree after.places q → IsFree t.places q ⊎ (q ≡ t.status.place)
  pub overflow : after.overflow ≡ t.overflow
  pub place : after.status.place ≡ p
  pub generation : after.status.generation ≡ own
  pub first : after.status.first ≡ from
  pub next : t.next ≤ after.next
  pub active : after.active ≡ t.active

-- the place is an overflow place now, all of it clean
abbrev pub with_overflow : Tables → ℕ → ℕ → Tables
with_overflow t p next = record {
  places = t.places;
  overflow = record {
    places = t.overflow.places;
    spots = t.overflow.spots;
    masks = t.overflow.masks;
    in_use = t.overflow.in_use ++ (p, 1) ∷ [];
  };
  status = t.status;
  next = next;
  active = t.active;
}
