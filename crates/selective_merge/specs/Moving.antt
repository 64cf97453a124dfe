-- The tables of a store, and a unit that moves.
use Rattle.std.specs.Prelude.{ℕ, ◌≡◌, ◌≢◌, ◌⊎◌, ◌<◌, ◌≤◌, ◌+◌, length, List, [], slice_index, slice_set, AllPairs, Contains, Option, Some}
use Rattle.ipl_meaning.specs.Mirrors.{AreApart, NoneIsLost}
use Rattle.ipl_meaning.specs.Tables.{Places, IsFree, Tables, overflow_places}
use Rattle.ipl_meaning.specs.TableSteps.{IsMoved}
use Rattle.unit_directory.specs.Directory.{after_replace}
use Rattle.unit_directory.specs.Free.{free_count, aside}
use Rattle.place_taking.specs.Counts.{KeepsCounts}
use Rattle.place_taking.specs.Homes.{KeepsHomes}
use Rattle.place_taking.specs.Takes.{with_places}
use Rattle.selective_merge.specs.declared.record_offset.RecordOffset.{RecordOffset}
use Rattle.unit_log.specs.Kept.{records_kept}
use Rattle.selective_merge.specs.Known.{KnowsPlaces}
use Rattle.selective_merge.specs.Moved.{Source}
use Rattle.selective_merge.specs.Homes.{from_home}
use Rattle.selective_merge.specs.Packing.{masks_of_payloads}
use Rattle.selective_merge.specs.declared.parts.Parts.{Parts}

-- the tables, as the meaning of a chip speaks of them
abbrev pub tables_of : Parts → Tables
tables_of parts = record {
  places = parts.directory;
  overflow = parts.overflow;
  status = parts.status;
  next = parts.counter;
  active = parts.active;
}

-- the source of a move from where the unit was read
abbrev pub source_read : Parts → Source
source_read parts = from_home parts.scratch.home parts.status.numbers (records_kept parts.scratch.sectors)

-- with numbers drawn, up to this one, and with these offsets in the scratch memory
abbrev pub drawn_up_to : Parts → ℕ → List RecordOffset → Parts
drawn_up_to parts next offsets =
    record parts { counter = next; scratch = record parts.scratch { offsets = offsets } }

-- the tables with these places set aside, one after the other
abbrev pub set_aside : Tables → List ℕ → Tables
set_aside t worn = with_places t (aside t.places worn)

-- the unit has the place and the generation, so many log sectors of it are written, and the old place is free
abbrev pub places_moved : Places → ℕ → ℕ → ℕ → ℕ → Places
places_moved it u p generation used =
    record (after_replace it u p generation) { written = slice_set it.written u used }

-- the place, where there is one, is free and was perhaps before; and the rest is the same
pub record Frees (before after : Places) (place : Option ℕ) : Type 0 where
  pub current : after.current ≡ before.current
  pub written : after.written ≡ before.written
  pub generations : after.generations ≡ before.generations
  pub erases : after.erases ≡ before.erases
  pub retired : after.retired ≡ before.retired
  pub all : length after.in_use ≡ length before.in_use
  pub free : (q : ℕ) → IsFree after q → IsFree before q ⊎ (place ≡ Some q)
  pub still : (q : ℕ) → IsFree before q → IsFree after q
  pub gone : (q : ℕ) → place ≡ Some q → q < length before.in_use → IsFree after q
  pub count : free_count before.in_use ≤ free_count after.in_use

-- the unit has this generation, and its log sectors at home name these pages; it has none elsewhere
pub record TellsUnit (before after : Tables) (u generation : ℕ) (masks : List ℕ) : Type 0 where
  pub generation_is : after.places.generations ≡ slice_set before.places.generations u generation
  pub home : after.places.masks ≡ slice_set before.places.masks u masks
  pub elsewhere : after.overflow.masks ≡ slice_set before.overflow.masks u []

-- each place in use is a unit's, the status place, an overflow place or a retired one, but for one
abbrev pub NoneIsLostBut : ℕ → ℕ → Tables → Type 0
NoneIsLostBut p places t = (q : ℕ) → q < places → q ≢ p → ¬ IsFree t.places q
    → Contains t.places.current q ⊎ (q ≡ t.status.place) ⊎ Contains (overflow_places t) q
    ⊎ Contains t.places.retired q

-- There are as many units, and of which nothing is known, those stayed so at their places; the same
-- sessions are open, the status is the same, and the tables know each place.
pub record Holds (places : ℕ) (before after : Tables) : Type 0 where
  pub units : length after.places.current ≡ length before.places.current
  pub homes : KeepsHomes before.places after.places
  pub active : after.active ≡ before.active
  pub status : after.status ≡ before.status
  pub known : KnowsPlaces places after

-- the place was taken and may become the unit's: both are of the tables, and the unit isn't there
pub record MayTakeHome (u p : ℕ) (t : Tables) : Type 0 where
  pub overflow : length t.overflow.spots ≡ length t.places.current
  pub sized : t.overflow.places ≡ length t.places.in_use
  pub unit : u < length t.places.current
  pub place : p < length t.places.in_use
  pub another : p ≢ slice_index t.places.current u

-- The unit stands at the place, which was taken, with a header of this generation and as many log sectors as were
-- packed, which name the pages of these. Its old place is free, and so are overflow places that no list names any
-- more; no place is lost, and each counts as many erases as before.
pub record MovesHome (u p generation : ℕ) (before after : Parts) : Type 0 where
  pub moved : AllPairs AreApart (overflow_places (tables_of before))
      → IsMoved (tables_of before) (tables_of after) u p (length before.scratch.packs.closed.items)
  pub told : TellsUnit (tables_of before) (tables_of after) u generation
      (masks_of_payloads 15 before.scratch.packs.closed.items)
  pub stands : slice_index after.directory.current u ≡ p
  pub room : slice_index after.directory.written u ≡ length before.scratch.packs.closed.items
  pub lost : NoneIsLostBut p (length before.directory.in_use) (tables_of before)
      → NoneIsLost (length before.directory.in_use) (tables_of after)
  pub free : ¬ IsFree before.directory (slice_index before.directory.current u)
      → free_count before.directory.in_use + 1 ≤ free_count after.directory.in_use
  pub retired : after.directory.retired ≡ before.directory.retired
  pub counts : KeepsCounts before.directory after.directory
  pub counter : after.counter ≡ before.counter
