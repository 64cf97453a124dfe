-- What an opening makes of the tables.
use Rattle.std.specs.Prelude.{ℕ, ◌≡◌, ◌≢◌, ◌⊎◌, ◌↔◌, ◌<◌, ◌≤◌, ◌+◌, ◌-◌, ◌*◌, true, false, [], length, map, slice_index, slice_index_or, Some, None, Contains}
use Rattle.ipl_base.specs.declared.limits.TheConstants.{SECTORS, FIRST_LOG_SECTOR, LOG_SECTORS}
use Rattle.ipl_format.specs.Header.{erases_said}
use Rattle.ipl_meaning.specs.Chart.{Chart}
use Rattle.ipl_meaning.specs.Layout.{Laid}
use Rattle.ipl_meaning.specs.Tables.{UNKNOWN_LOGS, MARKED_LOGS, Places, masks_in, IsFree, OverflowLists, StatusTable, Tables}
use Rattle.ipl_meaning.specs.Mirrors.{Mirrors}
use Rattle.ipl_meaning.specs.Chosen.{Winner, header_at, current_at, status_at, units_at}
use Rattle.ipl_meaning.specs.Live.{marks_in}
use Rattle.ipl_meaning.specs.Faults.{holds_live, greatest_found}
use Rattle.ipl_meaning.specs.LaidOut.{place_of, committed_numbers, retired_at, layout_in}
use Rattle.ipl_meaning.specs.Marked.{is_marked_unit}
use Rattle.ipl_meaning.specs.FoundLogs.{spots_in, overflows_in, generation_of, mask_found}

-- the place is neither that of a unit, nor the status place, nor an overflow place that holds live log sectors
pub record IsUnused (places : ℕ) (c : Chart) (p : ℕ) : Type 0 where
  pub not_home : (u : ℕ) (winner : Winner) → u < units_at c places
      → current_at c places u ≡ Some winner
      → winner.place ≢ p
  pub not_status : (winner : Winner) → status_at c places ≡ Some winner → winner.place ≢ p
  pub not_held : holds_live (header_at c places) (marks_in c places (places * SECTORS)) p ≡ false

-- What is known of the log sectors at this place by a close mark: so many of them, the first, check, and the others don't.
pub record KnowsLogs (c : Chart) (home written : ℕ) : Type 0 where
  pub count : ℕ
  pub few : count ≤ LOG_SECTORS
  pub says : written ≡ MARKED_LOGS + count
  pub whole : (n : ℕ) → FIRST_LOG_SECTOR ≤ n → n < FIRST_LOG_SECTOR + count → c home n ≢ None
  pub others : (n : ℕ) → FIRST_LOG_SECTOR + count ≤ n → n < SECTORS → c home n ≡ None

-- what stands of a unit's log sectors: that nothing is known of them, or, where the close mark that counts has the unit, what
-- is known by it
abbrev pub IsOpenedLog : ℕ → Chart → ℕ → ℕ → Type 0
IsOpenedLog places c u written =
    (written ≡ UNKNOWN_LOGS)
    ⊎ ((is_marked_unit c (status_at c places) (current_at c places) u ≡ true)
    × KnowsLogs c (place_of (current_at c places u)) written)

-- the directory has each unit's place and generation, and how often each place was erased, as its sector 0 says it; of a unit's
-- log sectors what a close mark says is known, or nothing; of the unused places those that the status header lists are
-- retired, and exactly the others are free; and the counter is the number after the greatest found
pub record IsOpened (places : ℕ) (c : Chart) (directory : Places) (counter : ℕ) : Type 0 where
  pub units : length directory.current ≡ units_at c places
  pub logs : length directory.written ≡ units_at c places
  pub all : length directory.in_use ≡ places
  pub counts : length directory.erases ≡ places
  pub current : (u : ℕ) → u < units_at c places
      → slice_index directory.current u ≡ place_of (current_at c places u)
  pub heads : length directory.generations ≡ units_at c places
  pub generation : (u : ℕ) → u < units_at c places
      → slice_index directory.generations u ≡ generation_of (current_at c places u)
  pub written : (u : ℕ) → u < units_at c places
      → IsOpenedLog places c u (slice_index directory.written u)
  pub erases : (p : ℕ) → p < places → slice_index directory.erases p ≡ erases_said (c p 0)
  pub free : (p : ℕ) → p < places
      → IsFree directory p ↔ (IsUnused places c p × ¬ Contains (retired_at c places) p)
  pub retired : (p : ℕ) → Contains directory.retired p ↔ (Contains (retired_at c places) p × IsUnused places c p)
  pub number : counter ≡ greatest_found c places + 1

-- the overflow lists are of a chip of so many places, and have each unit's live log sectors in overflow places, and the
-- places that hold them
pub record IsOpenedOverflow (places : ℕ) (c : Chart) (overflow : OverflowLists) : Type 0 where
  pub places_are : overflow.places ≡ places
  pub units : length overflow.spots ≡ units_at c places
  pub spots_are : (u : ℕ) → u < units_at c places → slice_index_or overflow.spots u [] ≡ spots_in c places u
  pub in_use_are : overflow.in_use ≡ overflows_in c places

-- the masks have of each unit's live log sectors the pages that they name, and of other sectors none
pub record AreOpenedMasks (places : ℕ) (c : Chart) (directory : Places) (overflow : OverflowLists) : Type 0 where
  pub units : length directory.masks ≡ units_at c places
  pub lists : length overflow.masks ≡ units_at c places
  pub sectors : (u : ℕ) → u < units_at c places → length (masks_in directory u) ≡ LOG_SECTORS
  pub home : (u s : ℕ) → u < units_at c places → FIRST_LOG_SECTOR ≤ s → s < SECTORS
      → slice_index (masks_in directory u) (s - FIRST_LOG_SECTOR)
      ≡ mask_found c places u (place_of (current_at c places u) * SECTORS + s)
  pub elsewhere : (u : ℕ) → u < units_at c places
      → slice_index_or overflow.masks u [] ≡ map (λ spot. mask_found c places u (spot.0 * SECTORS + spot.1)) (spots_in c places u)

-- the status has the status place, its generation and its numbers, and no sector of it counts as clean
pub record IsOpenedStatus (places : ℕ) (c : Chart) (status : StatusTable) : Type 0 where
  pub place_is : status.place ≡ (layout_in c places).status
  pub generation_is : status.generation ≡ (layout_in c places).head.generation
  pub numbers_are : (tid : ℕ)
      → Contains status.numbers tid ↔ Contains (committed_numbers c (status_at c places)) tid
  pub first_is : status.first ≡ SECTORS

-- the tables with these parts, while no session is open
abbrev pub tables_of : Places → OverflowLists → StatusTable → ℕ → Tables
tables_of directory overflow status counter =
    record { places = directory; overflow = overflow; status = status; next = counter; active = [] }

-- all tables say what an opening found, and no session is open
pub record AreOpened (places : ℕ) (c : Chart) (t : Tables) : Type 0 where
  pub directory : IsOpened places c t.places t.next
  pub overflow : IsOpenedOverflow places c t.overflow
  pub masks : AreOpenedMasks places c t.places t.overflow
  pub status : IsOpenedStatus places c t.status
  pub active : t.active ≡ []

-- they mirror each chart that is laid out as the opening finds it
abbrev pub OpenedTablesMirror : Type 0
OpenedTablesMirror =
    (places : ℕ) (c : Chart) (t : Tables) → AreOpened places c t → Laid places c (layout_in c places)
    → Mirrors places c (layout_in c places) t
