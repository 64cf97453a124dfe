-- What is known of the units' log sectors by a close mark, as far as they are read.
use Rattle.std.specs.Prelude.{ℕ, ◌≡◌, ◌≢◌, ◌⊎◌, ◌<◌, ◌≤◌, ◌+◌, ◌-◌, ◌*◌, ◌==◌, Bool, true, false, length, slice_index, Option, Some, None, if◌then◌else◌}
use Rattle.ipl_base.specs.declared.limits.TheConstants.{SECTORS, FIRST_LOG_SECTOR, LOG_SECTORS}
use Rattle.chip_trait.specs.Story.{Contents, blank}
use Rattle.ipl_format.specs.Sector.{Sector}
use Rattle.ipl_meaning.specs.Chart.{Chart, chart_of}
use Rattle.ipl_meaning.specs.Tables.{Places, UNKNOWN_LOGS, MARKED_LOGS}
use Rattle.ipl_meaning.specs.Chosen.{KeptHeader, Winner}
use Rattle.ipl_meaning.specs.Marked.{is_marked_by, last_close_mark}
use Rattle.unit_directory.specs.Directory.{with_noted_log}
use Rattle.unit_io.specs.declared.reading.Found.{Found}
use Rattle.unit_io.specs.declared.reading.Found.TheVariants.{Erased, Bad, Sector as Checks}

-- each unit has the place and the generation that it had, and which are in use or retired is the same
pub record SameHomes (old new : Places) : Type 0 where
  pub current : new.current ≡ old.current
  pub in_use : new.in_use ≡ old.in_use
  pub retired : new.retired ≡ old.retired
  pub logs : length new.written ≡ length old.written
  pub generations : new.generations ≡ old.generations

-- Of the log sectors at this place so many, the first, check, and the others are erased.
pub record IsWholeLog (x : Contents) (home count : ℕ) : Type 0 where
  pub few : count ≤ LOG_SECTORS
  pub checks : (n : ℕ) → FIRST_LOG_SECTOR ≤ n → n < FIRST_LOG_SECTOR + count → chart_of x home n ≢ None
  pub erased : (n : ℕ) → FIRST_LOG_SECTOR + count ≤ n → n < SECTORS → x home n ≡ blank

-- so it is for some number: all before the first erased one check, and all behind it are erased
abbrev pub HasWholeLog : Contents → ℕ → Type 0
HasWholeLog x home = (count : ℕ) × IsWholeLog x home count

-- nothing is known of the units' log sectors
abbrev pub NoneKnown : ℕ → Places → Type 0
NoneKnown units it = (u : ℕ) → u < units → slice_index it.written u ≡ UNKNOWN_LOGS

-- of a unit of which nothing is known, nothing is known then
abbrev pub StaysUnknown : Places → Places → Type 0
StaysUnknown old new = (u : ℕ) → slice_index old.written u ≡ UNKNOWN_LOGS → slice_index new.written u ≡ UNKNOWN_LOGS

-- the close mark that counts; none, where marks don't count
abbrev pub mark_for : Bool → Chart → Option Winner → Option Sector
mark_for marks c status = if marks then last_close_mark c status else None

-- before they are read, of a unit that the mark has none counts as written yet; of another one nothing is known
abbrev pub first_known : Option Sector → ℕ → Option Winner → ℕ
first_known mark u home = if is_marked_by mark u home then MARKED_LOGS else UNKNOWN_LOGS

-- so it is of the first n units
abbrev pub AreUnitsMarked : Option Sector → (ℕ → Option Winner) → ℕ → Places → Type 0
AreUnitsMarked mark current n it = (u : ℕ) → u < n → slice_index it.written u ≡ first_known mark u (current u)

-- Of the log sectors at this place so many, the first, check, and those of the others below the number k are blank; all that
-- are counted so stand below it.
pub record KnowsRead (x : Contents) (home k written : ℕ) : Type 0 where
  pub count : ℕ
  pub few : count ≤ LOG_SECTORS
  pub read : (n : ℕ) → n < count → home * SECTORS + (FIRST_LOG_SECTOR + n) < k
  pub says : written ≡ MARKED_LOGS + count
  pub whole : (n : ℕ) → FIRST_LOG_SECTOR ≤ n → n < FIRST_LOG_SECTOR + count → chart_of x home n ≢ None
  pub others : (n : ℕ) → FIRST_LOG_SECTOR + count ≤ n → n < SECTORS → home * SECTORS + n < k → x home n ≡ blank

-- nothing is known of a unit's log sectors only where the mark hasn't the unit, or they aren't a whole log
abbrev pub IsRightlyUnknown : Contents → Option Sector → ℕ → Option Winner → Type 0
IsRightlyUnknown x mark u home = (winner : Winner) → home ≡ Some winner → is_marked_by mark u home ≡ true
    → ¬ HasWholeLog x winner.place

-- what stands of a unit's log sectors: that nothing is known of them, where that is right; or, where the mark has the unit,
-- what is known by it
abbrev pub IsReadLog : Contents → Option Sector → ℕ → Option Winner → ℕ → ℕ → Type 0
IsReadLog x mark u home k written =
    ((written ≡ UNKNOWN_LOGS) × IsRightlyUnknown x mark u home)
    ⊎ ((winner : Winner) × (home ≡ Some winner) × (is_marked_by mark u home ≡ true) × KnowsRead x winner.place k written)

-- of each unit's, as far as the number k
abbrev pub AreReadLogs : Contents → Option Sector → (ℕ → Option Winner) → ℕ → ℕ → Places → Type 0
AreReadLogs x mark current units k it = (u : ℕ) → u < units → IsReadLog x mark u (current u) k (slice_index it.written u)

-- the header of each unit that counts stands at its place
abbrev pub AreHomes : (ℕ → Option KeptHeader) → (ℕ → Option Winner) → Type 0
AreHomes heads current = (u : ℕ) (winner : Winner) → current u ≡ Some winner
    → (heads winner.place ≡ Some winner.head) × (winner.head.kind ≡ 1) × (winner.head.unit ≡ u)

-- the sector checks
abbrev pub does_check : Found → Bool
does_check Erased = false
does_check Bad = false
does_check (Checks head used) = true

-- all its bytes are FF
abbrev pub is_erased : Found → Bool
is_erased Erased = true
is_erased Bad = false
is_erased (Checks head used) = false

-- once one more sector is seen where log sectors may stand, in a place with this header: where it is that of a unit
abbrev pub seen_log : Option KeptHeader → Places → ℕ → Bool → Bool → Places
seen_log None it s checks erased = it
seen_log (Some head) it s checks erased =
    if head.kind == 1 then with_noted_log it head.unit (s - FIRST_LOG_SECTOR) checks erased else it
