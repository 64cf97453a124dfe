-- What the tables give: the conditions of each step.
use Rattle.std.specs.Prelude.{ℕ, ◌≡◌, ◌⊎◌, ◌<◌, ◌≤◌, Bool, IsTrue, List, length, slice_index, None, Contains}
use Rattle.ipl_base.specs.declared.limits.TheConstants.{SECTORS, LEAST_PLACES, MOST_PLACES, LOG_SECTORS, OVERFLOW_SECTORS}
use Rattle.ipl_base.specs.Places.{KeepsUnits}
use Rattle.ipl_format.specs.Sector.{Sector}
use Rattle.ipl_format.specs.Record.{Record}
use Rattle.ipl_format.specs.Commit.{SpellsCommit}
use Rattle.ipl_format.specs.Mark.{SpellsMark}
use Rattle.ipl_format.specs.Header.{SpellsStatusHeader}
use Rattle.ipl_meaning.specs.Chart.{Chart, IsStatusHeader, IsOverflowHeader}
use Rattle.ipl_meaning.specs.Layout.{Shape, Layout, IsStatus, HasNoMark}
use Rattle.ipl_meaning.specs.Formatted.{formatted}
use Rattle.ipl_meaning.specs.Steps.{IsIdle, MayLog, MayCommit, MaySeal, MayMark, MaySwitch, MayOpenOverflow}
use Rattle.ipl_meaning.specs.Tables.{IsFree, Tables, spots_of, first_log}
use Rattle.ipl_meaning.specs.Mirrors.{Mirrors}
use Rattle.ipl_meaning.specs.TableSteps.{IsFreshLog, IsReady}
use Rattle.ipl_meaning.specs.FirstTables.{first_layout, first_tables}

-- a free place is idle
abbrev pub FreePlacesAreIdle : Type 0
FreePlacesAreIdle = (places : ℕ) (c : Chart) (it : Layout) (t : Tables) (p : ℕ) → Mirrors places c it t
    → IsFree t.places p → IsIdle places c it p

-- a fresh log sector may go to the unit's first clean log sector
abbrev pub LogSectorsMayGoHome : Type 0
LogSectorsMayGoHome =
    (places : ℕ) (c : Chart) (it : Layout) (t : Tables) (u : ℕ) (sector : Sector) (records : List Record)
    → Mirrors places c it t → u < it.count
    → slice_index t.places.written u < LOG_SECTORS → IsFreshLog it t u sector records
    → MayLog places c it u (slice_index t.places.current u) (first_log t u) sector records

-- or to the first clean sector of an overflow place, where fewer than 16 of the unit stand elsewhere
abbrev pub LogSectorsMayGoElsewhere : Type 0
LogSectorsMayGoElsewhere =
    (places : ℕ) (c : Chart) (it : Layout) (t : Tables) (u p s : ℕ) (sector : Sector) (records : List Record)
    → Mirrors places c it t → u < it.count
    → Contains t.overflow.in_use (p, s) → 1 ≤ s → s < SECTORS → length (spots_of t u) < OVERFLOW_SECTORS → IsFreshLog it t u sector records
    → MayLog places c it u p s sector records

-- a commit sector may go to the first clean sector of the status place
abbrev pub CommitSectorsMayGo : Type 0
CommitSectorsMayGo =
    (places : ℕ) (c : Chart) (it : Layout) (t : Tables) (sector : Sector) (numbers : List ℕ) (committed : ℕ → Bool)
    → Mirrors places c it t
    → 1 ≤ t.status.first → t.status.first < SECTORS → sector.kind ≡ 6 → sector.generation ≡ t.status.generation
    → SpellsCommit sector.payload numbers
    → ((tid : ℕ) → IsTrue (committed tid) → IsTrue (it.committed tid) ⊎ Contains numbers tid)
    → ((tid : ℕ) → IsTrue (it.committed tid) ⊎ Contains numbers tid → IsTrue (committed tid))
    → MayCommit c it t.status.first sector numbers committed

-- a mark may go there too
abbrev pub MarksMayGo : Type 0
MarksMayGo =
    (places : ℕ) (c : Chart) (it : Layout) (t : Tables) (mark : Sector) → Mirrors places c it t
    → 1 ≤ t.status.first → t.status.first < SECTORS → mark.kind ≡ 7 → mark.generation ≡ t.status.generation
    → SpellsMark (length t.places.current) mark.payload → MayMark c it t.status.first mark

-- a data header may go to a place that is ready
abbrev pub HeadersMayGo : Type 0
HeadersMayGo =
    (places : ℕ) (c : Chart) (it : Layout) (t : Tables) (u p : ℕ) (fresh : Shape) → Mirrors places c it t
    → u < it.count → IsReady places c t u p fresh → MaySeal places c it u p fresh

-- a status header of a new serial
abbrev pub StatusHeadersMayGo : Type 0
StatusHeadersMayGo =
    (places : ℕ) (c : Chart) (it : Layout) (t : Tables) (p : ℕ) (head : Sector) (committed : ℕ → Bool)
    → Mirrors places c it t
    → p < places → c p 0 ≡ None → IsStatusHeader head
    → SpellsStatusHeader head.version places (length t.places.current) head.payload → t.next ≤ head.serial
    → IsStatus c p head.generation committed → HasNoMark c p head.generation
    → MaySwitch places it.count c p head committed

-- an overflow header on a place where nothing checks
abbrev pub OverflowHeadersMayGo : Type 0
OverflowHeadersMayGo =
    (places : ℕ) (c : Chart) (it : Layout) (p : ℕ) (head : Sector) → ((s : ℕ) → c p s ≡ None) → IsOverflowHeader head
    → MayOpenOverflow places c it p head

-- the first tables mirror a formatted chip
abbrev pub FirstTablesMirror : Type 0
FirstTablesMirror = (places units : ℕ) → LEAST_PLACES ≤ places → places ≤ MOST_PLACES → KeepsUnits places units
    → Mirrors places (formatted units) (first_layout units) (first_tables places units)
