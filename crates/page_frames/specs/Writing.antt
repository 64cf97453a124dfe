-- What writing a page's records to the chip leaves.
use Rattle.std.specs.Prelude.{ℕ, ◌≡◌, ◌⊎◌, ◌+◌, List, slice_index, Result, All, Contains}
use Rattle.chip_trait.specs.Told.{History, Told}
use Rattle.log_records.specs.View.{Versioned, Spells}
use Rattle.ipl_base.specs.declared.fault.ChipFault.{ChipFault}
use Rattle.ipl_base.specs.declared.spot.Spot.{Spot}
use Rattle.ipl_format.specs.Record.{Record}
use Rattle.ipl_format.specs.Sector.{Sector}
use Rattle.ipl_meaning.specs.Legible.{Legible}
use Rattle.ipl_meaning.specs.Agrees.{Agrees}
use Rattle.ipl_meaning.specs.Chart.{Chart}
use Rattle.ipl_meaning.specs.Layout.{Layout}
use Rattle.log_records.specs.Reading.{records_of}
use Rattle.ipl_meaning.specs.Masks.{mask_of}
use Rattle.ipl_meaning.specs.Mirrors.{Mirrors}
use Rattle.ipl_meaning.specs.Rests.{now, EachStands, StoryRests}
use Rattle.ipl_meaning.specs.Steps.{entry_at}
use Rattle.ipl_meaning.specs.Tables.{Tables}
use Rattle.ipl_meaning.specs.TableSteps.{after_home_log, after_overflow_log}
use Rattle.unit_io.specs.Charts.{Gains}
use Rattle.unit_io.specs.Leads.{IsSteady}
use Rattle.unit_io.specs.Steps.{NoOtherEnd, Steps}
use Rattle.unit_io.specs.StepLaws.{Preserves}
use Rattle.selective_merge.specs.Spotting.{IsHomeSpot, IsOverflowSpot}
use Rattle.selective_merge.specs.Throughout.{ChartsThroughout}
use Rattle.store_laws.specs.Advances.{TurnsTables}
use Rattle.store_laws.specs.Laws.{StandsInLog}
use Rattle.page_frames.specs.Rooms.{HasLogRoom}

-- ---- one log sector

-- which pages the records of a payload name
abbrev pub mask_by : Versioned → ℕ
mask_by payload = mask_of (records_of payload.version payload.bytes)

-- the tables once a log sector of the unit that names these pages stands at this spot, with this counter
abbrev pub IsAfterLog : Tables → Tables → ℕ → ℕ → ℕ → ℕ → ℕ → Type 0
IsAfterLog t after u p s mask next =
    (IsHomeSpot t u p s × (after ≡ after_home_log t u mask next))
    ⊎ (IsOverflowSpot t u p s × (after ≡ after_overflow_log t u p s mask next))

-- a log sector of a unit under these numbers, with this payload and of its version
pub record IsLogOf (u generation serial : ℕ) (payload : Versioned) (sector : Sector) : Type 0 where
  pub kind : sector.kind ≡ 5
  pub version_is : sector.version ≡ payload.version
  pub of_unit : sector.unit ≡ u
  pub of_generation : sector.generation ≡ generation
  pub serial_is : sector.serial ≡ serial
  pub payload_is : sector.payload ≡ payload.bytes

-- the payload is of these records, each of an open session
pub record IsPayloadOf (t : Tables) (payload : Versioned) (records : List Record) : Type 0 where
  pub spelled : Spells payload records
  pub active : All (λ r. Contains t.active r.tid) records

-- the tables mirror the chart, and the payload is of these records
pub record IsToLog (places : ℕ) (c : Chart) (it : Layout) (t : Tables) (payload : Versioned)
    (records : List Record) : Type 0 where
  pub mirrors : Mirrors places c it t
  pub payload_of : IsPayloadOf t payload records

-- The chart has a log sector of the unit at the spot too, with exactly these records, and the tables
-- follow it. The unit's log has this one entry more, and each page that was shown is shown still.
pub record HasLogSector (places : ℕ) (c : Chart) (it : Layout) (t : Tables) (u : ℕ)
    (at : Spot) (payload : Versioned) (records : List Record) (y : Chart)
    (after : Tables) : Type 0 where
  pub sector : Sector
  pub is : IsLogOf u (slice_index t.places.generations u) t.next payload sector
  pub gains : Gains at.place at.sector sector c y
  pub tables : IsAfterLog t after u at.place at.sector (mask_by payload) (t.next + 1)
  pub logged : StandsInLog places c it t u records y after
  pub entry_is : logged.entry ≡ entry_at at.place at.sector sector records

-- whatever layout and records it was to be
abbrev pub WritesLog : ℕ → ℕ → Spot → Versioned → Tables → Tables → Chart → Chart → Type 0
WritesLog places u at payload t after c y = (it : Layout) (records : List Record)
    → IsToLog places c it t payload records
    → HasLogSector places c it t u at payload records y after

-- At each moment a power cut leaves the map; done, the story rests on it. It fails only where a
-- write failed.
abbrev pub WritesLogInSteps : ℕ → ℕ → Spot → Versioned → Tables → Tables
    → Told → Result (Unit {0}) ChipFault → Told → Type 0
WritesLogInSteps places u at payload t after old result new =
    (m : Legible) (it : Layout) (records : List Record) (h : History)
    → IsSteady h old → StoryRests places m h → Agrees places h it t
    → IsToLog places (now h) it t payload records
    → Steps (EachStands places m) t after (λ done k. StoryRests places m k) NoOtherEnd
    h result old new

-- ---- room found, and the sector written

-- There was room, perhaps behind a merge or with a new overflow place; and then the records came to
-- the chip, as one log sector of the unit.
pub record AreRecordsWritten (places : ℕ) (c : Chart) (it : Layout) (t : Tables) (u : ℕ)
    (payload : Versioned) (records : List Record) (y : Chart) (after : Tables) : Type 0 where
  pub middle : Chart
  pub between : Tables
  pub at : Spot
  pub room : HasLogRoom places c middle it t u between at
  pub log : HasLogSector places middle room.turned.layout between u at payload records y after

-- whatever layout the tables mirrored, and whatever records of open sessions the payload is of
abbrev pub WritesRecords : ℕ → ℕ → Versioned → Tables → Tables → Chart → Chart → Type 0
WritesRecords places u payload t after c y = (it : Layout) (records : List Record)
    → Mirrors places c it t → IsPayloadOf t payload records
    → AreRecordsWritten places c it t u payload records y after

-- Over what the chip holds: done, the records were written out; and where no write failed, the tables
-- turned so that all is as before, but that a unit may have been merged.
abbrev pub WritesOut : ℕ → ℕ → Versioned → Tables → Tables
    → Told → Result (Unit {0}) ChipFault → Told → Type 0
WritesOut places u payload t after old result new = ChartsThroughout
    (λ done. WritesRecords places u payload t after) (TurnsTables places t after) result old new

-- Over a story that rests on a map, with records of open sessions: at each moment a power cut leaves
-- the map, and where no write failed, the story rests on it.
abbrev pub WritesOutInSteps : ℕ → Versioned → Tables → Tables
    → Told → Result (Unit {0}) ChipFault → Told → Type 0
WritesOutInSteps places payload t after old result new =
    (m : Legible) (it : Layout) (records : List Record) (h : History)
    → IsSteady h old → StoryRests places m h → Agrees places h it t
    → IsPayloadOf t payload records → Preserves places m t after h result old new
