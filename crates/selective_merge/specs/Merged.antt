-- A unit merged into a place that was free.
use Rattle.std.specs.Prelude.{ℕ, ◌≡◌, ◌<◌, ◌≤◌, List, length, slice_index, Some}
use Rattle.log_records.specs.View.{Versioned}
use Rattle.ipl_base.specs.declared.limits.TheConstants.{PAGES, FIRST_LOG_SECTOR, CARRIED_SECTORS, VERSION}
use Rattle.ipl_format.specs.Sector.{Sector}
use Rattle.ipl_format.specs.Record.{Record}
use Rattle.ipl_format.specs.Header.{SpellsDataHeader, erases_said}
use Rattle.ipl_meaning.specs.Chart.{Chart}
use Rattle.ipl_meaning.specs.Layout.{Shape, Layout, records_of}
use Rattle.ipl_meaning.specs.Steps.{KeepsPages, with_unit}
use Rattle.ipl_meaning.specs.Tables.{IsFree, Tables}
use Rattle.ipl_meaning.specs.TableSteps.{taken}
use Rattle.ipl_meaning.specs.Mirrors.{Mirrors}
use Rattle.unit_io.specs.Charts.{IsCleared, Gains}
use Rattle.selective_merge.specs.Pages.{IsFew}
use Rattle.selective_merge.specs.Packs.{among, packs_of, payloads_of, entries_from, HasLogs}
use Rattle.selective_merge.specs.Moved.{Source, HasMoved}

-- ---- what is written

-- the header of a unit under a generation, in the version that is written, for pages of so many base
-- sectors and so many carried log sectors; it says how often its place was erased
pub record IsUnitHead (units u generation : ℕ) (pieces : List ℕ) (carried erases : ℕ)
    (head : Sector) : Type 0 where
  pub kind : head.kind ≡ 1
  pub version : head.version ≡ VERSION
  pub of_unit : head.unit ≡ u
  pub of_generation : head.generation ≡ generation
  pub serial : head.serial ≡ generation
  pub counts : SpellsDataHeader head.version units pieces head.payload
  pub carries : counts.carried ≡ carried
  pub says : erases_said (Some head) ≡ erases

-- the place was cleared, the unit's pages stand there, and the log sectors with what is carried
pub record IsFilled (from : Source) (p generation serial : ℕ) (pieces : List ℕ)
    (payloads : List Versioned) (c y : Chart) : Type 0 where
  pub bare : Chart
  pub paged : Chart
  pub cleared : IsCleared p c bare
  pub moved : HasMoved from p generation pieces PAGES bare paged
  pub logs : HasLogs p from.unit generation serial payloads (length payloads) paged y

-- ---- the unit then

-- what a merge of a unit that is laid out so carries, packed
abbrev pub packs_in : Tables → Shape → List (List Record)
packs_in t it = packs_of t.active (records_of it.log)

-- the source of a merge of a unit, as it is laid out and the tables say
abbrev pub source_of : Tables → Shape → ℕ → Source
source_of t it u = record {
  place = it.home;
  version = it.head.version;
  unit = u;
  generation = it.head.generation;
  pieces = it.pieces;
  committed = among t.status.numbers;
  records = records_of it.log;
}

-- the same, with the committed numbers of the layout
abbrev pub source_in : Layout → ℕ → Source
source_in it u = record {
  place = (it.units u).home;
  version = (it.units u).head.version;
  unit = u;
  generation = (it.units u).head.generation;
  pieces = (it.units u).pieces;
  committed = it.committed;
  records = records_of (it.units u).log;
}

-- the unit as it stands at its new place: its log is what is carried, packed in order
abbrev pub merged_shape : Tables → Shape → ℕ → ℕ → Sector → List ℕ → ℕ → Shape
merged_shape t it u p head pieces serial = record {
  home = p;
  head = head;
  pieces = pieces;
  log = entries_from p u head.generation FIRST_LOG_SECTOR serial (packs_in t it);
}

-- the layout with the unit merged
abbrev pub merged_layout : Tables → Layout → ℕ → ℕ → Sector → List ℕ → ℕ → Layout
merged_layout t it u p head pieces serial =
    with_unit it u (merged_shape t (it.units u) u p head pieces serial)

-- ---- a merge

-- what is to be merged: the unit is moved from there, with what the tables and the log say, to a
-- place that is free
pub record IsToMerge (places : ℕ) (c : Chart) (it : Layout) (t : Tables) (u p generation serial : ℕ)
    (from : Source) (payloads : List Versioned) : Type 0 where
  pub mirrors : Mirrors places c it t
  pub low : u < it.count
  pub free : IsFree t.places p
  pub within : p < places
  pub source : from ≡ source_of t (it.units u) u
  pub new : t.next ≤ generation
  pub later : generation < serial
  pub carried : payloads ≡ payloads_of (packs_in t (it.units u))
  pub twelve : length payloads ≤ CARRIED_SECTORS

-- what is asked of the chip and the tables before, of the place, and of what was written there
pub record MayMerge (places : ℕ) (c y : Chart) (it : Layout) (t : Tables) (u p : ℕ)
    (head : Sector) (pieces : List ℕ) (serial : ℕ) : Type 0 where
  pub mirrors : Mirrors places c it t
  pub low : u < it.count
  pub free : IsFree t.places p
  pub within : p < places
  pub head_is : IsUnitHead (length t.places.current) u head.generation pieces
      (length (packs_in t (it.units u))) (slice_index (taken t p).places.erases p) head
  pub new : t.next ≤ head.generation
  pub later : head.generation < serial
  pub few : IsFew pieces
  pub twelve : length (packs_in t (it.units u)) ≤ CARRIED_SECTORS
  pub filled : IsFilled (source_of t (it.units u) u) p head.generation serial pieces
      (payloads_of (packs_in t (it.units u))) c y

-- the place was filled, and has its header
pub record IsWritten (places : ℕ) (c z : Chart) (it : Layout) (t : Tables)
    (u p generation serial : ℕ) : Type 0 where
  pub head : Sector
  pub pieces : List ℕ
  pub filled : Chart
  pub generation_is : head.generation ≡ generation
  pub may : MayMerge places c filled it t u p head pieces serial
  pub gains : Gains p 0 head filled z

-- The unit stands at a place that was free, under a new generation and with its log packed anew, and
-- its header says how often the tables have the place erased; the tables mirror that, and each page
-- that was shown is shown still.
pub record IsMergedUnit (places : ℕ) (c z : Chart) (it : Layout) (t : Tables) (u : ℕ)
    (after : Tables) : Type 0 where
  pub place : ℕ
  pub head : Sector
  pub pieces : List ℕ
  pub serial : ℕ
  pub low : u < it.count
  pub free : IsFree t.places place
  pub head_is : IsUnitHead (length t.places.current) u head.generation pieces
      (length (packs_in t (it.units u))) (slice_index after.places.erases place) head
  pub new : t.next ≤ head.generation
  pub later : head.generation < serial
  pub mirrors : Mirrors places z (merged_layout t it u place head pieces serial) after
  pub keeps : KeepsPages places c it z (merged_layout t it u place head pieces serial)
