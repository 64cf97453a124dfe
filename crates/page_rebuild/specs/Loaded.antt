-- A page that is loaded from the chip into a frame.
use Rattle.std.specs.Prelude.{ℕ, ◌≡◌, ◌⊎◌, ◌<◌, ◌≤◌, ◌+◌, ◌↔◌, Bool, List, Option, Some, None, nat_lt, length, slice_index, Result, All, IfErr, OnOk, if◌then◌else◌}
use Rattle.std.specs.Option.{option_or}
use Rattle.ipl_base.specs.declared.limits.TheConstants.{PAGE_LEN, SLOTS, PAGE_SECTORS}
use Rattle.chip_trait.specs.Story.{Contents}
use Rattle.chip_trait.specs.Told.{Told}
use Rattle.ipl_base.specs.declared.fault.ChipFault.{ChipFault}
use Rattle.ipl_base.specs.declared.fault.ChipFault.TheVariants.{Malformed}
use Rattle.ipl_model.specs.State.{Map}
use Rattle.ipl_meaning.specs.Allowed.{IsAllowed}
use Rattle.ipl_meaning.specs.Chart.{Chart, chart_of}
use Rattle.ipl_meaning.specs.Values.{Values, after_records}
use Rattle.ipl_meaning.specs.Layout.{Layout, Laid, records_of}
use Rattle.ipl_meaning.specs.Masks.{of_page}
use Rattle.number_set.specs.Numbers.{among}
use Rattle.ipl_meaning.specs.Stands.{Shows, page_in}
use Rattle.ipl_meaning.specs.Tables.{Places, OverflowLists, StatusTable, Tables}
use Rattle.unit_io.specs.Faults.{page_fault, text_below, IsPageCause}
use Rattle.unit_io.specs.Reads.{OfContents}
use Rattle.unit_io.specs.ReadsAt.{IsCauseAt, ReadsAt}
use Rattle.unit_io.specs.Spots.{IsPieceSpot}
use Rattle.unit_log.specs.declared.live.UnitHead.{UnitHead}
use Rattle.unit_log.specs.declared.scratch.LogSector.{LogSector}
use Rattle.unit_log.specs.Kept.{records_kept}
use Rattle.unit_log.specs.Live.{MatchesLayout, AreMirrored}
use Rattle.unit_log.specs.Paged.{AddsAtMost, IsPageLogRead, page_spots}
use Rattle.page_ops.specs.Pending.{Pendings, fill_by}
use Rattle.page_ops.specs.Frames.{FrameView, values_in, pending_in}
use Rattle.page_ops.specs.Rebuilt.{values_of, with_records}
use Rattle.page_rebuild.specs.Taken.{last_changes}

-- ---- what the frame has

-- what is pending in each slot of a page, where the layout has it: the last change there of an active
-- number
abbrev pub loaded_pending : Layout → (ℕ → Bool) → ℕ → ℕ → Pendings
loaded_pending it active u page slot = last_changes active page (records_of (it.units u).log) slot

-- The frame has the values that the chart shows of the page. In each slot the last change there of
-- an active number is pending.
pub record IsLoaded (c : Chart) (it : Layout) (active : ℕ → Bool) (u page : ℕ) (f : FrameView)
    : Type 0 where
  pub shows : Shows c it.committed u (it.units u) page (values_in f)
  pub pending : (slot : ℕ) → slot < SLOTS
      → pending_in f slot ≡ loaded_pending it active u page slot

-- the frame has the values of the map's page
abbrev pub HasPageOf : Map → ℕ → ℕ → FrameView → Type 0
HasPageOf m u page f = (slot : ℕ) → slot < SLOTS → values_in f slot ≡ page_in m u page slot

-- ---- tables

-- tables with this directory, these overflow lists and this status mirror the chart
pub record AreTables (places : ℕ) (c : Chart) (it : Layout) (t : Tables)
    (directory : Places) (overflow : OverflowLists) (status : StatusTable) : Type 0 where
  pub mirrored : AreMirrored places c it t directory overflow
  pub status_is : t.status ≡ status

-- where the chip tells what it holds and such tables mirror it, this is so of it and of the layout
abbrev pub OfTables : Told → Places → OverflowLists → StatusTable → (Contents → Layout → Type 0) → Type 0
OfTables told directory overflow status P = OfContents told (λ x. (it : Layout) (t : Tables)
    → AreTables told.places (chart_of x) it t directory overflow status → P x it)

-- What is known of a unit of which a page is made anew: its place, its header, and the records of log
-- sectors, which do to this page what all of the unit's log does. These numbers are committed.
pub record IsKnown (it : Layout) (place u page : ℕ) (head : UnitHead) (kept : List LogSector)
    (status : StatusTable) : Type 0 where
  pub place_is : place ≡ (it.units u).home
  pub version : head.version ≡ (it.units u).head.version
  pub generation : head.generation ≡ (it.units u).head.generation
  pub pieces : head.pieces ≡ (it.units u).pieces
  pub values : (slot : ℕ) (value : Option (List ℕ))
      → after_records (among status.numbers) page slot (records_kept kept) value
      ≡ after_records it.committed page slot (records_of (it.units u).log) value
  pub pending : (active : ℕ → Bool) (slot : ℕ)
      → last_changes active page (records_kept kept) slot ≡ loaded_pending it active u page slot

-- where the chip tells what it holds, this is so of it and of each layout of which this is known
abbrev pub OfKnown : Told → ℕ → ℕ → ℕ → UnitHead → List LogSector → StatusTable
    → (Contents → Layout → Type 0) → Type 0
OfKnown told place u page head kept status P = OfContents told (λ x. (it : Layout)
    → IsKnown it place u page head kept status → P x it)

-- A unit that was read whole: the chart is laid out so, and these are its place, its header, its log
-- and the committed numbers.
pub record IsReadWhole (places : ℕ) (c : Chart) (it : Layout) (place u : ℕ) (head : UnitHead)
    (kept : List LogSector) (status : StatusTable) : Type 0 where
  pub laid : Laid places c it
  pub within : u < it.count
  pub place_is : place ≡ (it.units u).home
  pub live : MatchesLayout it u head kept
  pub numbers : (tid : ℕ) → it.committed tid ≡ among status.numbers tid

-- then it is known, of each page
abbrev pub WholeUnitsAreKnown : Type 0
WholeUnitsAreKnown = (places : ℕ) (c : Chart) (it : Layout) (place u : ℕ) (head : UnitHead)
    (kept : List LogSector) (status : StatusTable) → IsReadWhole places c it place u head kept status
    → (page : ℕ) → IsKnown it place u page head kept status

-- what is wrong with the base page, where the layout has it
abbrev pub base_fault : Contents → Layout → ℕ → ℕ → Option ChipFault
base_fault x it u page = page_fault x (it.units u).home (it.units u).head.version u
    (it.units u).head.generation page (slice_index (it.units u).pieces page)

-- the base page's values with the committed records of the log done to them, where the layout has it
abbrev pub loaded_values : Contents → Layout → ℕ → ℕ → Values
loaded_values x it u page = with_records it.committed page (records_of (it.units u).log)
    (values_of (it.units u).head.version
    (text_below (chart_of x) (it.units u).home page (slice_index (it.units u).pieces page)))

-- more than a page holds, whichever pending changes become values: what is said of a unit that stands
-- at this place
abbrev pub fill_fault : ℕ → Values → Pendings → Option ChipFault
fill_fault place values pending =
    if nat_lt PAGE_LEN (fill_by values pending) then Some (Malformed place 0) else None

-- what is wrong with a page: its base page, or where that reads well, more than a page holds
abbrev pub load_fault : Contents → Layout → (ℕ → Bool) → ℕ → ℕ → Option ChipFault
load_fault x it active u page = option_or (base_fault x it u page)
    (fill_fault (it.units u).home (loaded_values x it u page) (loaded_pending it active u page))

-- nothing is wrong with a page exactly where it shows values for which, with what is pending, a page
-- has room
abbrev pub SoundPagesShowValues : Type 0
SoundPagesShowValues = (x : Contents) (it : Layout) (active : ℕ → Bool) (u page : ℕ)
    → (load_fault x it active u page ≡ None)
    ↔ ((now : Values) × Shows (chart_of x) it.committed u (it.units u) page now
    × (fill_by now (loaded_pending it active u page) ≤ PAGE_LEN))

-- ---- what is read

-- one of the first base sectors of the page, so many, at the unit's place
abbrev pub IsBaseRead : ℕ → ℕ → ℕ → ℕ → ℕ → Type 0
IsBaseRead home page pieces p s = (p ≡ home) × IsPieceSpot page pieces s

-- a page may be read at this place, by a header that says of no page that it has more than 16 base
-- sectors
pub record MayReadBase (told : Told) (p i : ℕ) (header : UnitHead) : Type 0 where
  pub place : p < told.places
  pub few : All (λ n. n ≤ PAGE_SECTORS) header.pieces
  pub page : i < 15

-- What a call reads that reads the base sectors of a page, so many: each of them at most, and at most 16
-- sectors. Where it failed, this is its cause.
pub record ReadsBase (place page pieces : ℕ) (Cause : ChipFault → Told → Told → Type 0)
    (result : Result (Unit {0}) ChipFault) (old new : Told) : Type 0 where
  pub reads : ReadsAt (IsBaseRead place page pieces) old new
  pub count : AddsAtMost PAGE_SECTORS old new
  pub cause : IfErr result (λ e. Cause e old new)

-- where a page may be read: its unit's header, these spots, and its base sectors
abbrev pub IsLoadRead : ℕ → List (ℕ × ℕ) → ℕ → ℕ → ℕ → Type 0
IsLoadRead home spots page p s = IsPageLogRead home spots p s ⊎ IsBaseRead home page PAGE_SECTORS p s

-- why a page isn't made anew: its base page isn't read, or it has no room for its values with what is
-- pending, which is said of its unit's header
abbrev pub IsRebuildCause : ℕ → ℕ → ChipFault → Told → Told → Type 0
IsRebuildCause place page fault old new =
    IsPageCause place page fault old new ⊎ (fault ≡ Malformed place 0)

-- why a page isn't loaded, whatever the chip tells: its log isn't read, or its base page; or a page
-- has no room for its values with what is pending, which is said of its unit's header
abbrev pub IsLoadCause : ℕ → List (ℕ × ℕ) → ℕ → ChipFault → Told → Told → Type 0
IsLoadCause home spots page fault old new =
    IsCauseAt (IsPageLogRead home spots) fault old new ⊎ IsPageCause home page fault old new

-- What a load of a page reads: no sectors but those that the tables say; where they mirror the chip, those
-- from which the page may be rebuilt, and done, at most 17 and one for each log sector that has a record of
-- the page. Where it failed, this is its cause.
pub record LooksAtPage (u page : ℕ) (directory : Places) (overflow : OverflowLists) (status : StatusTable)
    (result : Result (Unit {0}) ChipFault) (old new : Told) : Type 0 where
  pub allowed : OfTables old directory overflow status (λ x it. ReadsAt (IsAllowed it u page) old new)
  pub count : OnOk result (OfTables old directory overflow status
      (λ x it. AddsAtMost (17 + length (of_page page (it.units u).log)) old new))
  pub reads : ReadsAt (IsLoadRead (slice_index directory.current u) (page_spots directory overflow u page)
      page) old new
  pub cause : IfErr result (λ e. IsLoadCause (slice_index directory.current u)
      (page_spots directory overflow u page) page e old new)
