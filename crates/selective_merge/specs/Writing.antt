-- What the calls leave that write a unit to a place: page by page, sector by sector, and sealed.
use Rattle.std.specs.Prelude.{ℕ, ◌≡◌, ◌≢◌, ◌<◌, ◌≤◌, ◌+◌, Bool, List, length, Option, None, Result, is_ok, IfSome, IfNone, OnSome, OnOk}
use Rattle.log_records.specs.View.{Versioned}
use Rattle.ipl_base.specs.Sizes.{size_of_values}
use Rattle.ipl_base.specs.declared.limits.TheConstants.{PAGES, PAGE_LEN, PAGE_SECTORS, FIRST_LOG_SECTOR, VERSION}
use Rattle.chip_trait.specs.Chart.{with_sector}
use Rattle.chip_trait.specs.Lawful.{Clean, age}
use Rattle.chip_trait.specs.Story.{Story}
use Rattle.chip_trait.specs.Told.{History, Told}
use Rattle.ipl_base.specs.declared.fault.ChipFault.{ChipFault}
use Rattle.ipl_format.specs.Page.{Slots, IsPage, page_text, value_in}
use Rattle.ipl_format.specs.Record.{Record}
use Rattle.ipl_format.specs.Sector.{Sector}
use Rattle.ipl_meaning.specs.Legible.{Legible}
use Rattle.ipl_meaning.specs.Chart.{Chart}
use Rattle.ipl_meaning.specs.Layout.{Layout}
use Rattle.ipl_meaning.specs.Marks.{MarksNoMore}
use Rattle.ipl_meaning.specs.Rests.{now, IsUntouched, WornAreIdle, StoryRests}
use Rattle.ipl_meaning.specs.Stands.{StandsBeside}
use Rattle.ipl_meaning.specs.Tables.{Tables}
use Rattle.ipl_meaning.specs.TableSteps.{taken}
use Rattle.txn_status.specs.Switching.{HasCounts}
use Rattle.unit_io.specs.Accounts.{Accounts}
use Rattle.unit_io.specs.Charts.{Gains, Spares}
use Rattle.unit_io.specs.Costs.{Spends}
use Rattle.unit_io.specs.Leads.{IsSteady, KeepsMap}
use Rattle.unit_io.specs.Spots.{Programs, IsSpot, IsPieceSpot}
use Rattle.unit_io.specs.Tails.{FitTails}
use Rattle.unit_log.specs.Often.{ReadsListed}
use Rattle.page_ops.specs.Rebuilt.{with_records}
use Rattle.selective_merge.specs.Merged.{IsUnitHead, IsToMerge, IsWritten}
use Rattle.selective_merge.specs.Moved.{Source, IsRebased, MovesPage, HasMoved, IsAside}
use Rattle.selective_merge.specs.Packs.{IsLogSpotBelow, HasLogs}
use Rattle.selective_merge.specs.Pages.{IsBaseSpotBelow, IsFew}
use Rattle.selective_merge.specs.Throughout.{UnlessCallsFailed, KeepsThroughout}
use Rattle.selective_merge.specs.declared.home.HomeHeader.{HomeHeader}

-- ---- a place that is written

-- a unit that stands there may be moved to this place: both are places of the chip and aren't one, and no
-- page of it takes more than 16 sectors
pub record MayMove (places : ℕ) (from : HomeHeader) (p : ℕ) : Type 0 where
  pub home : from.place < places
  pub few : IsFew from.pieces
  pub place : p < places
  pub another : from.place ≢ p

-- What a call leaves that programs sectors of a place, whatever the chip tells: it spends this, programs
-- spots of these alone, and reads each sector at most as often as it is listed. Unless a call of the chip failed, all
-- other places have the bytes that they had; and where it failed, this is its cause.
pub record WritesPlace {T : Type 0} (p : ℕ) (Costs : Story → Type 0) (Spot : ℕ → Type 0)
    (read : List (ℕ × ℕ)) (Cause : ChipFault → Told → Told → Type 0) (result : Result T ChipFault) (old new : Told) : Type 0 where
  pub spares : UnlessCallsFailed result (Spares p old new)
  pub costs : Spends Costs old new
  pub tidy : Spends (Programs p Spot (is_ok result)) old new
  pub reads : Spends (ReadsListed read) old new
  pub accounts : Accounts Cause result old new

-- so many numbers were drawn where it is done, and else at most so many
pub record DrawsSerials {T : Type 0} (n : ℕ) (result : Result T ChipFault) (before after : ℕ) : Type 0 where
  pub drawn : OnOk result (after ≡ before + n)
  pub draws : (before ≤ after) × (after ≤ before + n)

-- ---- pages

-- The page in memory was made anew with the records of committed numbers, and these are tails of it. Or
-- it has no room for them, and then there are none.
pub record MakesAnew (committed : ℕ → Bool) (records : List Record) (page : ℕ)
    (result : Option (List (Option ℕ))) (base new : Slots) : Type 0 where
  pub rebased : OnSome result (IsRebased committed records page base new)
  pub fits : OnSome result (IsPage VERSION new)
  pub tails : IfSome result (λ tails. FitTails (page_text VERSION new) tails)
  pub full : IfNone result (PAGE_LEN < size_of_values (with_records committed page records (value_in base)))

-- one page, moved to a place without a header
abbrev pub MovesOnePage : ℕ → Source → ℕ → ℕ → ℕ → Told → Result ℕ ChipFault → Told → Type 0
MovesOnePage places from p generation page old result new = (m : Legible) (h : History)
    → IsSteady h old → StoryRests places m h → now h p 0 ≡ None
    → ((s : ℕ) → IsPieceSpot page PAGE_SECTORS s → age h.story p s ≡ Clean)
    → KeepsThroughout places m (Programs p (IsPieceSpot page PAGE_SECTORS))
    (MovesPage from p generation page) (IsAside p) h result old new

-- all pages
abbrev pub MovesPages : ℕ → Source → ℕ → ℕ → Told → Result (List ℕ) ChipFault → Told → Type 0
MovesPages places from p generation old result new = (m : Legible) (h : History)
    → IsSteady h old → StoryRests places m h → now h p 0 ≡ None
    → ((s : ℕ) → IsBaseSpotBelow PAGES s → age h.story p s ≡ Clean)
    → KeepsThroughout places m (Programs p (IsBaseSpotBelow PAGES))
    (λ pieces. HasMoved from p generation pieces PAGES) (IsAside p) h result old new

-- ---- log sectors

-- a log sector, in a place without a header
abbrev pub WritesToBare : ℕ → ℕ → ℕ → Sector → Told → Result (Unit {0}) ChipFault → Told → Type 0
WritesToBare places p s sector old result new = (m : Legible) (h : History)
    → IsSteady h old → StoryRests places m h → now h p 0 ≡ None → s ≢ 0 → IsUntouched h p s
    → KeepsMap places m (Programs p (IsSpot s)) (λ done. Gains p s sector) h old result new

-- the first n log sectors with these payloads
abbrev pub KeepsLogs : ℕ → ℕ → ℕ → ℕ → ℕ → List Versioned → ℕ → Legible
    → History → Told → Result (Unit {0}) ChipFault → Told → Type 0
KeepsLogs places p u generation serial payloads n m h old result new =
    KeepsMap places m (Programs p (IsLogSpotBelow n))
    (λ done. HasLogs p u generation serial payloads n) h old result new

-- all of them
abbrev pub WritesLogs : ℕ → ℕ → ℕ → ℕ → ℕ → List Versioned
    → Told → Result (Unit {0}) ChipFault → Told → Type 0
WritesLogs places p u generation serial payloads old result new = (m : Legible) (h : History)
    → IsSteady h old → StoryRests places m h → now h p 0 ≡ None
    → ((s : ℕ) → IsLogSpotBelow (length payloads) s → age h.story p s ≡ Clean)
    → KeepsLogs places p u generation serial payloads (length payloads) m h old result new

-- ---- the whole place

-- the spots of the base sectors and of the first n log sectors
abbrev pub IsFilledSpot : ℕ → ℕ → Type 0
IsFilledSpot n s = (1 ≤ s) × (s < FIRST_LOG_SECTOR + n)

-- and of the header
abbrev pub IsUnitSpot : ℕ → ℕ → Type 0
IsUnitSpot n s = s < FIRST_LOG_SECTOR + n

-- each sector of the place is clean
abbrev pub IsCleanPlace : ℕ → History → Type 0
IsCleanPlace p h = (s : ℕ) → age h.story p s ≡ Clean

-- the unit's pages stand at the place, and the log sectors with these payloads
pub record GainsUnit (from : Source) (p generation serial : ℕ) (pieces : List ℕ)
    (payloads : List Versioned) (c y : Chart) : Type 0 where
  pub paged : Chart
  pub moved : HasMoved from p generation pieces PAGES c paged
  pub logs : HasLogs p from.unit generation serial payloads (length payloads) paged y

-- a clean place, filled
abbrev pub FillsPlace : ℕ → Source → ℕ → ℕ → ℕ → List Versioned
    → Told → Result (List ℕ) ChipFault → Told → Type 0
FillsPlace places from p generation serial payloads old result new = (m : Legible) (h : History)
    → IsSteady h old → StoryRests places m h → IsCleanPlace p h
    → KeepsThroughout places m (Programs p (IsFilledSpot (length payloads)))
    (λ pieces. GainsUnit from p generation serial pieces payloads) (IsAside p) h result old new

-- the chart has the unit's header too, which says how often the place was erased
abbrev pub IsSealed : ℕ → ℕ → ℕ → ℕ → ℕ → List ℕ → ℕ → Chart → Chart → Type 0
IsSealed p units erases u generation pieces carried c y =
    (head : Sector) × IsUnitHead units u generation pieces carried erases head × Gains p 0 head c y

-- the header of a unit, where with it the map stands still, nothing counts at worn places, and no more is
-- marked
abbrev pub SealsUnit : ℕ → ℕ → ℕ → ℕ → ℕ → ℕ → List ℕ → ℕ
    → Told → Result (Unit {0}) ChipFault → Told → Type 0
SealsUnit places p units erases u generation pieces carried old result new = (m : Legible) (h : History)
    → IsSteady h old → StoryRests places m h → age h.story p 0 ≡ Clean
    → ((head : Sector) → IsUnitHead units u generation pieces carried erases head
    → StandsBeside places (now h) (with_sector (now h) p 0 head) m
    × WornAreIdle places h.story (with_sector (now h) p 0 head)
    × MarksNoMore places (now h) (with_sector (now h) p 0 head) p)
    → KeepsMap places m (Programs p (IsSpot 0))
    (λ done. IsSealed p units erases u generation pieces carried) h old result new

-- a unit, written to a clean place that is free, by tables that have so many units and, once it was
-- taken, count so many erases of it
abbrev pub WritesUnit : ℕ → ℕ → ℕ → Source → ℕ → ℕ → ℕ → List Versioned
    → Told → Result (Unit {0}) ChipFault → Told → Type 0
WritesUnit places units erases from p generation serial payloads old result new =
    (m : Legible) (it : Layout) (t : Tables) (u : ℕ) (h : History)
    → IsSteady h old → StoryRests places m h → IsCleanPlace p h
    → HasCounts (taken t p) p units erases → IsToMerge places (now h) it t u p generation serial from payloads
    → KeepsThroughout places m (Programs p (IsUnitSpot (length payloads)))
    (λ done c y. IsWritten places c y it t u p generation serial) (IsAside p) h result old new

-- whatever layout and tables with these counts asked for it, where nothing checks at the place
abbrev pub TellsWritten : ℕ → ℕ → ℕ → Source → ℕ → ℕ → ℕ → List Versioned → Chart → Chart → Type 0
TellsWritten places units erases from p generation serial payloads c y = (it : Layout) (t : Tables) (u : ℕ)
    → ((s : ℕ) → c p s ≡ None) → HasCounts (taken t p) p units erases
    → IsToMerge places c it t u p generation serial from payloads
    → IsWritten places c y it t u p generation serial
