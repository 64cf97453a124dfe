-- What the calls leave that make room for a log sector.
use Rattle.std.specs.Prelude.{ℕ, ◌≡◌, ◌≢◌, ◌⊎◌, List, Some, Result, IfOk, length, slice_index}
use Rattle.chip_trait.specs.Told.{History, Told}
use Rattle.ipl_base.specs.declared.fault.ChipFault.{ChipFault}
use Rattle.ipl_base.specs.declared.spot.Spot.{Spot}
use Rattle.ipl_format.specs.Header.{SpellsOverflowHeader, erases_said}
use Rattle.ipl_format.specs.Sector.{Sector}
use Rattle.ipl_meaning.specs.Legible.{Legible}
use Rattle.ipl_meaning.specs.Agrees.{IsTidy, Agrees}
use Rattle.ipl_meaning.specs.Chart.{Chart}
use Rattle.ipl_meaning.specs.Last.{carried_count}
use Rattle.ipl_meaning.specs.Layout.{Layout, Laid}
use Rattle.ipl_meaning.specs.Mirrors.{Mirrors}
use Rattle.ipl_meaning.specs.Rests.{now, EachStands, StoryRests}
use Rattle.ipl_meaning.specs.Steps.{KeepsPages}
use Rattle.ipl_meaning.specs.Tables.{IsFree, Tables}
use Rattle.unit_io.specs.Charts.{Gains}
use Rattle.unit_io.specs.Leads.{IsSteady, KeepsMap}
use Rattle.unit_io.specs.Spots.{Programs, IsSpot}
use Rattle.unit_io.specs.Steps.{Steps, RestsAgreeing}
use Rattle.selective_merge.specs.Merged.{IsMergedUnit}
use Rattle.selective_merge.specs.Packs.{among}
use Rattle.selective_merge.specs.Leaving.{FindsSpot}
use Rattle.selective_merge.specs.Merging.{FailsAsMerge, StaysMirrored}
use Rattle.selective_merge.specs.Spotting.{IsHomeSpot, IsSpotFor, MayOverflow, TakesOverflow, FollowsRules}
use Rattle.selective_merge.specs.Throughout.{ChartsThroughout}
use Rattle.selective_merge.specs.Writing.{IsCleanPlace}

-- ---- a new overflow place

-- the place has the header of an overflow place under this generation, for so many units, which says
-- how often it was erased
pub record HasOverflowHeader (p units erases generation : ℕ) (c y : Chart) : Type 0 where
  pub head : Sector
  pub kind : head.kind ≡ 3
  pub of_generation : head.generation ≡ generation
  pub serial : head.serial ≡ generation
  pub counts : SpellsOverflowHeader head.version units head.payload
  pub says : erases_said (Some head) ≡ erases
  pub gains : Gains p 0 head c y

-- a clean place, opened
abbrev pub OpensPlace : ℕ → ℕ → ℕ → ℕ → ℕ → Told → Result (Unit {0}) ChipFault → Told → Type 0
OpensPlace places p units erases generation old result new = (m : Legible) (it : Layout) (h : History)
    → IsSteady h old → StoryRests places m h → Laid places (now h) it → IsCleanPlace p h
    → KeepsMap places m (Programs p (IsSpot 0)) (λ done. HasOverflowHeader p units erases generation) h old result new

-- the header of the place says how often the tables have it erased
abbrev pub SaysErases : Tables → ℕ → Chart → Type 0
SaysErases t p c = erases_said (c p 0) ≡ slice_index t.places.erases p

-- the place has the header of an overflow place, for as many units as the tables have
abbrev pub SaysUnits : Tables → ℕ → Chart → Type 0
SaysUnits t p c = (head : Sector) × (c p 0 ≡ Some head) × (head.kind ≡ 3)
    × SpellsOverflowHeader head.version (length t.places.current) head.payload

-- the header of a new overflow place says how often the tables have it erased, and how many units they have
pub record SaysCounts (t : Tables) (p : ℕ) (c : Chart) : Type 0 where
  pub erases : SaysErases t p c
  pub units : SaysUnits t p c

-- the header of the place says its erases and the units, and whatever layout the tables mirrored, they
-- mirror it still, and each page is shown still
abbrev pub OpensOverflow : ℕ → Tables → Tables → ℕ → Chart → Chart → Type 0
OpensOverflow places t after p c y = (it : Layout) → Mirrors places c it t
    → Mirrors places y it after × KeepsPages places c it y it × SaysCounts after p y

-- the story rests on the map, the tables agree, each page is shown still, and the header of the place
-- says its erases and the units
pub record RestsOpened (places : ℕ) (m : Legible) (c : Chart) (it : Layout) (after : Tables) (p : ℕ)
    (k : History) : Type 0 where
  pub rests : StoryRests places m k
  pub agrees : Agrees places k it after
  pub keeps : KeepsPages places c it (now k) it
  pub says : SaysCounts after p (now k)

abbrev pub OpensInSteps : ℕ → Tables → Tables → Told → Result Spot ChipFault → Told → Type 0
OpensInSteps places t after old result new = (m : Legible) (it : Layout) (h : History)
    → IsSteady h old → StoryRests places m h → Agrees places h it t
    → Steps (EachStands places m) t after
    (λ spot k. RestsOpened places m (now h) it after spot.place k)
    (λ k. RestsAgreeing places m it after k) h result old new

-- ---- room for a log sector

-- the tables mirror the chip, each page is shown still, and it is laid out as before, but that the
-- unit may have been merged
pub record MayHaveMerged (places : ℕ) (c y : Chart) (it : Layout) (t : Tables) (u : ℕ)
    (after : Tables) : Type 0 where
  pub layout : Layout
  pub mirrors : Mirrors places y layout after
  pub keeps : KeepsPages places c it y layout
  pub how : (layout ≡ it) ⊎ IsMergedUnit places c y it t u after

-- the unit was merged, and this is its first clean log sector
pub record IsMergedSpot (places : ℕ) (c y : Chart) (it : Layout) (t : Tables) (u : ℕ)
    (after : Tables) (p s : ℕ) : Type 0 where
  pub merged : IsMergedUnit places c y it t u after
  pub spot : IsHomeSpot after u p s

-- there is room elsewhere: in an overflow place, where a sector is to be had; else the unit was merged.
-- Where the place was free before, its header says its erases, and that of an overflow place the units.
pub record IsElsewhere (places : ℕ) (c y : Chart) (it : Layout) (t : Tables) (u : ℕ)
    (after : Tables) (p s : ℕ) : Type 0 where
  pub room : MayHaveMerged places c y it t u after
  pub overflow : MayOverflow t u → TakesOverflow t after u p s
  pub merged : ¬ MayOverflow t u
      → IsMergedUnit places c y it t u after × IsHomeSpot after u p s
  pub says : IsFree t.places p → SaysErases after p y
  pub units : IsFree t.places p → p ≢ slice_index after.places.current u → SaysUnits after p y

-- there is room, by the rules; and where the place was free before, its header says its erases, and that of an
-- overflow place the units
pub record IsPlaced (places : ℕ) (c y : Chart) (it : Layout) (t : Tables) (u : ℕ)
    (after : Tables) (p s : ℕ) : Type 0 where
  pub room : MayHaveMerged places c y it t u after
  pub rules : FollowsRules (IsMergedUnit places c y it t u after)
      (carried_count (among t.active) (it.units u).log) t after u p s
  pub says : IsFree t.places p → SaysErases after p y
  pub units : IsFree t.places p → p ≢ slice_index after.places.current u → SaysUnits after p y

-- a call that makes room as this says, over what the chip holds
abbrev pub MakesRoom :
    (ℕ → Chart → Chart → Layout → Tables → ℕ → Tables → ℕ → ℕ → Type 0)
    → ℕ → ℕ → Tables → Tables → Spot → Chart → Chart → Type 0
MakesRoom Is places u t after spot c y = (it : Layout) → Mirrors places c it t
    → Is places c y it t u after spot.place spot.sector

-- the story rests on the map, there is such room, and what is counted as clean is
pub record RestsWithRoom
    (Is : ℕ → Chart → Chart → Layout → Tables → ℕ → Tables → ℕ → ℕ → Type 0)
    (places : ℕ) (m : Legible) (c : Chart) (it : Layout) (t : Tables) (u : ℕ) (after : Tables)
    (spot : Spot) (k : History) : Type 0 where
  pub rests : StoryRests places m k
  pub room : Is places c (now k) it t u after spot.place spot.sector
  pub tidy : IsTidy k after

-- At each moment a power cut leaves the map. Where no write failed the story rests on it: done, with
-- such room; and not done, the tables agree on the same layout.
abbrev pub MakesRoomInSteps :
    (ℕ → Chart → Chart → Layout → Tables → ℕ → Tables → ℕ → ℕ → Type 0)
    → ℕ → ℕ → Tables → Tables → Told → Result Spot ChipFault → Told → Type 0
MakesRoomInSteps Is places u t after old result new = (m : Legible) (it : Layout) (h : History)
    → IsSteady h old → StoryRests places m h → Agrees places h it t
    → Steps (EachStands places m) t after
    (λ spot k. RestsWithRoom Is places m (now h) it t u after spot k)
    (λ k. RestsAgreeing places m it after k) h result old new

-- What a call leaves that makes room as this says for a log sector of the unit, however it ends: what the chip holds
-- then, and what a power cut leaves; why it fails over what the chip holds; and where the log sector may go, what
-- the tables have and what is spent, whatever the chip tells: each sector is read at most as often as it is listed.
pub record PlacesLog (Is : ℕ → Chart → Chart → Layout → Tables → ℕ → Tables → ℕ → ℕ → Type 0)
    (read : List (ℕ × ℕ)) (u : ℕ) (t after : Tables) (result : Result Spot ChipFault) (old new : Told) : Type 0 where
  pub tells : ChartsThroughout (MakesRoom Is old.places u t after) (StaysMirrored old.places t after)
      result old new
  pub steps : MakesRoomInSteps Is old.places u t after old result new
  pub fault : FailsAsMerge old.places t u result old
  pub spot : IfOk result (λ spot. IsSpotFor after u spot.place spot.sector)
  pub finds : FindsSpot read u t after result old new
