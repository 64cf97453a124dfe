-- What a merge leaves.
use Rattle.std.specs.Prelude.{ℕ, ◌≡◌, ◌<◌, ◌≤◌, ◌+◌, ◌^◌, ◌⊎◌, List, length, slice_index, Result, MatchResult, IfErr}
use Rattle.ipl_base.specs.declared.limits.TheConstants.{CARRIED_SECTORS}
use Rattle.chip_trait.specs.Told.{History, Told}
use Rattle.ipl_base.specs.declared.fault.ChipFault.{ChipFault}
use Rattle.ipl_base.specs.declared.fault.ChipFault.TheVariants.{Malformed, ReadFault}
use Rattle.ipl_meaning.specs.Legible.{Legible}
use Rattle.ipl_meaning.specs.Agrees.{IsTidy, Agrees}
use Rattle.ipl_meaning.specs.Chart.{Chart, chart_of}
use Rattle.ipl_meaning.specs.Last.{carried_count}
use Rattle.ipl_meaning.specs.Layout.{Layout}
use Rattle.ipl_meaning.specs.Mirrors.{Mirrors}
use Rattle.ipl_meaning.specs.Rests.{now, EachStands, StoryRests}
use Rattle.ipl_meaning.specs.Steps.{KeepsPages}
use Rattle.ipl_meaning.specs.Tables.{Tables}
use Rattle.unit_io.specs.Leads.{IsSteady}
use Rattle.unit_io.specs.Reads.{OfContents}
use Rattle.unit_io.specs.Steps.{RestsAgreeing}
use Rattle.selective_merge.specs.Faults.{merge_fault, IsMergeable, IsTheFault, TellsTheFault, FailsByChipAlone}
use Rattle.selective_merge.specs.Known.{KnowsPlaces}
use Rattle.selective_merge.specs.Merged.{source_of, IsMergedUnit}
use Rattle.selective_merge.specs.Moved.{Source}
use Rattle.selective_merge.specs.Packs.{among}
use Rattle.selective_merge.specs.Leaving.{MovesUnit}
use Rattle.selective_merge.specs.Throughout.{ChartsThroughout, StepsThroughout}

-- the tables know each place, the unit is one of theirs, and the numbers that a merge may draw are left
pub record IsReadyToMerge (places : ℕ) (t : Tables) (u : ℕ) : Type 0 where
  pub known : KnowsPlaces places t
  pub unit : u < length t.places.current
  pub left : t.next + 13 < 2 ^ 64

-- ---- what the chip holds

-- whatever layout the tables mirrored, the unit was merged
abbrev pub Merges : ℕ → ℕ → Tables → Tables → Chart → Chart → Type 0
Merges places u t after c y = (it : Layout) → Mirrors places c it t
    → IsMergedUnit places c y it t u after

-- where this is what was read of it
abbrev pub MergesFrom : ℕ → ℕ → Source → Tables → Tables → Chart → Chart → Type 0
MergesFrom places u from t after c y = (it : Layout) → Mirrors places c it t
    → from ≡ source_of t (it.units u) u → IsMergedUnit places c y it t u after

-- whatever layout the tables mirrored, they mirror it still, and each page is shown still
abbrev pub StaysMirrored : ℕ → Tables → Tables → Chart → Chart → Type 0
StaysMirrored places t after c y = (it : Layout) → Mirrors places c it t
    → Mirrors places y it after × KeepsPages places c it y it

-- where so many log sectors are carried, they are at most 12 once it is done; where they are more and
-- no read failed, sector 0 of this place is malformed
abbrev pub CarriesFew : {T : Type 0} → ℕ → ℕ → Result T ChipFault → Type 0
CarriesFew place n result = MatchResult result (λ done. n ≤ CARRIED_SECTORS)
    (λ fault. CARRIED_SECTORS < n → (fault ≡ ReadFault) ⊎ (fault ≡ Malformed place 0))

-- ---- why it fails over what the chip holds

-- it tells what is wrong with the unit, or that nothing is; unless a call of the chip failed
abbrev pub TellsMergeFault : {T : Type 0} → ℕ → Tables → ℕ → Result T ChipFault → Told → Type 0
TellsMergeFault places t u result told = OfContents told (λ x. (it : Layout)
    → Mirrors places (chart_of x) it t → TellsTheFault (merge_fault x t (it.units u) u) result)

-- where it fails, this is what is wrong with the unit
abbrev pub FailsAsMerge : {T : Type 0} → ℕ → Tables → ℕ → Result T ChipFault → Told → Type 0
FailsAsMerge places t u result told = OfContents told (λ x. (it : Layout)
    → Mirrors places (chart_of x) it t
    → IfErr result (IsTheFault (merge_fault x t (it.units u) u)))

-- where the unit's pages show values and few log sectors would be carried, it fails only where a call
-- of the chip failed
abbrev pub CompletesMerge : {T : Type 0} → ℕ → Tables → ℕ → Result T ChipFault → Told → Type 0
CompletesMerge places t u result told = OfContents told (λ x. (it : Layout)
    → Mirrors places (chart_of x) it t → IsMergeable (chart_of x) it.committed t (it.units u) u
    → FailsByChipAlone result)

-- ---- what a power cut leaves

-- the story rests on the map, the unit was merged, and the tables agree
pub record RestsMerged (places : ℕ) (m : Legible) (c : Chart) (it : Layout) (t : Tables) (u : ℕ)
    (after : Tables) (k : History) : Type 0 where
  pub rests : StoryRests places m k
  pub unit : IsMergedUnit places c (now k) it t u after
  pub tidy : IsTidy k after

-- At each moment a power cut leaves the map. Where no write failed the story rests on it, also where the
-- merge failed for what the chip holds: done, the unit was merged; and not done, the tables agree on the
-- same layout.
abbrev pub StepsMerging : {T : Type 0} → ℕ → Legible → Layout → Tables → ℕ → Tables
    → History → Result T ChipFault → Told → Told → Type 0
StepsMerging places m it t u after h result old new =
    StepsThroughout (EachStands places m) t after
    (λ done k. RestsMerged places m (now h) it t u after k)
    (λ k. RestsAgreeing places m it after k) h result old new

-- whatever map and layout it began with
abbrev pub MergesInSteps : {T : Type 0} → ℕ → ℕ → Tables → Tables
    → Told → Result T ChipFault → Told → Type 0
MergesInSteps places u t after old result new = (m : Legible) (it : Layout) (h : History)
    → IsSteady h old → StoryRests places m h → Agrees places h it t
    → StepsMerging places m it t u after h result old new

-- where this is what was read of the unit
abbrev pub MergesFromInSteps : ℕ → ℕ → Source → Tables → Tables
    → Told → Result (Unit {0}) ChipFault → Told → Type 0
MergesFromInSteps places u from t after old result new = (m : Legible) (it : Layout) (h : History)
    → IsSteady h old → StoryRests places m h → Agrees places h it t
    → from ≡ source_of t (it.units u) u
    → StepsMerging places m it t u after h result old new

-- ---- a merge

-- What a merge of the unit leaves, however it ends: what the chip holds then, and what a power cut leaves; that few
-- log sectors are carried; why it fails over what the chip holds, which is only where a call of the chip failed,
-- where the unit's pages show values and few log sectors would be carried; and what the tables have and what is
-- spent, whatever the chip tells: each sector is read at most as often as it is listed.
pub record MergesUnit (read : List (ℕ × ℕ)) (u : ℕ) (t after : Tables) (result : Result (Unit {0}) ChipFault) (old new : Told)
    : Type 0 where
  pub tells : ChartsThroughout (λ done. Merges old.places u t after) (StaysMirrored old.places t after)
      result old new
  pub steps : MergesInSteps old.places u t after old result new
  pub few : OfContents old (λ x. (it : Layout) → Mirrors old.places (chart_of x) it t
      → CarriesFew (slice_index t.places.current u) (carried_count (among t.active) (it.units u).log) result)
  pub fault : TellsMergeFault old.places t u result old
  pub complete : CompletesMerge old.places t u result old
  pub moves : MovesUnit read u t after result old new
