-- A place filled.
use Rattle.std.proofs.Common.{◌≡◌, ◌≢◌, ℕ, List, length, Bool, true, false, ◌++◌, None, Result, Ok, Err, IfErr, IfOk, is_ok, ◌∙◌, subst, arith}
use Rattle.chip_trait.specs.Story.{Story}
use Rattle.chip_trait.specs.Lawful.{Clean, age}
use Rattle.chip_trait.specs.Told.{History, Told, Counts, adds_all}
use Rattle.chip_trait.proofs.AgeLemmas.{clean_blank, clean_lasting}
use Rattle.chip_trait.specs.Image.{is_worn}
use Rattle.log_records.specs.View.{Versioned}
use Rattle.ipl_base.specs.declared.fault.ChipFault.{ChipFault}
use Rattle.ipl_format.proofs.SectorLemmas.{blank_says_nothing}
use Rattle.ipl_meaning.specs.Legible.{Legible}
use Rattle.ipl_meaning.specs.Chart.{Chart}
use Rattle.ipl_meaning.specs.Rests.{now, StoryRests}
use Rattle.unit_io.specs.Charts.{Charts, IsCleared}
use Rattle.unit_io.specs.Leads.{IsSteady, IsStopped}
use Rattle.unit_io.specs.Spots.{Programs, IsSpot}
use Rattle.unit_io.proofs.SpotLemmas.{programs_then, programs_wider}
use Rattle.selective_merge.specs.Merged.{IsFilled}
use Rattle.selective_merge.specs.Moved.{Source, HasMoved, IsAside, IsUnsealed}
use Rattle.selective_merge.specs.Packs.{IsLogSpotBelow, HasLogs}
use Rattle.selective_merge.specs.Pages.{IsBaseSpotBelow}
use Rattle.selective_merge.specs.Throughout.{KeepsThroughout}
use Rattle.selective_merge.specs.Writing.{GainsUnit, IsCleanPlace, IsFilledSpot, IsUnitSpot, MovesPages, WritesLogs}
use Rattle.selective_merge.proofs.MoveLemmas.{moved_aside}
use Rattle.selective_merge.proofs.ThroughoutLemmas.{keeps_written, keeps_then, keeps_failed, charts_then}

-- ---- a clean place

-- nothing checks there
pub clean_bare : (h : History) (p s : ℕ) → age h.story p s ≡ Clean → now h p s ≡ None
clean_bare h p s clean = rw (clean_blank h.start h.story p s clean) blank_says_nothing

-- and it isn't worn
pub worn_apart : (story : Story) (p q s : ℕ) → age story p s ≡ Clean → is_worn story q ≡ true → q ≢ p
worn_apart story p q s clean worn same =
    let sound : is_worn story q ≡ false = rw same (clean_lasting story p s clean) in cc (worn, sound)

-- ---- the events

-- log sectors behind base sectors
pub programs_filled : (p n : ℕ) (done : Bool) (b a : Story) → Programs p (IsBaseSpotBelow 15) true a
    → Programs p (IsLogSpotBelow n) done b → Programs p (IsFilledSpot n) done (b ++ a)
programs_filled p n done b a =
    programs_then p (IsBaseSpotBelow 15) (IsLogSpotBelow n) (IsFilledSpot n) true done b a
    (λ s is at. omega (arith, is.1, at.0)) (λ s is. (is.0, omega (arith, is.1)))
    (λ s is. (omega (arith, is.0), is.1))

-- and the header
pub programs_unit : (p n : ℕ) (done : Bool) (b a : Story) → Programs p (IsFilledSpot n) true a
    → Programs p (IsSpot 0) done b → Programs p (IsUnitSpot n) done (b ++ a)
programs_unit p n done b a =
    programs_then p (IsFilledSpot n) (IsSpot 0) (IsUnitSpot n) true done b a
    (λ s is at. omega (arith, is.0, at)) (λ s is. is.1) (λ s at. omega (arith, at))

-- where not all was done
pub programs_pages : (p n : ℕ) (a : Story) → Programs p (IsBaseSpotBelow 15) false a
    → Programs p (IsFilledSpot n) false a
programs_pages p n a =
    programs_wider p (IsBaseSpotBelow 15) (IsFilledSpot n) false false a
    (λ s is. (is.0, omega (arith, is.1)))

pub programs_unsealed : (p n : ℕ) (a : Story) → Programs p (IsFilledSpot n) false a
    → Programs p (IsUnitSpot n) false a
programs_unsealed p n a = programs_wider p (IsFilledSpot n) (IsUnitSpot n) false false a (λ s is. is.1)

-- ---- the charts

-- a place that was cleared has no header, whatever else was written there
pub unsealed : (p : ℕ) (c d e : Chart) → IsCleared p c d → IsAside p d e → IsUnsealed p c e
unsealed p c d e cleared aside = record {
  bare = aside.header ∙ cleared.bare 0;
  others = λ q s apart. aside.others q s apart ∙ cleared.others q s apart;
}

gains_unit : (from : Source) (p g serial u : ℕ) (pieces : List ℕ) (payloads : List Versioned)
    (c d e : Chart) → u ≡ from.unit → HasMoved from p g pieces 15 c d
    → HasLogs p u g serial payloads (length payloads) d e
    → GainsUnit from p g serial pieces payloads c e
gains_unit from p g serial u pieces payloads c d e unit_is moved logs = record {
  paged = d;
  moved = moved;
  logs = subst (λ (k : ℕ). HasLogs p k g serial payloads (length payloads) d e) unit_is logs;
}

-- a place that was cleared is filled so
pub filled_by : (from : Source) (p g serial : ℕ) (pieces : List ℕ) (payloads : List Versioned)
    (c d e : Chart) → IsCleared p c d → GainsUnit from p g serial pieces payloads d e
    → IsFilled from p g serial pieces payloads c e
filled_by from p g serial pieces payloads c d e cleared gains = record {
  bare = d;
  paged = gains.paged;
  cleared = cleared;
  moved = gains.moved;
  logs = gains.logs;
}

-- ---- what the calls leave

module _ (places : ℕ) (from : Source) (p g serial u : ℕ) (payloads : List Versioned)
    (unit_is : u ≡ from.unit) (m : Legible) (h : History) (old : Told) (steady : IsSteady h old)
    (rests : StoryRests places m h) (clean : IsCleanPlace p h) where
  bare : now h p 0 ≡ None
  bare = clean_bare h p 0 (clean 0)

  pub pages_failed : (e f : ChipFault) (late : Told) → f ≡ e → MovesPages places from p g old (Err e) late
      → KeepsThroughout {T = List ℕ} places m (Programs p (IsFilledSpot (length payloads)))
      (λ pieces. GainsUnit from p g serial pieces payloads) (IsAside p) h (Err f) old late
  pages_failed e f late same says =
      keeps_failed places m h (Programs p (IsBaseSpotBelow 15))
      (Programs p (IsFilledSpot (length payloads))) (λ pieces. HasMoved from p g pieces 15)
      (λ pieces. GainsUnit from p g serial pieces payloads) (IsAside p) (IsAside p) old late e f same
      (says m h steady rests bare (λ s spot. clean s)) (programs_pages p (length payloads))
      (λ c d is. is)

  module _ (late : Told) (counts : Counts old late) (pieces : List ℕ)
      (says : MovesPages places from p g old (Ok pieces) late) where
    pub logged : (new : Told) (result : Result (Unit {0}) ChipFault)
        → WritesLogs places p u g serial payloads late result new
        → IfErr result (λ fault. IsStopped fault late new)
        → KeepsThroughout places m (Programs p (IsFilledSpot (length payloads)))
        (λ done. GainsUnit from p g serial pieces payloads) (IsAside p) h result old new
    logged new result writes stopped =
        let first = says m h steady rests bare (λ s spot. clean s) in
        let k = adds_all first.added h in
        let there = (first.ends tt).1 in
        keeps_then places m h (Programs p (IsBaseSpotBelow 15) true)
        (Programs p (IsLogSpotBelow (length payloads))) (Programs p (IsFilledSpot (length payloads)))
        (HasMoved from p g pieces 15)
        (λ (done : Unit {0}). HasLogs p u g serial payloads (length payloads))
        (λ done. GainsUnit from p g serial pieces payloads) (λ c y. ⊥) (IsAside p)
        old late new result first counts
        (keeps_written places m k (Programs p (IsLogSpotBelow (length payloads)))
        (λ done. HasLogs p u g serial payloads (length payloads)) (λ c y. ⊥) late new result
        (writes m k (first.steady tt) (first.ends tt).0
        ((moved_aside from p g pieces 15 (now h) (now k) there).header ∙ bare)
        (λ s spot. first.does.others h.story p s (λ same is. omega (arith, is.1, spot.0)) (clean s)))
        stopped)
        (λ a b one two. programs_filled p (length payloads) (is_ok result) b a one two)
        (each result) (λ c d e is none. absurd none)
      where
        each : (r : Result (Unit {0}) ChipFault) → IfOk r (λ done. (c d e : Chart)
            → HasMoved from p g pieces 15 c d
            → HasLogs p u g serial payloads (length payloads) d e
            → GainsUnit from p g serial pieces payloads c e)
        each (Ok done) = λ c d e moved logs.
            gains_unit from p g serial u pieces payloads c d e unit_is moved logs
        each (Err e) = tt

    pub logs_failed : (e f : ChipFault) (new : Told) → f ≡ e
        → WritesLogs places p u g serial payloads late (Err e) new → IsStopped e late new
        → KeepsThroughout {T = List ℕ} places m (Programs p (IsFilledSpot (length payloads)))
        (λ pieces. GainsUnit from p g serial pieces payloads) (IsAside p) h (Err f) old new
    logs_failed e f new same writes stopped =
        keeps_failed places m h (Programs p (IsFilledSpot (length payloads)))
        (Programs p (IsFilledSpot (length payloads)))
        (λ (done : Unit {0}). GainsUnit from p g serial pieces payloads)
        (λ pieces. GainsUnit from p g serial pieces payloads) (IsAside p) (IsAside p) old new
        e f same (logged new (Err e) writes stopped) (λ a is. is) (λ c d is. is)

-- ---- what is told of the contents

pub filled_told : (from : Source) (p g serial u : ℕ) (payloads : List Versioned) → u ≡ from.unit
    → (pieces : List ℕ) (old late new : Told) → Charts (HasMoved from p g pieces 15) old late
    → Charts (HasLogs p u g serial payloads (length payloads)) late new
    → Charts (GainsUnit from p g serial pieces payloads) old new
filled_told from p g serial u payloads unit_is pieces old late new one two =
    charts_then (HasMoved from p g pieces 15) (HasLogs p u g serial payloads (length payloads))
    (GainsUnit from p g serial pieces payloads) old late new one two
    (λ c d e moved logs. gains_unit from p g serial u pieces payloads c d e unit_is moved logs)
