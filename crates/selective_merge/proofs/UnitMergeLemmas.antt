-- The merge of a unit, whole: of one that was read, of one that wasn't, and behind reads.
use Rattle.std.proofs.Common.{◌≡◌, ◌<◌, ◌≤◌, ◌∙◌, ℕ, List, ◌++◌, Option, Some, Result, Err, inl, length, slice_index, refl, sym, subst}
use Rattle.chip_trait.specs.Story.{Contents}
use Rattle.chip_trait.specs.Told.{Told}
use Rattle.ipl_base.specs.declared.fault.ChipFault.{ChipFault}
use Rattle.ipl_base.specs.declared.fault.ChipFault.TheVariants.{Malformed}
use Rattle.ipl_base.specs.declared.limits.TheConstants.{CARRIED_SECTORS}
use Rattle.ipl_format.specs.Record.{Record}
use Rattle.ipl_meaning.specs.Chart.{chart_of}
use Rattle.ipl_meaning.specs.Last.{carried_count}
use Rattle.ipl_meaning.specs.Layout.{Layout}
use Rattle.ipl_meaning.specs.Mirrors.{Mirrors}
use Rattle.ipl_meaning.specs.Tables.{Tables}
use Rattle.overflow.specs.Lists.{spots_in}
use Rattle.unit_io.specs.Reads.{OfContents}
use Rattle.unit_io.specs.ReadsAt.{IsCauseAt, ReadsAt}
use Rattle.unit_io.proofs.ReadsAtLemmas.{at_none}
use Rattle.unit_io.specs.Costs.{Spends}
use Rattle.unit_io.proofs.UnreadLemmas.{unread_none}
use Rattle.unit_log.specs.Often.{ReadsListed}
use Rattle.unit_log.proofs.OftenLemmas.{often_first, often_unread}
use Rattle.selective_merge.specs.Often.{all_of, base_of, log_of}
use Rattle.unit_log.specs.Looks.{IsLogRead}
use Rattle.selective_merge.specs.Faults.{pages_fault, TellsTheFault}
use Rattle.selective_merge.specs.Known.{KnowsPlaces}
use Rattle.selective_merge.specs.Packs.{among, packs_of}
use Rattle.selective_merge.proofs.FaultLemmas.{fault_unread, fault_with_few, fault_with_many}
use Rattle.selective_merge.specs.declared.home.HomeHeader.{HomeHeader}
use Rattle.selective_merge.specs.Homes.{from_home, IsHomeOf, IsLearnt, LearnsHome}
use Rattle.selective_merge.specs.Leaving.{MovesUnit}
use Rattle.selective_merge.specs.Merging.{CarriesFew, CompletesMerge, MergesFrom, MergesFromInSteps, MergesUnit, StaysMirrored, TellsMergeFault}
use Rattle.selective_merge.specs.Throughout.{ChartsThroughout}
use Rattle.selective_merge.proofs.CompleteLemmas.{merge_completes, merge_told}
use Rattle.selective_merge.proofs.FewLemmas.{few_packed, few_unread, too_many}
use Rattle.selective_merge.proofs.LeavingLemmas.{moves_behind, moves_unread}
use Rattle.selective_merge.proofs.WholeLemmas.{merge_behind, merge_read, merge_unread, merged_told, told_behind, told_unread}

-- ---- a unit that was read

module _ (u : ℕ) (t : Tables) (home : HomeHeader) (log : List Record) (old : Told)
    (learnt : IsLearnt t u old home log) where
  is_home : (x : Contents) (it : Layout) → old.contents ≡ Some x → Mirrors old.places (chart_of x) it t
      → IsHomeOf home (it.units u) u log
  is_home x it told mirrors =
      learnt.learns x told it t (record { mirrors = mirrors; directory_is = refl; overflow_is = refl })

  -- what is carried of what was read is what is carried of the unit
  carries_few : (result : Result (Unit {0}) ChipFault)
      → CarriesFew home.place (length (packs_of t.active log)) result
      → OfContents old (λ x. (it : Layout) → Mirrors old.places (chart_of x) it t
      → CarriesFew (slice_index t.places.current u) (carried_count (among t.active) (it.units u).log) result)
  carries_few result few x told it mirrors =
      subst (λ (l : List Record). CarriesFew (slice_index t.places.current u)
      (length (packs_of t.active l)) result) (is_home x it told mirrors).log_is
      (subst (λ (p : ℕ). CarriesFew p (length (packs_of t.active log)) result) learnt.stands.place few)

  -- too many log sectors would be carried
  pub merged_not : KnowsPlaces old.places t → CARRIED_SECTORS < length (packs_of t.active log)
      → MergesUnit (base_of t u) u t t (Err (Malformed home.place 0)) old old
  merged_not known many =
      let result : Result (Unit {0}) ChipFault = Err (Malformed home.place 0) in
      let fault : TellsMergeFault old.places t u result old = λ x told it mirrors.
      merge_told x t (it.units u) u home log result (is_home x it told mirrors)
      (λ alone. fault_with_many x (from_home home t.status.numbers log) _ many) in record {
        tells = λ soft. told_unread (λ p s. ⊥) old.places t old old (at_none (λ p s. ⊥) old);
        steps = merge_unread (Unit {0}) (λ p s. ⊥) old.places u t (Malformed home.place 0) old old
            (at_none (λ p s. ⊥) old);
        few = carries_few result (too_many (Unit {0}) home.place _ many);
        fault = fault;
        complete = merge_completes old.places t u result old fault;
        moves = moves_unread (base_of t u) u t (Malformed home.place 0) old old known (at_none _ old)
            (often_unread (base_of t u) old old (unread_none old)) (inl (learnt.stands.place, refl));
      }

  -- what was packed was written, or wasn't
  pub merged_by : (after : Tables) (result : Result (Unit {0}) ChipFault) (new : Told)
      → MergesFromInSteps old.places u (from_home home t.status.numbers log) t after old result new
      → ChartsThroughout (λ done. MergesFrom old.places u (from_home home t.status.numbers log) t after)
      (StaysMirrored old.places t after) result old new
      → OfContents old (λ x. TellsTheFault (pages_fault x (from_home home t.status.numbers log)) result)
      → length (packs_of t.active log) ≤ CARRIED_SECTORS → MovesUnit (base_of t u) u t after result old new
      → MergesUnit (base_of t u) u t after result old new
  merged_by after result new steps tells told_fault few moves =
      let fault : TellsMergeFault old.places t u result old = λ x told it mirrors.
      merge_told x t (it.units u) u home log result (is_home x it told mirrors)
      (subst (λ (o : Option ChipFault). TellsTheFault o result)
      (sym (fault_with_few x (from_home home t.status.numbers log) _ few)) (told_fault x told)) in record {
        tells = merged_told u home log t after old new result learnt.learns tells;
        steps = merge_read u home log t after old new result learnt.learns steps;
        few = carries_few result (few_packed home.place _ result few);
        fault = fault;
        complete = merge_completes old.places t u result old fault;
        moves = moves;
      }

-- ---- a unit that wasn't read

pub merged_unlearnt : (u : ℕ) (t : Tables) (home : HomeHeader) (log : List Record) (fault : ChipFault)
    (old new : Told) → KnowsPlaces old.places t
    → ReadsAt (IsLogRead (slice_index t.places.current u) (spots_in t.overflow u)) old new
    → IsCauseAt (IsLogRead (slice_index t.places.current u) (spots_in t.overflow u)) fault old new
    → LearnsHome t.places t.overflow u old (Err fault) home log
    → Spends (ReadsListed (log_of t u)) old new
    → MergesUnit (all_of t u) u t t (Err fault) old new
merged_unlearnt u t home log fault old new known reads cause learns often =
    let At : ℕ → ℕ → Type 0 = IsLogRead (slice_index t.places.current u) (spots_in t.overflow u) in
    let result : Result (Unit {0}) ChipFault = Err fault in
    let told_fault : TellsMergeFault old.places t u result old = λ x told it mirrors.
    fault_unread _ fault
    (learns x told it t (record { mirrors = mirrors; directory_is = refl; overflow_is = refl })) in record {
      tells = λ soft. told_unread At old.places t old new reads;
      steps = merge_unread (Unit {0}) At old.places u t fault old new reads;
      few = λ x told it mirrors. few_unread (Unit {0}) _ _ fault
          (learns x told it t (record { mirrors = mirrors; directory_is = refl; overflow_is = refl }));
      fault = told_fault;
      complete = merge_completes old.places t u result old told_fault;
      moves = moves_unread (all_of t u) u t fault old new known reads
          (often_first (log_of t u) (base_of t u) old new often) cause;
    }

-- ---- behind reads

pub merges_behind : (At : ℕ → ℕ → Type 0) (u : ℕ) (t after : Tables) (result : Result (Unit {0}) ChipFault)
    (old mid new : Told) (first then : List (ℕ × ℕ)) → ReadsAt At old mid → Spends (ReadsListed first) old mid
    → MergesUnit then u t after result mid new → MergesUnit (first ++ then) u t after result old new
merges_behind At u t after result old mid new first then reads often merges = record {
  tells = told_behind At u t after old mid new result reads merges.tells;
  steps = merge_behind At u t after old mid new result reads merges.steps;
  few = λ x told. subst (λ (n : ℕ). (it : Layout) → Mirrors n (chart_of x) it t
      → CarriesFew (slice_index t.places.current u) (carried_count (among t.active) (it.units u).log) result)
      reads.counts.places (merges.few x (reads.contents ∙ told));
  fault = λ x told. subst (λ (n : ℕ). TellsMergeFault n t u result mid) reads.counts.places merges.fault x
      (reads.contents ∙ told);
  complete = λ x told. subst (λ (n : ℕ). CompletesMerge n t u result mid) reads.counts.places merges.complete x
      (reads.contents ∙ told);
  moves = moves_behind At u t after result old mid new first then reads often merges.moves;
}
