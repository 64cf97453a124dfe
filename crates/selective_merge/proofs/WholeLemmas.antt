-- A merge behind what was read of the unit.
use Rattle.std.proofs.Common.{◌≡◌, ℕ, List, Some, Result, Ok, Err, refl, ◌∙◌, subst}
use Rattle.chip_trait.specs.Story.{Contents, held}
use Rattle.chip_trait.specs.Told.{History, Told, adds_all}
use Rattle.ipl_base.specs.declared.fault.ChipFault.{ChipFault}
use Rattle.ipl_format.specs.Record.{Record}
use Rattle.ipl_meaning.specs.Legible.{Legible}
use Rattle.ipl_meaning.specs.Agrees.{Agrees}
use Rattle.ipl_meaning.specs.Chart.{Chart, chart_of}
use Rattle.ipl_meaning.specs.Layout.{Shape, Layout}
use Rattle.ipl_meaning.specs.Mirrors.{Mirrors}
use Rattle.ipl_meaning.specs.Rests.{now, EachStands, StoryRests}
use Rattle.ipl_meaning.specs.Tables.{Tables, IsCountedClean}
use Rattle.unit_io.specs.Charts.{Charts}
use Rattle.unit_io.specs.Leads.{IsSteady}
use Rattle.unit_io.specs.ReadsAt.{ReadsAt}
use Rattle.unit_io.proofs.ReadsAtLemmas.{at_rests, at_agrees, at_now}
use Rattle.unit_io.specs.Steps.{EndsWith, Outcome, TidyWork, RestsAgreeing}
use Rattle.unit_io.proofs.StepLemmas.{outcome_reads, outcome_then, outcome_weaker}
use Rattle.unit_io.proofs.StepTidyLemmas.{tidy_reads, tidy_then, tidy_weaker}
use Rattle.selective_merge.specs.Merged.{source_of}
use Rattle.selective_merge.specs.Moved.{Source}
use Rattle.selective_merge.specs.declared.home.HomeHeader.{HomeHeader}
use Rattle.selective_merge.specs.Homes.{from_home, IsHomeOf, LearnsHome}
use Rattle.selective_merge.specs.Merging.{Merges, MergesFrom, StaysMirrored, RestsMerged, MergesInSteps, MergesFromInSteps}
use Rattle.selective_merge.specs.Throughout.{Unbroken, ChartsThroughout, StepsThroughout}
use Rattle.selective_merge.proofs.UnbrokenLemmas.{unbroken_later}

-- the unit that was read is the one that is merged
pub source_is : (home : HomeHeader) (t : Tables) (it : Shape) (u : ℕ) (log : List Record)
    → IsHomeOf home it u log → from_home home t.status.numbers log ≡ source_of t it u
source_is home t it u log is = rw (is.place, is.version, is.unit, is.generation, is.pieces, is.log_is) refl

-- ---- a call that failed, where only reads were made

pub read_failed : {T : Type 0} (At : ℕ → ℕ → Type 0) (places : ℕ) (m : Legible) (it : Layout)
    (t : Tables) (Then : T → History → Type 0) (h : History) (e : ChipFault) (old new : Told)
    → IsSteady h old → StoryRests places m h → Agrees places h it t → ReadsAt At old new
    → StepsThroughout (EachStands places m) t t Then (λ k. RestsAgreeing places m it t k) h (Err e) old new
read_failed {T} At places m it t Then h e old new steady rests agrees did =
    let Settles = Unbroken {T = T} (Err e) old new in
    outcome_reads At places m (TidyWork (IsCountedClean t) (IsCountedClean t) Settles) Settles
    (RestsAgreeing places m it t) h old new steady rests did
    (tidy_reads At (IsCountedClean t) Settles old new did) (record {
      rests = at_rests At places m h did.added did.each rests;
      agrees = at_agrees At places h it t did.added did.each agrees;
    })

-- ---- a call behind reads

-- what a call leaves of the tables, by when it settles
abbrev StepsWhere : {T : Type 0} → Type 0 → (History → Type 0) → Tables → Tables → (T → History → Type 0)
    → (History → Type 0) → History → Result T ChipFault → Told → Told → Type 0
StepsWhere Settles Each t after Then Else h result old new =
    Outcome Each (TidyWork (IsCountedClean t) (IsCountedClean after) Settles) Settles
    (EndsWith result Then Else) h old new

-- whatever it leaves of histories at which all is as before, and where it settled
pub steps_behind : {T : Type 0} (At : ℕ → ℕ → Type 0) (places : ℕ) (m : Legible) (it : Layout)
    (t after : Tables) (A B : Type 0) (Then : Chart → T → History → Type 0) (Else : History → Type 0)
    (h : History) (old mid new : Told) (result : Result T ChipFault)
    → IsSteady h old → StoryRests places m h → Agrees places h it t → ReadsAt At old mid → (B → A)
    → ((k : History) → IsSteady k mid → StoryRests places m k → Agrees places k it t
    → StepsWhere A (EachStands places m) t after (Then (now k)) Else k result mid new)
    → StepsWhere B (EachStands places m) t after (Then (now h)) Else h result old new
steps_behind At places m it t after A B Then Else h old mid new result steady rests agrees did less later =
    let Each : History → Type 0 = EachStands places m in
    let Clean : ℕ → ℕ → Type 0 = IsCountedClean t in
    let first = outcome_reads At places m (TidyWork Clean Clean (Unit {0})) (Unit {0})
    (λ k. StoryRests places m k × (Agrees places k it t × (now k ≡ now h))) h old mid steady rests
    did (tidy_reads At Clean (Unit {0}) old mid did) (
      at_rests At places m h did.added did.each rests,
      (at_agrees At places h it t did.added did.each agrees, at_now At h did.added did.each),
    ) in
    let k = adds_all first.added h in
    let there = first.ends tt in
    let second = subst (λ (c : Chart). StepsWhere A Each t after (Then c) Else k result mid new) there.1.1
    (later k (first.steady tt) there.0 there.1.0) in
    let both = outcome_then Each (TidyWork Clean Clean (Unit {0}))
    (TidyWork Clean (IsCountedClean after) A) (TidyWork Clean (IsCountedClean after) A) (Unit {0}) A
    (λ k. StoryRests places m k × (Agrees places k it t × (now k ≡ now h)))
    (EndsWith result (Then (now h)) Else) h old mid new first tt second
    (λ a b one two. tidy_then Clean Clean (IsCountedClean after) (Unit {0}) A a b one tt two) in
    outcome_weaker Each Each (TidyWork Clean (IsCountedClean after) A)
    (TidyWork Clean (IsCountedClean after) B) A B (EndsWith result (Then (now h)) Else)
    (EndsWith result (Then (now h)) Else) h old new (λ k is. is)
    (λ a. tidy_weaker Clean (IsCountedClean after) A B a less) less (λ settled k is. is) both

-- ---- a merge behind reads

-- what was read before, where nothing else is done
pub merge_unread : (T : Type 0) (At : ℕ → ℕ → Type 0) (places u : ℕ) (t : Tables) (e : ChipFault)
    (old new : Told) → ReadsAt At old new → MergesInSteps {T = T} places u t t old (Err e) new
merge_unread T At places u t e old new did m it h steady rests agrees =
    read_failed {T = T} At places m it t (λ done k. RestsMerged places m (now h) it t u t k)
    h e old new steady rests agrees did

pub told_unread : (At : ℕ → ℕ → Type 0) (places : ℕ) (t : Tables) (old new : Told)
    → ReadsAt At old new → Charts (StaysMirrored places t t) old new
told_unread At places t old new did x told =
    (x, did.contents ∙ told, λ it mirrors. (mirrors, record { shown = λ v page now low few shows. shows; no_more = λ v page base low few reads. (base, reads) }))

-- what was read of the unit is what is merged
module _ (u : ℕ) (home : HomeHeader) (log : List Record) (t after : Tables) (old new : Told)
    (result : Result (Unit {0}) ChipFault)
    (learns : LearnsHome t.places t.overflow u old (Ok tt) home log) where
  abbrev from : Source
  from = from_home home t.status.numbers log

  source_at : (x : Contents) (it : Layout) → old.contents ≡ Some x
      → Mirrors old.places (chart_of x) it t → from ≡ source_of t (it.units u) u
  source_at x it told mirrors =
      source_is home t (it.units u) u log
      (learns x told it t (record { mirrors = mirrors; directory_is = refl; overflow_is = refl }))

  pub merge_read : MergesFromInSteps old.places u from t after old result new
      → MergesInSteps old.places u t after old result new
  merge_read says m it h steady rests agrees =
      says m it h steady rests agrees (source_at (held h.start h.story) it steady.holds agrees.mirrors)

  pub merged_told : ChartsThroughout (λ done. MergesFrom old.places u from t after)
      (StaysMirrored old.places t after) result old new
      → ChartsThroughout (λ done. Merges old.places u t after)
      (StaysMirrored old.places t after) result old new
  merged_told says = by_result result says
    where
      by_result : (r : Result (Unit {0}) ChipFault)
          → ChartsThroughout (λ done. MergesFrom old.places u from t after)
          (StaysMirrored old.places t after) r old new
          → ChartsThroughout (λ done. Merges old.places u t after)
          (StaysMirrored old.places t after) r old new
      by_result (Ok done) says = λ x told.
          let (y, told_y, merges) = says x told in
          (y, told_y, λ it mirrors. merges it mirrors (source_at x it told mirrors))
      by_result (Err e) says = says

-- a merge behind reads
module _ (At : ℕ → ℕ → Type 0) (u : ℕ) (t after : Tables) (old mid new : Told)
    (result : Result (Unit {0}) ChipFault) (did : ReadsAt At old mid) where
  pub merge_behind : MergesInSteps mid.places u t after mid result new
      → MergesInSteps old.places u t after old result new
  merge_behind says m it h steady rests agrees =
      steps_behind At old.places m it t after (Unbroken result mid new) (Unbroken result old new)
      (λ c done k. RestsMerged old.places m c it t u after k)
      (λ k. RestsAgreeing old.places m it after k) h old mid new result steady rests agrees did
      (unbroken_later result old mid new did.counts)
      (subst (λ (n : ℕ). (k : History) → IsSteady k mid → StoryRests n m k → Agrees n k it t
      → StepsThroughout (EachStands n m) t after (λ done j. RestsMerged n m (now k) it t u after j)
      (λ j. RestsAgreeing n m it after j) k result mid new) did.counts.places
      (λ k steady_k rests_k agrees_k. says m it k steady_k rests_k agrees_k))

  pub told_behind : ChartsThroughout (λ done. Merges mid.places u t after) (StaysMirrored mid.places t after)
      result mid new
      → ChartsThroughout (λ done. Merges old.places u t after) (StaysMirrored old.places t after)
      result old new
  told_behind says = by_result result (subst (λ (n : ℕ). ChartsThroughout (λ done. Merges n u t after)
      (StaysMirrored n t after) result mid new) did.counts.places says)
    where
      by_result : (r : Result (Unit {0}) ChipFault)
          → ChartsThroughout (λ done. Merges old.places u t after) (StaysMirrored old.places t after) r mid new
          → ChartsThroughout (λ done. Merges old.places u t after) (StaysMirrored old.places t after) r old new
      by_result (Ok done) says = λ x told. says x (did.contents ∙ told)
      by_result (Err e) says = λ soft x told. says soft x (did.contents ∙ told)
