-- Calls that keep what a chip stands for.
use Rattle.std.proofs.Common.{◌≡◌, ℕ, Result, Ok, Err, MatchResult, is_ok}
use Rattle.chip_trait.specs.Told.{History, Told, Counts, adds_all}
use Rattle.ipl_base.specs.declared.fault.ChipFault.{ChipFault}
use Rattle.ipl_meaning.specs.Legible.{Legible}
use Rattle.ipl_meaning.specs.Rests.{EachStands, StoryRests}
use Rattle.ipl_meaning.specs.Layout.{Layout}
use Rattle.ipl_meaning.specs.Tables.{Tables, IsCountedClean}
use Rattle.ipl_meaning.specs.Agrees.{Agrees}
use Rattle.unit_io.specs.Leads.{IsSteady}
use Rattle.unit_io.specs.ReadsAt.{ReadsAt}
use Rattle.unit_io.specs.Spots.{Programs}
use Rattle.unit_io.proofs.ReadsAtLemmas.{at_rests, at_agrees}
use Rattle.unit_io.specs.Steps.{Settled, EndsWith, TidyWork, RestsAgreeing, KeepsTables}
use Rattle.unit_io.specs.StepLaws.{NothingKeeps, ReadsKeepPlace, ReadsKeepTables, CallsKeep, FailuresKeep, WritesKeep}
use Rattle.unit_io.proofs.StepLemmas.{outcome_none, outcome_then, outcome_weaker, outcome_written, outcome_reads, failures_settle}
use Rattle.unit_io.proofs.StepTidyLemmas.{tidy_none, tidy_reads, tidy_then, tidy_weaker, tidy_programs}

-- it rests, however a call ended
rests_at_end : (places : ℕ) (m : Legible) (k : History) (result : Result (Unit {0}) ChipFault) → StoryRests places m k → EndsWith result (λ v k. StoryRests places m k) (λ k. StoryRests places m k) k
rests_at_end places m k (Ok v) rests = rests
rests_at_end places m k (Err e) rests = rests

-- a part of a call's time settled where the call did
later_settled : (result : Result (Unit {0}) ChipFault) (old mid new : Told) → Counts old mid → Settled result old new → Settled result mid new
later_settled (Ok v) old mid new counts settled = tt
later_settled (Err e) old mid new counts settled = failures_settle (Unit {0}) (Unit {0}) ChipFault ChipFault e e old mid new counts settled

pub nothing_keeps : NothingKeeps
nothing_keeps places m t h old steady rests = outcome_none (EachStands places m) (TidyWork (IsCountedClean t) (IsCountedClean t) (Unit {0})) (Unit {0}) (StoryRests places m) h old steady rests.each (tidy_none (IsCountedClean t) (Unit {0})) rests

pub reads_keep : ReadsKeepPlace
reads_keep place places m t h result old new steady rests did =
    let At : ℕ → ℕ → Type 0 = λ p s. p ≡ place in
    outcome_reads At places m (TidyWork (IsCountedClean t) (IsCountedClean t) (Settled result old new)) (Settled result old new) (EndsWith result (λ v k. StoryRests places m k) (λ k. StoryRests places m k)) h old new steady rests did
    (tidy_reads At (IsCountedClean t) (Settled result old new) old new did) (rests_at_end places m (adds_all did.added h) result (at_rests At places m h did.added did.each rests))

-- whatever sectors they are of, and whatever is answered
pub reads_keep_tables : {T : Type 0} (At : ℕ → ℕ → Type 0) (places : ℕ) (m : Legible) (it : Layout)
    (t : Tables) (h : History) (result : Result T ChipFault) (old new : Told)
    → IsSteady h old → StoryRests places m h → Agrees places h it t
    → ReadsAt At old new → KeepsTables places m it t h result old new
reads_keep_tables At places m it t h result old new steady rests agrees did =
    let then_is : RestsAgreeing places m it t (adds_all did.added h) = record {
      rests = at_rests At places m h did.added did.each rests;
      agrees = at_agrees At places h it t did.added did.each agrees;
    } in
    outcome_reads At places m
    (TidyWork (IsCountedClean t) (IsCountedClean t) (Settled result old new))
    (Settled result old new)
    (EndsWith result (λ v k. RestsAgreeing places m it t k)
    (λ k. RestsAgreeing places m it t k)) h old new steady rests did
    (tidy_reads At (IsCountedClean t) (Settled result old new) old new did)
    (at_either_end result then_is)
  where
    at_either_end : {T : Type 0} {X : Type 0} (result : Result T ChipFault) → X
        → MatchResult result (λ _. X) (λ _. X)
    at_either_end (Ok v) x = x
    at_either_end (Err e) x = x

pub reads_of_place_keep_tables : ReadsKeepTables
reads_of_place_keep_tables place = reads_keep_tables (λ p s. p ≡ place)

pub calls_keep : CallsKeep
calls_keep places m t between after h result old mid new counts first second =
    let E = λ (k : History). EndsWith result (λ v k. StoryRests places m k) (λ k. StoryRests places m k) k in
    let less = later_settled result old mid new counts in
    outcome_then (EachStands places m) (TidyWork (IsCountedClean t) (IsCountedClean between) (Unit {0})) (TidyWork (IsCountedClean between) (IsCountedClean after) (Settled result old new)) (TidyWork (IsCountedClean t) (IsCountedClean after) (Settled result old new))
    (Unit {0}) (Settled result old new) (StoryRests places m) E h old mid new first tt
    (outcome_weaker (EachStands places m) (EachStands places m) (TidyWork (IsCountedClean between) (IsCountedClean after) (Settled result mid new)) (TidyWork (IsCountedClean between) (IsCountedClean after) (Settled result old new)) (Settled result mid new) (Settled result old new) E E (adds_all first.added h) mid new
    (λ k is. is) (λ a. tidy_weaker (IsCountedClean between) (IsCountedClean after) (Settled result mid new) (Settled result old new) a less) less (λ _ k is. is) second)
    (λ a b one two. tidy_then (IsCountedClean t) (IsCountedClean between) (IsCountedClean after) (Unit {0}) (Settled result old new) a b one tt two)

pub failures_keep : FailuresKeep
failures_keep places m t after h e old new did = did

pub writes_keep : WritesKeep
writes_keep places m t after p s h result old new did stopped was fewer =
    let E = λ (k : History). EndsWith result (λ v k. StoryRests places m k) (λ k. StoryRests places m k) k in
    outcome_weaker (EachStands places m) (EachStands places m) (Programs p (λ r. r ≡ s) (is_ok result)) (TidyWork (IsCountedClean t) (IsCountedClean after) (Settled result old new)) (Settled result old new) (Settled result old new) E E h old new
    (λ k is. is)
    (λ a programs. tidy_programs p (λ r. r ≡ s) (is_ok result) (IsCountedClean t) (IsCountedClean after) (Settled result old new) a programs (λ r is. rw is was) (λ _ q r counted. let before = fewer q r counted in (before.0, λ here spot. before.1 here spot)))
    (λ z. z) (λ _ k is. is)
    (outcome_written (Unit {0}) (EachStands places m) (Programs p (λ r. r ≡ s)) (λ v k. StoryRests places m k) (λ k. StoryRests places m k) h old new result did stopped)
