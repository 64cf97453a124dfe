-- What calls leave, one after another.
use Rattle.std.specs.Option.{option_map}
use Rattle.std.proofs.Common.{ℕ, true, false, [], ◌∷◌, ◌++◌, Ok, Err, refl, ◌∙◌, ap, subst, arith}
use Rattle.std.specs.List.{All}
use Rattle.std.proofs.lemmas.List.Elements.{All-tail}
use Rattle.chip_trait.specs.Story.{Story}
use Rattle.chip_trait.specs.Moment.{AtEachMoment}
use Rattle.chip_trait.specs.Told.{History, Told, adds_all}
use Rattle.chip_trait.proofs.HistoryLemmas.{same_history}
use Rattle.chip_trait.proofs.MomentLemmas.{at_start, at_next, at_both}
use Rattle.ipl_meaning.specs.Legible.{Legible}
use Rattle.ipl_meaning.specs.Rests.{EachStands, StoryRests}
use Rattle.ipl_meaning.specs.Marks.{KeepsMarks}
use Rattle.unit_io.specs.Leads.{IsSteady}
use Rattle.unit_io.specs.ReadsAt.{IsReadAt}
use Rattle.unit_io.proofs.LeadsLemmas.{twice_added, marks_none, marks_then}
use Rattle.unit_io.proofs.ReadsAtLemmas.{history_then, at_steady, at_rests, at_marks}
use Rattle.unit_io.specs.Steps.{Outcome}
use Rattle.unit_io.specs.StepLaws.{NothingIsDone, PartsAreJoined, LessIsSaid, WritesAreOutcomes, FailedWritesAreSteps, WritesAreSteps, ReadsAreOutcomes, FailuresSettle}

pub outcome_none : NothingIsDone
outcome_none Each Does Settles Then h t steady each does then_is = record {
  added = [];
  places = refl;
  history = same_history t.history;
  each_moment = at_start (λ e. Each (adds_all e h)) each;
  marks = λ _. marks_none t.places h;
  does = does;
  steady = λ _. steady;
  ends = λ _. then_is;
}

pub outcome_then : {Sound : Type 0} → PartsAreJoined Sound
outcome_then Each D1 D2 D3 A B T1 T2 h old mid new first done second both =
    let same = twice_added second.added first.added h in record {
      added = second.added ++ first.added;
      places = second.places ∙ first.places;
      history = second.history ∙ ap (option_map (adds_all second.added)) first.history ∙ history_then second.added first.added old.history;
      each_moment = at_both (λ e. Each (adds_all e h)) second.added first.added first.each_moment
          (λ later e split. subst Each (twice_added e first.added h) (second.each_moment later e split));
      marks = λ sound. marks_then old.places h second.added first.added (first.marks sound)
          (subst (λ (places : ℕ). AtEachMoment (λ e. KeepsMarks places (adds_all first.added h) (adds_all e (adds_all first.added h))) second.added) first.places (second.marks sound));
      does = both first.added second.added first.does second.does;
      steady = λ b. subst (λ (k : History). IsSteady k new) same (second.steady b);
      ends = λ b. subst T2 same (second.ends b);
    }

pub outcome_weaker : {Sound : Type 0} → LessIsSaid Sound
outcome_weaker P Q D1 D2 A B T1 T2 h old new each does less then_is did = record {
  added = did.added;
  places = did.places;
  history = did.history;
  each_moment = λ later e split. each _ (did.each_moment later e split);
  marks = did.marks;
  does = does did.added did.does;
  steady = λ b. did.steady (less b);
  ends = λ b. then_is b _ (did.ends (less b));
}

-- where it stands then
pub outcome_steady : (Each : History → Type 0) (Does : Story → Type 0) (Settles : Type 0) (Then : History → Type 0) (h : History) (old new : Told) → (did : Outcome Each Does Settles Then h old new) → Settles → IsSteady (adds_all did.added h) new
outcome_steady Each Does Settles Then h old new did done = did.steady done

pub outcome_written : {Sound : Type 0} → WritesAreOutcomes Sound
outcome_written T Each Does Then Else h old new (Ok v) did stopped = record {
  added = did.added;
  places = did.places;
  history = did.history;
  each_moment = did.each_moment;
  marks = did.marks;
  does = did.does;
  steady = λ _. did.ends.0;
  ends = λ _. did.ends.1;
}
outcome_written T Each Does Then Else h old new (Err e) did stopped = record {
  added = did.added;
  places = did.places;
  history = did.history;
  each_moment = did.each_moment;
  marks = did.marks;
  does = did.does;
  steady = λ unrisen. absurd (omega (arith, stopped.1, unrisen));
  ends = λ unrisen. absurd (omega (arith, stopped.1, unrisen));
}

pub failed_writes_are_steps : FailedWritesAreSteps
failed_writes_are_steps T U Each Does Then Holds t after h old new e f did stopped orderly =
    let done = orderly did.added did.does in record {
      added = did.added;
      places = did.places;
      history = did.history;
      each_moment = did.each_moment;
      marks = did.marks;
      does = record {
        silent = done.0;
        lawful = done.1;
        clean = λ unrisen. absurd (omega (arith, stopped.1, unrisen));
      };
      steady = λ unrisen. absurd (omega (arith, stopped.1, unrisen));
      ends = λ unrisen. absurd (omega (arith, stopped.1, unrisen));
    }

pub writes_are_steps : WritesAreSteps
writes_are_steps T Each Does Then Holds t after h old new (Ok v) did stopped orderly clean holds =
    let done = orderly true did.added did.does in record {
      added = did.added;
      places = did.places;
      history = did.history;
      each_moment = did.each_moment;
      marks = did.marks;
      does = record {
        silent = done.0;
        lawful = done.1;
        clean = λ _. clean v did.added did.does did.ends.1;
      };
      steady = λ _. did.ends.0;
      ends = λ _. holds v did.added did.does did.ends.1;
    }
writes_are_steps T Each Does Then Holds t after h old new (Err e) did stopped orderly clean holds =
    failed_writes_are_steps T T Each Does Then Holds t after h old new e e did stopped (orderly false)

-- reads keep what the story rests on at each moment
at_moments : (At : ℕ → ℕ → Type 0) (places : ℕ) (m : Legible) (h : History) (added : Story) → All (IsReadAt At) added → StoryRests places m h → AtEachMoment (λ e. EachStands places m (adds_all e h)) added
at_moments At places m h [] each rests = at_start (λ e. EachStands places m (adds_all e h)) rests.each
at_moments At places m h (e ∷ added) each rests =
    at_next (λ f. EachStands places m (adds_all f h)) e added (at_moments At places m h added (All-tail (IsReadAt At) e added each) rests) ((at_rests At places m h (e ∷ added) each rests).each)

-- and marks
marks_at_moments : (At : ℕ → ℕ → Type 0) (places : ℕ) (h : History) (added : Story) → All (IsReadAt At) added → AtEachMoment (λ e. KeepsMarks places h (adds_all e h)) added
marks_at_moments At places h [] each = marks_none places h
marks_at_moments At places h (e ∷ added) each =
    at_next (λ f. KeepsMarks places h (adds_all f h)) e added (marks_at_moments At places h added (All-tail (IsReadAt At) e added each)) (at_marks At places h (e ∷ added) each)

pub outcome_reads : ReadsAreOutcomes
outcome_reads At places m Does Settles Then h old new steady rests did does then_is = record {
  added = did.added;
  places = did.counts.places;
  history = did.history;
  each_moment = at_moments At places m h did.added did.each rests;
  marks = λ _. marks_at_moments At old.places h did.added did.each;
  does = does;
  steady = λ _. at_steady At old new h did steady;
  ends = λ _. then_is;
}

pub failures_settle : FailuresSettle
failures_settle T U E F e f old mid new counts unrisen = omega (arith, counts.writes, unrisen)
