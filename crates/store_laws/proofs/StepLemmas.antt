-- What calls leave over a story, one after another, with any answers.
use Rattle.std.proofs.Common.{Result, Ok, Err, arith}
use Rattle.chip_trait.specs.Told.{History, Told, Counts, adds_all}
use Rattle.ipl_meaning.specs.Tables.{Tables, IsCountedClean}
use Rattle.unit_io.specs.Steps.{Settled, EndsWith, Outcome, TidyWork, Steps}
use Rattle.unit_io.proofs.StepLemmas.{outcome_then, outcome_weaker}
use Rattle.unit_io.proofs.StepTidyLemmas.{tidy_then, tidy_weaker}

-- a part of a call's time settled where the call did
pub later_settled : {U F : Type 0} (result : Result U F) (old mid new : Told) → Counts old mid
    → Settled result old new → Settled result mid new
later_settled (Ok v) old mid new counts settled = tt
later_settled (Err e) old mid new counts unrisen = omega (arith, counts.writes, unrisen)

module _ (T U E F : Type 0) (First Second Each : History → Type 0) (t between after : Tables)
    (AtFirst : T → History → Type 0) (ElseFirst : History → Type 0) (AtNext : U → History → Type 0)
    (ElseNext : History → Type 0) (h : History) (v : T) (result : Result U F) (old mid new : Told)
    (one : (k : History) → First k → Each k) (two : (k : History) → Second k → Each k)
    (counts : Counts old mid) where
  -- one call that was done, and then another
  pub steps_then : (first : Steps {T = T} {E = E} First t between AtFirst ElseFirst h (Ok v) old mid)
      → Steps Second between after AtNext ElseNext (adds_all first.added h) result mid new
      → Steps Each t after AtNext ElseNext h result old new
  steps_then first second =
      let Ends = λ (k : History). EndsWith result AtNext ElseNext k in
      let less = later_settled result old mid new counts in
      let wide : Outcome Each (TidyWork (IsCountedClean t) (IsCountedClean between) (Unit {0}))
      (Unit {0}) (AtFirst v) h old mid = record {
        added = first.added;
        places = first.places;
        history = first.history;
        each_moment = λ later e split. one _ (first.each_moment later e split);
        marks = first.marks;
        does = first.does;
        steady = first.steady;
        ends = first.ends;
      } in
      outcome_then Each (TidyWork (IsCountedClean t) (IsCountedClean between) (Unit {0}))
      (TidyWork (IsCountedClean between) (IsCountedClean after) (Settled result old new))
      (TidyWork (IsCountedClean t) (IsCountedClean after) (Settled result old new))
      (Unit {0}) (Settled result old new) (AtFirst v) Ends h old mid new wide tt
      (outcome_weaker Second Each
      (TidyWork (IsCountedClean between) (IsCountedClean after) (Settled result mid new))
      (TidyWork (IsCountedClean between) (IsCountedClean after) (Settled result old new))
      (Settled result mid new) (Settled result old new) Ends Ends (adds_all first.added h) mid new two
      (λ a. tidy_weaker (IsCountedClean between) (IsCountedClean after) (Settled result mid new)
      (Settled result old new) a less) less (λ _ k is. is) second)
      (λ a b x y. tidy_then (IsCountedClean t) (IsCountedClean between) (IsCountedClean after) (Unit {0})
      (Settled result old new) a b x tt y)

-- the same call, said less of
pub steps_weaker : {T E : Type 0} (P Q : History → Type 0) (t after : Tables)
    (AtFirst AtNext : T → History → Type 0) (ElseFirst ElseNext : History → Type 0) (h : History) (result : Result T E)
    (old new : Told) → ((k : History) → P k → Q k)
    → ((v : T) (k : History) → AtFirst v k → AtNext v k) → ((k : History) → ElseFirst k → ElseNext k)
    → Steps P t after AtFirst ElseFirst h result old new → Steps Q t after AtNext ElseNext h result old new
steps_weaker P Q t after AtFirst AtNext ElseFirst ElseNext h result old new each then_is else_is did =
    outcome_weaker P Q
    (TidyWork (IsCountedClean t) (IsCountedClean after) (Settled result old new))
    (TidyWork (IsCountedClean t) (IsCountedClean after) (Settled result old new))
    (Settled result old new) (Settled result old new) (EndsWith result AtFirst ElseFirst)
    (EndsWith result AtNext ElseNext) h old new each (λ a is. is) (λ z. z)
    (λ _ k is. at_end result AtFirst AtNext ElseFirst ElseNext k then_is else_is is) did
  where
    at_end : {T E : Type 0} (result : Result T E) (AtFirst AtNext : T → History → Type 0)
        (ElseFirst ElseNext : History → Type 0) (k : History) → ((v : T) (k : History) → AtFirst v k → AtNext v k)
        → ((k : History) → ElseFirst k → ElseNext k) → EndsWith result AtFirst ElseFirst k → EndsWith result AtNext ElseNext k
    at_end (Ok v) AtFirst AtNext ElseFirst ElseNext k then_is else_is is = then_is v k is
    at_end (Err e) AtFirst AtNext ElseFirst ElseNext k then_is else_is is = else_is k is
