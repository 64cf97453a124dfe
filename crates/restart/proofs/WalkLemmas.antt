-- Steps of passes, one after another, by what they leave whatever the chip tells.
use Rattle.std.proofs.Common.{◌≡◌, ℕ, ◌<◌, ◌≤◌, ◌+◌, ◌*◌, ◌^◌, Bool, false, List, length, slice_index, inr, Result, Ok, Err, OnOk, refl, sym, ◌∙◌, subst, arith}
use Rattle.chip_trait.specs.Story.{held}
use Rattle.chip_trait.specs.Told.{Told, Unrisen}
use Rattle.chip_trait.proofs.CountsLemmas.{counts_none}
use Rattle.ipl_base.specs.declared.fault.ChipFault.{ChipFault}
use Rattle.ipl_meaning.specs.Rests.{now, EachStands, StoryRests}
use Rattle.ipl_meaning.specs.Steps.{with_unit}
use Rattle.ipl_meaning.specs.Tables.{Tables, IsCountedClean}
use Rattle.selective_merge.specs.Known.{KnowsPlaces}
use Rattle.selective_merge.specs.Merged.{merged_shape}
use Rattle.selective_merge.specs.Merging.{Merges, StaysMirrored, RestsMerged, MergesUnit}
use Rattle.selective_merge.specs.Moving.{Holds}
use Rattle.selective_merge.proofs.HeldLemmas.{homes_used}
use Rattle.ipl_base.specs.Calls.{IsFailedCall}
use Rattle.place_taking.specs.Spending.{ErasesFor, tells_worn}
use Rattle.unit_io.specs.ReadsAt.{ReadsAt, IsCauseAt}
use Rattle.unit_io.specs.StepLaws.{Preserves}
use Rattle.unit_io.specs.Costs.{Spends}
use Rattle.unit_io.specs.Steps.{RestsAgreeing, TidyWork}
use Rattle.unit_io.proofs.CostLemmas.{spends_weaker}
use Rattle.unit_io.proofs.StepLemmas.{outcome_weaker}
use Rattle.unit_io.proofs.StepTidyLemmas.{tidy_weaker}
use Rattle.selective_merge.specs.Throughout.{Unbroken, ChartsThroughout}
use Rattle.selective_merge.proofs.UnbrokenLemmas.{steps_settled, tidies_settled}
use Rattle.unit_io.proofs.MapLemmas.{nothing_keeps}
use Rattle.restart.specs.Leaving.{LeavesPassed}
use Rattle.restart.specs.Passes.{ErasesAtMost, GoesOnTelling, KeepsInSteps}
use Rattle.restart.specs.Passing.{done, AreLeft, GoesOnMirroring, Walks}
use Rattle.restart.specs.Stuck.{IsHeldFault}
use Rattle.restart.specs.Turns.{ended_below}
use Rattle.restart.specs.declared.turns.Turns.{Turns}
use Rattle.restart.proofs.CauseLemmas.{accounts_then, held_cause, held_not_worn, merge_accounts, merge_held, read_cause, read_not_worn}
use Rattle.restart.proofs.CostLemmas.{erases_more, erases_none, erases_then, place_erases, reads_erase}
use Rattle.restart.proofs.PreserveLemmas.{agrees_of, preserves_then, reads_preserve, steps_preserve}
use Rattle.restart.proofs.RenewalKnownLemmas.{held_same, held_then}
use Rattle.restart.proofs.TellingLemmas.{goes_on_same, goes_on_from, goes_on_then}
use Rattle.restart.proofs.TurnLemmas.{ended_most}
use Rattle.restart.proofs.TidyLemmas.{tidies_none, tidies_read, tidies_then}

-- ---- nothing, and reads

same_mirrored : (places : ℕ) (t : Tables) (old new : Told) → new.contents ≡ old.contents
    → GoesOnMirroring places t t old new
same_mirrored places t old new same x told it mirrors = (x, it, same ∙ told, mirrors)

pub walks_none : {T : Type 0} (v : T) (turns : Turns) (t : Tables) (told : Told)
    → KnowsPlaces told.places t → Walks turns turns t t (Ok v) told told
walks_none v turns t told known = record {
  goes_on = goes_on_same (Ok tt) told told refl;
  mirrored = same_mirrored told.places t told told refl;
  steps = λ m it h steady rests agrees. nothing_keeps told.places m t h told steady rests;
  tries = 0;
  spent = omega arith;
  held = λ is. is;
  leaves = record {
    holds = held_same told.places t known;
    draws = (omega arith, omega arith);
    costs = erases_none t.places told;
    tidy = tidies_none t told;
    accounts = record { counts = counts_none told; cause = tt };
  };
}

-- reads, that were done
pub walks_read : {T : Type 0} (At : ℕ → ℕ → Type 0) (v : T) (turns : Turns) (t : Tables)
    (old new : Told) → KnowsPlaces old.places t → ReadsAt At old new
    → Walks turns turns t t (Ok v) old new
walks_read At v turns t old new known reads = record {
  goes_on = goes_on_same (Ok tt) old new reads.contents;
  mirrored = same_mirrored old.places t old new reads.contents;
  steps = λ m it h steady rests agrees.
      reads_preserve At old.places m h t (Ok tt) old new steady rests reads;
  tries = 0;
  spent = omega arith;
  held = λ is. is;
  leaves = record {
    holds = held_same old.places t known;
    draws = (omega arith, omega arith);
    costs = reads_erase At t.places 0 false old new refl reads;
    tidy = tidies_read At t (Ok tt) old new reads;
    accounts = record { counts = reads.counts; cause = tt };
  };
}

-- and that failed
pub walks_unread : {T : Type 0} (At : ℕ → ℕ → Type 0) (turns : Turns) (t : Tables)
    (e : ChipFault) (old new : Told) → KnowsPlaces old.places t → ReadsAt At old new
    → IsCauseAt At e old new → Walks {T = T} turns turns t t (Err e) old new
walks_unread At turns t e old new known reads cause = record {
  goes_on = goes_on_same (Err e) old new reads.contents;
  mirrored = tt;
  steps = λ m it h steady rests agrees.
      reads_preserve At old.places m h t (Err e) old new steady rests reads;
  tries = 0;
  spent = omega arith;
  held = λ is. is;
  leaves = record {
    holds = held_same old.places t known;
    draws = (omega arith, omega arith);
    costs = reads_erase At t.places 0 (tells_worn e) old new (read_not_worn At e old new cause) reads;
    tidy = tidies_read At t (Err e) old new reads;
    accounts = record { counts = reads.counts; cause = read_cause At t.places e old new cause };
  };
}

-- ---- one after the other

later_mirrored : {T : Type 0} (t between after : Tables) (old mid new : Told) (result : Result T ChipFault)
    → mid.places ≡ old.places → GoesOnMirroring old.places t between old mid
    → OnOk result (GoesOnMirroring mid.places between after mid new)
    → OnOk result (GoesOnMirroring old.places t after old new)
later_mirrored t between after old mid new (Err e) sized first second = tt
later_mirrored t between after old mid new (Ok v) sized first second = λ x told it mirrors.
    let (y, l, told_y, there) = first x told it mirrors in
    subst (λ (q : ℕ). GoesOnMirroring q between after mid new) sized second y told_y l there

pub walks_then : {S T : Type 0} (v : S) (one two three : Turns) (t between after : Tables)
    (old mid new : Told) (result : Result T ChipFault) → Walks one two t between (Ok v) old mid
    → Walks two three between after result mid new → Walks one three t after result old new
walks_then v one two three t between after old mid new result first second =
    let counts = first.leaves.accounts.counts in
    let sized : mid.places ≡ old.places = counts.places in
    let units : length between.places.current ≡ length t.places.current = first.leaves.holds.units in
    let spent = subst (λ (n : ℕ). ended_below three n ≡ ended_below two n + second.tries) units second.spent in
    record {
      goes_on = goes_on_then (done result) old mid new first.goes_on second.goes_on;
      mirrored = later_mirrored t between after old mid new result sized first.mirrored second.mirrored;
      steps = λ m it h steady rests agrees.
          let (y, l, told, there) = first.mirrored (held h.start h.story) steady.holds it agrees.mirrors in
          preserves_then old.places m h it t between after old mid new (done result) counts agrees
          (first.steps m it h steady rests agrees)
          (λ k settled resting tidy. subst (λ (q : ℕ). KeepsInSteps q between after mid (done result) new)
          sized second.steps m l k settled resting
          (agrees_of old.places k mid y l between settled told there tidy));
      tries = first.tries + second.tries;
      spent = omega (arith, first.spent, spent);
      held = λ is. second.held (first.held is);
      leaves = record {
        holds = held_then old.places t between after first.leaves.holds
            (subst (λ (q : ℕ). Holds q between after) sized second.leaves.holds);
        draws = (
          omega (arith, first.leaves.draws, second.leaves.draws),
          omega (arith, first.leaves.draws, second.leaves.draws),
        );
        costs = erases_then t.places between.places after.places first.tries second.tries _ old mid new
            first.leaves.costs second.leaves.costs;
        tidy = tidies_then t between after (done result) old mid new counts first.leaves.tidy
            second.leaves.tidy;
        accounts = accounts_then after.places old mid new (done result) counts second.leaves.accounts;
      };
    }

-- the answer says nothing of it
pub walks_answered : {S T : Type 0} (v : S) (w : T) (one two : Turns) (t after : Tables) (old new : Told)
    → Walks one two t after (Ok v) old new → Walks one two t after (Ok w) old new
walks_answered v w one two t after old new did = record {
  goes_on = did.goes_on;
  mirrored = did.mirrored;
  steps = did.steps;
  tries = did.tries;
  spent = did.spent;
  held = did.held;
  leaves = did.leaves;
}

pub walks_failed : {S T : Type 0} (e : ChipFault) (one two : Turns) (t after : Tables) (old new : Told)
    → Walks {T = S} one two t after (Err e) old new → Walks {T = T} one two t after (Err e) old new
walks_failed e one two t after old new did = record {
  goes_on = did.goes_on;
  mirrored = tt;
  steps = did.steps;
  tries = did.tries;
  spent = did.spent;
  held = did.held;
  leaves = did.leaves;
}

-- nothing more was done, and then it failed with a fault of what the chip holds
pub walks_held : {S T : Type 0} (v : S) (e : ChipFault) (one two : Turns) (t after : Tables) (old new : Told)
    → IsHeldFault e → Walks one two t after (Ok v) old new → Walks {T = T} one two t after (Err e) old new
walks_held {S} {T} v e one two t after old new is did = record {
  goes_on = λ soft. did.goes_on;
  mirrored = tt;
  steps = λ m it h steady rests agrees.
      outcome_weaker (EachStands old.places m) (EachStands old.places m)
      (TidyWork (IsCountedClean t) (IsCountedClean after) (Unit {0}))
      (TidyWork (IsCountedClean t) (IsCountedClean after) (Unrisen old new)) (Unit {0}) (Unrisen old new)
      (StoryRests old.places m) (StoryRests old.places m) h old new (λ k so. so)
      (λ a. tidy_weaker (IsCountedClean t) (IsCountedClean after) (Unit {0}) (Unrisen old new) a (λ unrisen. tt))
      (λ unrisen. tt) (λ unrisen k so. so) (did.steps m it h steady rests agrees);
  tries = did.tries;
  spent = did.spent;
  held = did.held;
  leaves = record {
    holds = did.leaves.holds;
    draws = did.leaves.draws;
    costs = subst (λ (b : Bool). Spends (ErasesAtMost t.places after.places did.tries b) old new)
        (sym (held_not_worn e is)) did.leaves.costs;
    tidy = spends_weaker (TidyWork (IsCountedClean t) (IsCountedClean after) (Unit {0}))
        (TidyWork (IsCountedClean t) (IsCountedClean after) (Unrisen old new)) old new
        (λ a. tidy_weaker (IsCountedClean t) (IsCountedClean after) (Unit {0}) (Unrisen old new) a (λ unrisen. tt))
        did.leaves.tidy;
    accounts = record { counts = did.leaves.accounts.counts; cause = held_cause after.places e old new is };
  };
}

-- numbers are left still
pub left_then : {T : Type 0} (one two : Turns) (t after : Tables) (result : Result T ChipFault)
    (old new : Told) → Walks one two t after result old new → AreLeft t.next t.places one
    → AreLeft after.next after.places two
left_then one two t after result old new did left =
    let units : length after.places.current ≡ length t.places.current = did.leaves.holds.units in
    subst (λ (n : ℕ). after.next + 13 * n < 2 ^ 64 + 13 * ended_below two n) (sym units)
    (omega (arith, left, did.spent, did.leaves.draws))

-- ---- a merge

merged_mirrored : (places u : ℕ) (t after : Tables) (old new : Told) (result : Result (Unit {0}) ChipFault)
    → ChartsThroughout (λ done. Merges places u t after) (StaysMirrored places t after) result old new
    → OnOk result (GoesOnMirroring places t after old new)
merged_mirrored places u t after old new (Err e) tells = tt
merged_mirrored places u t after old new (Ok v) tells = λ x told it mirrors.
    let (y, told_y, made) = tells x told in
    let unit = made it mirrors in
    (y, with_unit it u (merged_shape t (it.units u) u unit.place unit.head unit.pieces unit.serial), told_y, unit.mirrors)

-- of a unit that is merged then
pub walks_merged : (listed : List (ℕ × ℕ)) (u : ℕ) (one two : Turns) (t after : Tables) (old new : Told)
    (result : Result (Unit {0}) ChipFault) → KnowsPlaces old.places t
    → ended_below two (length t.places.current) ≡ ended_below one (length t.places.current) + 1
    → two.fault ≡ one.fault
    → MergesUnit listed u t after result old new → Walks one two t after result old new
walks_merged listed u one two t after old new result known one_more same did = record {
  goes_on = subst (λ (r : Result (Unit {0}) ChipFault). GoesOnTelling r old new) (sym (is_done result))
      (goes_on_from (λ done. Merges old.places u t after) (StaysMirrored old.places t after) result old new
      did.tells);
  mirrored = merged_mirrored old.places u t after old new result did.tells;
  steps = λ m it h steady rests agrees.
      subst (λ (r : Result (Unit {0}) ChipFault). Preserves old.places m t after h r old new)
      (sym (is_done result)) (steps_preserve old.places m h t after
      (λ v j. RestsMerged old.places m (now h) it t u after j) (λ j. RestsAgreeing old.places m it after j)
      result old new (λ v j is. is.rests) (λ j is. is.rests)
      (steps_settled (EachStands old.places m) t after
      (λ v j. RestsMerged old.places m (now h) it t u after j) (λ j. RestsAgreeing old.places m it after j)
      h result old new (did.steps m it h steady rests agrees)));
  tries = 1;
  spent = one_more;
  held = subst IsHeldFault (sym same);
  leaves = subst (λ (r : Result (Unit {0}) ChipFault). LeavesPassed 13 1 t after r old new) (sym (is_done result))
      (record {
        holds = did.moves.leaves.holds;
        draws = did.moves.leaves.draws;
        costs = place_erases t.places after.places _ _ _ old new (homes_used old.places t known)
            did.moves.leaves.holds.homes did.moves.costs;
        tidy = tidies_settled t after result old new did.moves.leaves.tidy;
        accounts = merge_accounts after.places _ _ old new result did.moves.leaves.accounts;
      });
}
  where
    is_done : (r : Result (Unit {0}) ChipFault) → done r ≡ r
    is_done (Ok v) = refl
    is_done (Err e) = refl

-- of a unit that is stuck then
pub walks_stuck : {T : Type 0} (v : T) (listed : List (ℕ × ℕ)) (u : ℕ) (one two : Turns) (t after : Tables)
    (old new : Told) (e : ChipFault) → KnowsPlaces old.places t
    → ended_below two (length t.places.current) ≡ ended_below one (length t.places.current) + 1
    → two.fault ≡ e → ¬ IsFailedCall e
    → MergesUnit listed u t after (Err e) old new → Walks one two t after (Ok v) old new
walks_stuck v listed u one two t after old new e known one_more same unfailed did =
    let stays = did.tells (λ stopped. unfailed (subst IsFailedCall (sym stopped) tt)) in
    let is = merge_held after.places _ _ e old new unfailed did.moves.leaves.accounts.cause in record {
      goes_on = λ x told. let (y, told_y, still) = stays x told in (y, told_y, tt);
      mirrored = λ x told it mirrors.
          let (y, told_y, still) = stays x told in (y, it, told_y, (still it mirrors).0);
      steps = λ m it h steady rests agrees.
          outcome_weaker (EachStands old.places m) (EachStands old.places m)
          (TidyWork (IsCountedClean t) (IsCountedClean after) (Unbroken {T = Unit {0}} (Err e) old new))
          (TidyWork (IsCountedClean t) (IsCountedClean after) (Unit {0}))
          (Unbroken {T = Unit {0}} (Err e) old new) (Unit {0})
          (RestsAgreeing old.places m it after) (StoryRests old.places m) h old new (λ k so. so)
          (λ a. tidy_weaker (IsCountedClean t) (IsCountedClean after) (Unbroken {T = Unit {0}} (Err e) old new)
          (Unit {0}) a (λ done. inr unfailed))
          (λ done. inr unfailed) (λ done k so. so.rests) (did.steps m it h steady rests agrees);
      tries = 1;
      spent = one_more;
      held = λ before. subst IsHeldFault (sym same) is;
      leaves = record {
        holds = did.moves.leaves.holds;
        draws = did.moves.leaves.draws;
        costs = place_erases t.places after.places _ _ false old new (homes_used old.places t known)
            did.moves.leaves.holds.homes
            (subst (λ (b : Bool). Spends (ErasesFor t.places after.places 3 (slice_index after.places.current u) false b)
            old new) (held_not_worn e is) did.moves.costs);
        tidy = did.moves.leaves.tidy;
        accounts = record { counts = did.moves.leaves.accounts.counts; cause = tt };
      };
    }

-- of all steps: one merge for each unit at most
pub leaves_most : (one two : Turns) (t after : Tables) (result : Result (Unit {0}) ChipFault) (old new : Told)
    → length t.places.current ≤ 1024 → Walks one two t after result old new
    → LeavesPassed (13 * 1024) (length t.places.current) t after (done result) old new
leaves_most one two t after result old new few did =
    let most = ended_most two (length t.places.current) in
    let tries : did.tries ≤ length t.places.current = omega (arith, most, did.spent) in record {
      holds = did.leaves.holds;
      draws = (omega (arith, did.leaves.draws), omega (arith, did.leaves.draws, tries, few));
      costs = erases_more t.places after.places did.tries (length t.places.current) _ old new tries did.leaves.costs;
      tidy = did.leaves.tidy;
      accounts = did.leaves.accounts;
    }
