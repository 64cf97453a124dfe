-- The end of one run is the start of the next.
use Rattle.std.proofs.Common.{ℕ, ◌≡◌, true, false, [], ◌++◌, ◌∷◌, List, Option, Some, Ok, inl, inr, refl, sym, ◌∙◌, ap, subst, arith, eqb, append_assoc}
use Rattle.std.proofs.lemmas.Bool.Decides.{nat_tests}
use Rattle.std.specs.Option.{option_map}
use Rattle.chip_trait.specs.Chart.{says}
use Rattle.chip_trait.specs.Lawful.{IsLawful, AreClean, age}
use Rattle.chip_trait.specs.Moment.{Leaves}
use Rattle.chip_trait.specs.Story.{Story, held, pieces, said}
use Rattle.chip_trait.specs.Told.{History, Told, Unrisen, adds_all}
use Rattle.chip_trait.proofs.HistoryLemmas.{same_history, history_then}
use Rattle.chip_trait.proofs.ImageLemmas.{held_is_image}
use Rattle.chip_trait.proofs.MomentLemmas.{at_end}
use Rattle.ipl_base.specs.Places.{units_on}
use Rattle.ipl_model.specs.State.{Map, Limits}
use Rattle.ipl_model.specs.declared.command.Command.{Command}
use Rattle.ipl_format.specs.Sector.{sector_in}
use Rattle.ipl_meaning.specs.Marks.{IsMarked, MarksAreUnused}
use Rattle.ipl_meaning.proofs.RotLemmas.{every_is_told_apart}
use Rattle.ipl_meaning.specs.Legible.{Legible, of, whole}
use Rattle.ipl_meaning.specs.Chosen.{units_at}
use Rattle.ipl_meaning.specs.Rests.{now, StoryRests}
use Rattle.ipl_meaning.specs.Stands.{StandsIn}
use Rattle.ipl_meaning.proofs.LaidLemmas.{laid_says_its_units}
use Rattle.restart.specs.Events.{format_events}
use Rattle.ipl_cli.specs.Ending.{AskedFor, AsksOpened, Ending, AtStatus, units_beside}
use Rattle.ipl_cli.specs.Frames.{AddsCleanly}
use Rattle.ipl_cli.proofs.StatusLemmas.{done_at_zero}
use Rattle.ipl_cli.specs.Top.{NoneFalls, AreMarked, LaysOut, Runs, RunsOpened, RunsFormatted, StandsAbout, records_after}
use Rattle.ipl_cli.specs.Trials.{Trials, TrialsFormatted, TrialLeaves, ChipStandsBehind, commands_on, state_after}
use Rattle.ipl_cli.specs.Chains.{AddsLawfully, AsksClosed, RestsOn, IsFormattable, IsLawfulHistory, RestsLawfully, no_records, units_kept}
use Rattle.ipl_cli.proofs.AgeLemmas.{known_later, quiet_unerased, clean_else, format_known}
use Rattle.store_laws.specs.Keeps.{limits_of}
use Rattle.ipl_cli.proofs.EndLemmas.{marked_within}

-- ---- stories

-- from a format on
anew_is_lawful : (places units : ℕ) (h : History) (added : Story)
    → IsLawful (added ++ (format_events places units ++ h.story))
    → MarksAreUnused places (adds_all added (adds_all (format_events places units) h))
    → IsLawfulHistory places (adds_all added (adds_all (format_events places units) h))
anew_is_lawful places units h added lawful unused = record {
  lawful = lawful;
  known = λ p s low. known_later added (format_events places units ++ h.story) p s
      (format_known places units h.story p s low);
  unused = unused;
}

-- what the chip tells then
told_anew : (old new : Told) (first added : Story) (h : History)
    → new.history ≡ option_map (adds_all added) (option_map (adds_all first) old.history)
    → old.history ≡ Some h → new.history ≡ Some (adds_all added (adds_all first h))
told_anew old new first added h grew told = grew
    ∙ ap (λ (o : Option History). option_map (adds_all added) (option_map (adds_all first) o)) told

-- what stands in so many units says that it has so many
stand_in_units : (places units : ℕ) (h : History) (m : Legible) → StandsIn places units (now h) m
    → units_at (now h) places ≡ units
stand_in_units places units h m is =
    laid_says_its_units (now h) places is.stands.layout is.stands.laid ∙ is.count

-- as does what stands about the commands of a script
near_units : (places : ℕ) (limits : Limits) (h : History) (m : Map) (script bytes : List ℕ)
    → StandsAbout places limits (whole m) script bytes (held h.start h.story) → units_at (now h) places ≡ limits.units
near_units places limits h m script bytes (inl is) = stand_in_units places limits.units h _ is
near_units places limits h m script bytes (inr is) = stand_in_units places limits.units h _ is

-- and along those of a trial
behind_units : (sessions : ℕ) (places : ℕ) (commands : List Command) (h : History) (said : List (List ℕ))
    → ChipStandsBehind sessions places commands said (held h.start h.story) → units_at (now h) places ≡ units_on places
behind_units sessions places commands h [] (done, later, is, stands) =
    stand_in_units places (units_on places) h (whole (state_after sessions places done).map) stands
behind_units sessions places commands h (line ∷ said) stands =
    stand_in_units places (units_on places) h (whole (state_after sessions places commands).map) stands

-- no run changes the number of places
same_units : (old new : Told) (h : History) (units : ℕ) → NoneFalls old new → units_at (now h) old.places ≡ units
    → units_kept new h ≡ units
same_units old new h units falls is = ap (λ (q : ℕ). units_at (now h) q) falls.places ∙ is

-- ---- a run over a chip that is opened

module _ {sessions : ℕ} (old new : Told) (m : Legible) (script : List ℕ) (on : RestsOn m script old)
    (at : AtStatus (RunsOpened sessions old new) 0) (falls : NoneFalls old new)
    (unrisen : Unrisen old new) where
  ran : Runs true old.places (limits_of sessions (units_kept old on.history)) m script on.history [] old new (Ok tt)
  ran = subst (λ (e : Ending). Runs true old.places (limits_of sessions (units_kept old on.history)) m script on.history [] old new e)
      (done_at_zero at.0 (sym at.1)) (at.2 on.history script on.steady on.left m on.rests on.apart)

  pub run_rests : RestsOn (of m.pages (records_after (limits_of sessions (units_kept old on.history)) m.map script)) [] new
  run_rests = record {
    history = adds_all ran.added on.history;
    steady = ran.steady unrisen;
    rests = subst (λ (q : ℕ). StoryRests q (of m.pages (records_after (limits_of sessions (units_kept old on.history)) m.map script))
        (adds_all ran.added on.history)) (sym falls.places) (ran.ends unrisen);
    apart = on.apart;
    left = ran.left_is ∙ ap Some (ran.all refl).2;
  }

  -- what is marked is clean, where the history is lawful and each place was erased
  marked_clean : IsLawfulHistory old.places on.history
      → AreClean (AreMarked true old.places on.history) on.history.story
  marked_clean is p s marked =
      let h = on.history in
      let x = held h.start h.story in
      clean_else (age h.story p s) (is.known p s (marked_within old.places x p s marked))
      (quiet_unerased h.start h.story p s on.rests.quiet)
      (is.unused x (held_is_image (says sector_in) h.start h.story) p s marked)

  run_is_lawful : IsLawfulHistory old.places on.history → IsLawfulHistory old.places (adds_all ran.added on.history)
  run_is_lawful is = record {
    lawful = ran.lawful on.history.story is.lawful (marked_clean is);
    known = λ p s low. known_later ran.added on.history.story p s (is.known p s low);
    unused = at_end (λ e. MarksAreUnused old.places (adds_all e on.history)) ran.added (ran.unused is.unused);
  }

  pub run_lawful : old.history ≡ Some on.history → IsLawfulHistory old.places on.history
      → RestsLawfully (of m.pages (records_after (limits_of sessions (units_kept old on.history)) m.map script)) [] new
  unfolding run_rests
  run_lawful told is = record {
    on = run_rests;
    told = told_anew old new [] ran.added on.history ran.history told;
    is = subst (λ (q : ℕ). IsLawfulHistory q (adds_all ran.added on.history)) (sym falls.places) (run_is_lawful is);
  }

-- ---- a run that closes, and one behind it

-- who asks for both, asks that the chip is opened
pub closed_is_opened : (asked : AskedFor) → AsksClosed asked → AsksOpened asked
closed_is_opened asked (sessions, frames, numbers, is) = (sessions, (frames, numbers, true, is))

module _ {sessions : ℕ} (old mid new : Told) (m : Legible) (script : List ℕ) (on : RestsOn m script old)
    (adds : AddsCleanly old.places on.history old mid) (places : mid.places ≡ old.places)
    (after : Map) (begun : RestsOn (of m.pages after) [] mid) (then : Ending) (runs : RunsOpened sessions mid new then) where
  ran_behind : Runs true mid.places (limits_of sessions (units_kept mid begun.history)) (of m.pages after) [] begun.history [] mid new then
  ran_behind = runs begun.history [] begun.steady begun.left (of m.pages after) begun.rests begun.apart

  pub both_lawful : AddsLawfully old.places on.history old new
  both_lawful = record {
    added = ran_behind.added ++ adds.added;
    history = ran_behind.history
        ∙ ap (option_map (adds_all ran_behind.added)) (sym (same_history mid.history) ∙ adds.history)
        ∙ history_then ran_behind.added adds.added old.history;
    lawful = record {
      lawful = λ base good clean. subst IsLawful (sym (append_assoc ran_behind.added adds.added base))
          (ran_behind.lawful (adds.added ++ base) (adds.lawful.lawful base good clean) (λ p s marked.
          (adds.clean (held begun.history.start begun.history.story) begun.steady.holds).clean base good clean p s
          (subst (λ (q : ℕ). IsMarked q (held begun.history.start begun.history.story) p s) places marked)));
    };
  }

-- ---- a format

module _ (old new : Told) (spares : ℕ) (script : List ℕ) (on : IsFormattable script old)
    (lays : LaysOut spares old new true) (falls : NoneFalls old new) where
  -- a format leaves no records, and the script as it was
  pub format_rests : RestsOn (whole no_records) script new
  format_rests = let laid = lays on.history in record {
    history = adds_all laid.added
        (adds_all (format_events old.places (units_beside old.places spares)) on.history);
    steady = laid.steady on.steady;
    rests = subst (λ (q : ℕ). StoryRests q (whole no_records) (adds_all laid.added
        (adds_all (format_events old.places (units_beside old.places spares)) on.history)))
        (sym falls.places) laid.rests;
    apart = every_is_told_apart;
    left = laid.left_is ∙ on.left;
  }

  -- and the chip says that it has all units but those that are spare
  pub format_keeps : units_kept new format_rests.history ≡ units_beside old.places spares
  unfolding format_rests
  format_keeps = let laid = lays on.history in
      ap (λ (q : ℕ). units_kept (record new { places = q }) format_rests.history) falls.places ∙ laid.count

  pub format_lawful : old.history ≡ Some on.history → IsLawful on.history.story
      → RestsLawfully (whole no_records) script new
  unfolding format_rests
  format_lawful told lawful =
      let laid = lays on.history in
      let units = units_beside old.places spares in record {
        on = format_rests;
        told = told_anew old new (format_events old.places units) laid.added on.history laid.history told;
        is = subst (λ (q : ℕ). IsLawfulHistory q (adds_all laid.added (adds_all (format_events old.places units) on.history)))
            (sym falls.places)
            (anew_is_lawful old.places units on.history laid.added (laid.lawful on.history.story lawful) laid.unused);
      }

  pub format_lawful_keeps : (told : old.history ≡ Some on.history) (lawful : IsLawful on.history.story)
      → units_kept new (format_lawful told lawful).on.history ≡ units_beside old.places spares
  unfolding format_lawful
  format_lawful_keeps told lawful = format_keeps

-- ---- a run over a chip that is formatted first

module _ {sessions : ℕ} (old new : Told) (script : List ℕ) (on : IsFormattable script old) (runs : RunsFormatted sessions old new (Ok tt))
    (falls : NoneFalls old new) (unrisen : Unrisen old new) where
  abbrev anew : Story
  anew = format_events old.places (units_on old.places)

  ran_anew : Runs false old.places (limits_of sessions (units_on old.places)) (whole no_records) script on.history anew old new (Ok tt)
  ran_anew = runs on.history script on.steady on.left

  abbrev then : History
  then = adds_all ran_anew.added (adds_all anew on.history)

  pub anew_rests : RestsOn (whole (records_after (limits_of sessions (units_on old.places)) no_records script)) [] new
  anew_rests = record {
    history = then;
    steady = ran_anew.steady unrisen;
    rests = subst (λ (q : ℕ). StoryRests q (whole (records_after (limits_of sessions (units_on old.places)) no_records script)) then)
        (sym falls.places) (ran_anew.ends unrisen);
    apart = every_is_told_apart;
    left = ran_anew.left_is ∙ ap Some (ran_anew.all refl).2;
  }

  -- and the chip says that it has all units
  pub anew_keeps : units_kept new anew_rests.history ≡ units_on old.places
  unfolding anew_rests
  anew_keeps = same_units old new then (units_on old.places) falls
      (near_units old.places (limits_of sessions (units_on old.places)) then no_records script (said ran_anew.added)
      (at_end (λ e. Leaves (says sector_in) (StandsAbout old.places (limits_of sessions (units_on old.places)) (whole no_records) script (said e))
      (adds_all anew on.history) e) ran_anew.added ran_anew.each_moment
      (held then.start then.story) (held_is_image (says sector_in) then.start then.story)))

  pub anew_lawful : old.history ≡ Some on.history → IsLawful on.history.story
      → RestsLawfully (whole (records_after (limits_of sessions (units_on old.places)) no_records script)) [] new
  unfolding anew_rests
  anew_lawful told lawful = record {
    on = anew_rests;
    told = told_anew old new anew ran_anew.added on.history ran_anew.history told;
    is = subst (λ (q : ℕ). IsLawfulHistory q then) (sym falls.places)
        (anew_is_lawful old.places (units_on old.places) on.history ran_anew.added
        (ran_anew.lawful on.history.story lawful (λ p s none. absurd none))
        (at_end (λ e. MarksAreUnused old.places (adds_all e (adds_all anew on.history))) ran_anew.added
        (ran_anew.unused tt)));
  }

-- ---- a trial

-- a trial that ended at 0 was done
pub done_tried : {sessions : ℕ} (seed count : ℕ) (old new : Told) → AtStatus (λ ending. TrialLeaves sessions seed count ending old new) 0
    → TrialsFormatted sessions seed count old new (Ok tt)
done_tried {sessions} seed count old new at = subst (λ (e : Ending). TrialLeaves sessions seed count e old new)
    (done_at_zero at.0 (sym at.1)) at.2

module _ {sessions : ℕ} (old new : Told) (seed count : ℕ) (script : List ℕ) (on : IsFormattable script old)
    (trials : TrialsFormatted sessions seed count old new (Ok tt)) (falls : NoneFalls old new) (unrisen : Unrisen old new) where
  abbrev anew_tried : Story
  anew_tried = format_events old.places (units_on old.places)

  abbrev commands : List Command
  commands = commands_on old.places seed count

  tried : Trials sessions old.places commands on.history anew_tried old new (Ok tt)
  tried = trials on.history on.steady

  abbrev then_tried : History
  then_tried = adds_all tried.added (adds_all anew_tried on.history)

  pub trial_rests : RestsOn (whole (state_after sessions old.places commands).map) script new
  trial_rests = record {
    history = then_tried;
    steady = tried.steady unrisen;
    rests = subst (λ (q : ℕ). StoryRests q (whole (state_after sessions old.places commands).map) then_tried)
        (sym falls.places) (tried.ends unrisen);
    apart = every_is_told_apart;
    left = tried.left_is ∙ on.left;
  }

  -- and the chip says that it has all units
  pub trial_keeps : units_kept new trial_rests.history ≡ units_on old.places
  unfolding trial_rests
  trial_keeps = same_units old new then_tried (units_on old.places) falls
      (behind_units sessions old.places commands then_tried (pieces tried.added)
      (at_end (λ e. Leaves (says sector_in) (ChipStandsBehind sessions old.places commands (pieces e))
      (adds_all anew_tried on.history) e) tried.added tried.each_moment
      (held then_tried.start then_tried.story) (held_is_image (says sector_in) then_tried.start then_tried.story)))

  pub trial_lawful : old.history ≡ Some on.history → IsLawful on.history.story
      → RestsLawfully (whole (state_after sessions old.places commands).map) script new
  unfolding trial_rests
  trial_lawful told lawful = record {
    on = trial_rests;
    told = told_anew old new anew_tried tried.added on.history tried.history told;
    is = subst (λ (q : ℕ). IsLawfulHistory q then_tried) (sym falls.places)
        (anew_is_lawful old.places (units_on old.places) on.history tried.added
        (tried.lawful on.history.story lawful)
        (at_end (λ e. MarksAreUnused old.places (adds_all e (adds_all anew_tried on.history))) tried.added tried.unused));
  }

  pub trial_lawful_keeps : (told : old.history ≡ Some on.history) (lawful : IsLawful on.history.story)
      → units_kept new (trial_lawful told lawful).on.history ≡ units_on old.places
  unfolding trial_lawful
  trial_lawful_keeps told lawful = trial_keeps

-- a status that is tested to be 0
pub is_zero : (n : ℕ) → eqb n 0 ≡ true → n ≡ 0
is_zero n tested = grind (arith, nat_tests, tested)

-- where no write failed in both, none failed in the first
pub unrisen_first : (old mid new : Told) → NoneFalls mid new → Unrisen old new → Unrisen old mid
unrisen_first old mid new falls unrisen = omega (arith, falls.writes, unrisen)
