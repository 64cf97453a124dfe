-- What a power cut leaves of a run, where the chip tells what it holds.
use Rattle.std.proofs.Common.{◌≡◌, ◌<◌, ℕ, false, zero, suc, [], ◌++◌, List, Some, Ok, Err, inl, inr, sym, ◌∙◌, ap, subst, refl, arith, append_assoc, ◌≤◌, length}
use Rattle.std.proofs.lemmas.List.{append-nil, append_cancel_right, length-append, nil_from_length}
use Rattle.std.specs.Option.{option_map}
use Rattle.std.specs.FinMap.{empty}
use Rattle.chip_trait.specs.Chart.{says}
use Rattle.chip_trait.specs.Story.{Story, Contents, held, said}
use Rattle.chip_trait.specs.Image.{IsNoChanceImage}
use Rattle.chip_trait.specs.declared.event.Event.{Event}
use Rattle.chip_trait.specs.declared.event.Event.TheVariants.{Erase}
use Rattle.chip_trait.specs.Told.{Told, IsConsistent, Rose, Unrisen, adds_all}
use Rattle.chip_trait.proofs.HistoryLemmas.{same_history, history_then}
use Rattle.ipl_base.specs.Places.{IsGeometry, units_on}
use Rattle.ipl_base.proofs.UnitLemmas.{units_are_kept}
use Rattle.ipl_base.specs.declared.fault.FormatFault.{FormatFault}
use Rattle.ipl_base.specs.declared.fault.FormatFault.TheVariants as format
use Rattle.ipl_model.specs.State.{State, at_rest}
use Rattle.ipl_model.specs.Grammar.{commands_of}
use Rattle.ipl_format.specs.Sector.{sector_in}
use Rattle.ipl_meaning.proofs.LaidLemmas.{laid_says_its_units}
use Rattle.ipl_meaning.specs.Legible.{whole}
use Rattle.ipl_meaning.specs.Chart.{chart_of}
use Rattle.ipl_meaning.specs.FirstTables.{first_layout}
use Rattle.ipl_meaning.specs.Stands.{StandsIn}
use Rattle.ipl_meaning.proofs.StoryLemmas.{rests_in_units}
use Rattle.restart.specs.Events.{each_below, heading_events, clearing_events, worn_events, format_events}
use Rattle.restart.specs.Fresh.{Formats}
use Rattle.restart.proofs.FreshLemmas.{format_rests, fresh_contents}
use Rattle.unit_io.specs.Leads.{IsSteady}
use Rattle.restart.specs.RenewalChains.{starts_at}
use Rattle.restart.proofs.ChainLemmas.{images_rest}
use Rattle.store_laws.specs.Keeps.{limits_of}
use Rattle.command_line.specs.declared.end.End.TheVariants.{Words, Chip, OutOfMemory, Script, Output, TooLong}
use Rattle.ipl_cli.specs.Ending.{AskedFor, Ending, AtStatus, StopsEarly, StopRose, IsLeftAlone, but_noted, AsksFormattedBy}
use Rattle.ipl_cli.specs.Top.{Runs, RunsOpened, FormattedLeaves, EndLeaves, Ends}
use Rattle.ipl_cli.specs.Survives.{StandsAfterAnswered, Survives, SurvivesFormat, SurvivesAnew}
use Rattle.ipl_cli.proofs.EndLemmas.{near_silent}
use Rattle.ipl_cli.proofs.RecordLemmas.{steady_start}

-- what is left after a cut, by the events in other brackets
cut_by : (x y : Contents) (e f : Story) → f ≡ e → IsNoChanceImage (says sector_in) x e y
    → IsNoChanceImage (says sector_in) x f y
cut_by x y e f same image =
    subst (λ (s : Story). IsNoChanceImage (says sector_in) x s y) (sym same) image

-- the events up to a worn place are fewer than those of a format
each_counted : (event : ℕ → Event) (n : ℕ) → length (each_below event n) ≡ n
each_counted event zero = refl
each_counted event (suc k) = ap suc (each_counted event k)

worn_are_few : (places units p : ℕ) → p < places
    → length (worn_events p) ≤ length (format_events places units)
worn_are_few places units p low =
    let all = each_counted Erase places in
    let some = each_counted Erase p in
    let joined_up = length-append (heading_events units) (clearing_events places) in
    omega (arith, all, some, joined_up, low)

module _ (old new : Told) where
  -- a chip that tells what it holds may be taken as the start of a history
  pub opened_survives : {sessions : ℕ} → IsConsistent old → (status : ℕ) → AtStatus (RunsOpened sessions old new) status
      → Survives sessions old new
  opened_survives {sessions} consistent status (ending, is, runs) x units m script told stands apart left =
      let r = runs (starts_at x) script (steady_start x old consistent told) left m
      (images_rest old.places m x stands.stands) apart in
      let number = laid_says_its_units (chart_of x) old.places stands.stands.layout stands.stands.laid ∙ stands.count in
      record {
        added = r.added;
        grew = r.history ∙ ap (option_map (adds_all r.added)) (sym (same_history old.history));
        holds = λ unrisen. (r.steady unrisen).holds
            ∙ ap (λ (s : Story). Some (held x s)) (append-nil r.added);
        cut = λ later e y split image.
            subst (λ (n : ℕ). StandsAfterAnswered old.places (limits_of sessions n) m script (said e) y) number
            (r.each_moment later e split y (cut_by x y e (e ++ []) (append-nil e) image));
      }

  abbrev first : Story
  first = format_events old.places (units_on old.places)

  module _ (sessions : ℕ) (x : Contents) (script : List ℕ) where
    -- the script was run
    run_survives : (ending : Ending)
        → Runs false old.places (limits_of sessions (units_on old.places)) (whole empty) script (starts_at x) first old new ending
        → SurvivesFormat sessions script x old new
    run_survives ending r = record {
      added = r.added ++ first;
      grew = r.history ∙ history_then r.added first old.history;
      holds = λ unrisen. (r.steady unrisen).holds
          ∙ ap (λ (s : Story). Some (held x (r.added ++ s))) (append-nil first);
      cut = λ later e y split image. r.each_moment later e
          (append_cancel_right (later ++ e) r.added first
          (append_assoc later e first ∙ split)) y
          (cut_by x y (e ++ first) (e ++ (first ++ []))
          (ap (λ (s : Story). e ++ s) (append-nil first)) image);
    }

    -- it wasn't: nothing was said, and no more than the format's own events are there
    none_survives : (added : Story) → new.history ≡ option_map (adds_all added) old.history
        → (Unrisen old new → new.contents ≡ Some (held x added))
        → length added ≤ length first
        → (length added ≡ length first → IsGeometry old.places)
        → SurvivesFormat sessions script x old new
    none_survives added grew holds few fits = record {
      added = added;
      grew = grew;
      holds = holds;
      cut = λ later e y split image.
          let counted = ap length split in
          let parts = length-append later (e ++ first) in
          let inner = length-append e first in
          let none = nil_from_length e (omega (arith, counted, parts, inner, few)) in
          let usable = fits (omega (arith, counted, parts, inner, few)) in
          let units = units_on old.places in
          let kept = units_are_kept old.places usable in
          let rests = format_rests old.places units usable kept x in
          let number = rests_in_units old.places (whole empty) (record { start = x; story = first })
          (first_layout units) rests (fresh_contents old.places units usable kept x).mirrors.laid in
          let stands = subst (λ (n : ℕ). StandsIn old.places n (chart_of y) (whole empty)) number
          (rests.each.1 y (subst
          (λ (s : Story). IsNoChanceImage (says sector_in) x (s ++ first) y)
          none image)) in
          subst (λ (s : Story). StandsAfterAnswered old.places (limits_of sessions (units_on old.places)) (whole empty) script (said s) y) (sym none)
          (near_silent (λ (s : State). StandsIn old.places (units_on old.places) (chart_of y) (whole s.map))
          (limits_of sessions (units_on old.places)) (at_rest empty) (commands_of script) stands);
    }

    untouched_survives : old.contents ≡ Some x → IsLeftAlone old new → SurvivesFormat sessions script x old new
    untouched_survives told is = none_survives []
        (ap (λ (t : Told). t.history) is ∙ same_history old.history)
        (λ unrisen. ap (λ (t : Told). t.contents) is ∙ told) (omega arith)
        (λ same. absurd (omega (arith, same)))

    -- a format was stopped: since a write failed, or where a place was found worn
    module _ (fits : IsGeometry old.places) (steady : IsSteady (starts_at x) old) (stopped : Told)
        (noted : new ≡ but_noted stopped new.beside.noted) where
      abbrev Left : FormatFault → Type 0
      Left fault =
          Formats {A = Unit {0}} old.places (units_on old.places) (starts_at x) old (Err fault) stopped

      grew_by : (fault : FormatFault) (f : Left fault)
          → new.history ≡ option_map (adds_all f.added) old.history
      grew_by fault f = ap (λ (t : Told). t.history) noted ∙ f.history

      failed_survives : Left format.Stopped → Rose old.write_faults stopped.write_faults
          → SurvivesFormat sessions script x old new
      failed_survives f rose =
          let counted = ap length f.came.1 in
          let parts = length-append f.came.0 f.added in
          none_survives f.added (grew_by format.Stopped f)
          (λ unrisen. absurd (omega (arith, unrisen, ap (λ (t : Told). t.write_faults) noted, rose)))
          (omega (arith, counted, parts)) (λ whole. fits)

      worn_survives : (p : ℕ) → Left (format.Worn p) → SurvivesFormat sessions script x old new
      worn_survives p f =
          let few = worn_are_few old.places (units_on old.places) p f.came.0 in
          none_survives f.added (grew_by (format.Worn p) f)
          (λ unrisen. ap (λ (t : Told). t.contents) noted ∙ (f.steady (λ is. cc) steady).holds
          ∙ ap (λ (s : Story). Some (held x s)) (append-nil f.added))
          (subst (λ (s : Story). length s ≤ length first) (sym f.came.1) few)
          (λ whole. fits)

      stopped_by : (fault : FormatFault) → Left fault → StopRose fault old stopped
          → SurvivesFormat sessions script x old new
      stopped_by format.Geometry f rose = absurd rose
      stopped_by format.Stopped f rose = failed_survives f rose
      stopped_by (format.Worn p) f rose = worn_survives p f

    stopped_survives : {ending : Ending} → IsGeometry old.places → IsSteady (starts_at x) old
        → StopsEarly old.places (units_on old.places) (starts_at x) old new ending
        → SurvivesFormat sessions script x old new
    stopped_survives fits steady stops =
        stopped_by fits steady stops.stopped stops.noted stops.fault stops.formats stops.rose

  anew_by : (sessions : ℕ) → IsConsistent old → (ending : Ending) → FormattedLeaves sessions ending old new
      → SurvivesAnew sessions old new
  anew_by sessions consistent (Ok u) l x script told left = run_survives sessions x script (Ok u)
      (l.0 (starts_at x) script (steady_start x old consistent told) left)
  anew_by sessions consistent (Err Words) l x script told left = absurd l
  anew_by sessions consistent (Err (Chip e)) (inl l) x script told left = untouched_survives sessions x script told l.2
  anew_by sessions consistent (Err (Chip e)) (inr l) x script told left =
      elim (l.1 (starts_at x) script (steady_start x old consistent told) left) [
        | inl runs ↦ run_survives sessions x script (Err (Chip e)) runs
        | inr stops ↦ stopped_survives sessions x script l.0 (steady_start x old consistent told) stops
      ]
  anew_by sessions consistent (Err OutOfMemory) l x script told left = untouched_survives sessions x script told l
  anew_by sessions consistent (Err Script) l x script told left = run_survives sessions x script (Err Script)
      (l (starts_at x) script (steady_start x old consistent told) left)
  anew_by sessions consistent (Err Output) l x script told left = run_survives sessions x script (Err Output)
      (l (starts_at x) script (steady_start x old consistent told) left)
  anew_by sessions consistent (Err TooLong) l x script told left = run_survives sessions x script (Err TooLong)
      (l (starts_at x) script (steady_start x old consistent told) left)

  pub formatted_survives : IsConsistent old → (sessions : ℕ) (asked : AskedFor) (status : ℕ)
      → Ends asked old new status → AsksFormattedBy sessions asked → SurvivesAnew sessions old new
  formatted_survives consistent sessions asked status e (frames, numbers, closes, is) = anew_by sessions consistent e.ending
      (subst (λ (a : AskedFor). EndLeaves a e.ending old new) is e.leaves)
