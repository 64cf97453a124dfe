-- What a trial leaves, and why it ends.
use Rattle.std.proofs.Common.{◌≡◌, ◌≤◌, ℕ, true, false, [], ◌∷◌, List, ◌++◌, Some, Result, Ok, Err, inl, inr, refl, sym, ◌∙◌, ap, subst, append_assoc, arith}
use Rattle.std.specs.Prelude.{IfErr, IsErrOf}
use Rattle.std.specs.FinMap.{empty}
use Rattle.std.specs.Option.{option_map}
use Rattle.chip_trait.specs.Chart.{says}
use Rattle.chip_trait.specs.Image.{IsNoChanceImage}
use Rattle.chip_trait.specs.Lawful.{IsLawful, AreClean}
use Rattle.chip_trait.specs.Moment.{AtEachMoment, Leaves}
use Rattle.chip_trait.specs.Story.{Story, Contents, pieces, said, joined_pieces}
use Rattle.chip_trait.specs.Told.{History, Told, Beside, IsPrefix, adds_all, Unrisen}
use Rattle.chip_trait.proofs.HistoryLemmas.{same_history, history_then}
use Rattle.chip_trait.proofs.MomentLemmas.{at_both, at_weaker}
use Rattle.chip_trait.proofs.SaidLemmas.{silent-part}
use Rattle.ipl_base.specs.Places.{units_on}
use Rattle.ipl_base.specs.declared.fault.ImageFault.{ImageFault}
use Rattle.ipl_model.specs.State.{State, Limits, at_rest}
use Rattle.ipl_model.specs.declared.command.Command.{Command}
use Rattle.ipl_model.specs.Run.{joined_lines as joined_text}
use Rattle.ipl_format.specs.Sector.{sector_in}
use Rattle.store_trait.proofs.UnusedLemmas.{twice}
use Rattle.ipl_cli.proofs.UnusedLemmas.{format_unused}
use Rattle.ipl_meaning.specs.Marks.{MarksAreUnused}
use Rattle.ipl_meaning.specs.Legible.{whole}
use Rattle.ipl_meaning.specs.Rests.{now, EachStandsIn, StoryRests}
use Rattle.ipl_meaning.specs.Chosen.{units_at}
use Rattle.ipl_meaning.proofs.MomentLemmas.{moments_as_said}
use Rattle.unit_io.specs.Leads.{IsSteady}
use Rattle.restart.specs.Events.{format_events}
use Rattle.store_trait.specs.Keeping.{Stays, SCRIPT_DRAWS}
use Rattle.store_trait.specs.Onward.{Onward}
use Rattle.store_trait.specs.declared.fault.Fault.TheVariants as fault
use Rattle.store_trait.proofs.DrawLemmas.{numbers_last}
use Rattle.store_trait.proofs.OnwardLemmas.{unrisen_later}
use Rattle.store_laws.specs.Keeps.{KnownPages, all_pages, limits_of}
use Rattle.script_run.specs.declared.fault.Stop.{Stop}
use Rattle.script_run.specs.declared.fault.Stop.TheVariants as stop
use Rattle.script_run.specs.Goes.{Along, CompletesOver}
use Rattle.script_run.specs.Run.{SaysLines, IsUnsaid}
use Rattle.script_run.proofs.RunLemmas.{says_none, says_prefix}
use Rattle.script_store.specs.declared.store.ScriptStore.{ScriptStore}
use Rattle.script_store.specs.Keeps.{KeepsScript, script_keeping, next_number}
use Rattle.store_trait.specs.Keeping.{FOUND_NUMBER}
use Rattle.script_run.specs.TrialWords.{trial_commands}
use Rattle.script_run.specs.Trial.{StandsBehind, TrialRuns, TrialEnds, EndsInWork, RunsTrial, IsTrialStop}
use Rattle.command_line.specs.declared.asked.Request.TheVariants.{Run, Trial}
use Rattle.command_line.specs.declared.end.End.{End}
use Rattle.command_line.specs.declared.end.End.TheVariants.{Words, Chip, OutOfMemory, Script, Output, TooLong}
use Rattle.ipl_cli.specs.Ending.{Ending, StopsEarly}
use Rattle.ipl_cli.specs.Top.{IsTooLong, RequestCause, EndCause}
use Rattle.ipl_cli.specs.Trials.{commands_on, state_after, summary, ChipStandsBehind, EndsAlong, EndsTrial, Trials, TrialsFormatted, TrialLeaves}
use Rattle.ipl_cli.specs.Runs.{MakesStore, StartsOpened, IsNotOpened, WasFormatted, StartsFormatted, IsNotStarted, TriesOver, ending_of, slots_of}
use Rattle.ipl_cli.proofs.EndLemmas.{opened_unused, Kept, kept, pieces_behind, history_behind, all_done, left_counts, units_told, opened_keeps, opened_each, took_marked, fresh_story, fresh_units, told_format, lawful_format}
use Rattle.script_run.proofs.CompleteLemmas.{completes_more}
use Rattle.ipl_cli.proofs.StartLemmas.{over_cause}
use Rattle.ipl_cli.proofs.AnewLemmas.{cause_anew, not_started_cause, stopped_end}

-- ---- what the chip stands for

behind : (sessions : ℕ) (places : ℕ) (commands : List Command) (lines : List (List ℕ)) (x : Contents)
    → StandsBehind (script_keeping places all_pages) (limits_of sessions (units_on places)) (at_rest empty) commands
    lines x
    → ChipStandsBehind sessions places commands lines x
behind sessions places commands [] x (done, later, are, stands) = (done, later, are, stands)
behind sessions places commands (line ∷ lines) x stands = stands

-- ---- events that say nothing, before a trial

module _ (sessions places : ℕ) (commands : List Command) (h : History) (first : Story)
    (silent : pieces first ≡ [])
    (each : AtEachMoment (λ e. EachStandsIn places (units_on places) (whole empty) (adds_all e h)) first)
    (lawful : (base : Story) → IsLawful base → IsLawful (first ++ base))
    (unused : AtEachMoment (λ e. MarksAreUnused places (adds_all e h)) first) where
  abbrev limits : Limits
  limits = limits_of sessions (units_on places)

  abbrev Found : Story → Type 0
  Found e = Leaves (says sector_in) (ChipStandsBehind sessions places commands (pieces e)) h e

  -- at each moment of them no command is done
  near_first : AtEachMoment Found first
  near_first = λ later e is x image.
      let quiet : pieces e ≡ [] = silent-part later e (ap pieces is ∙ silent) in
      subst (λ (lines : List (List ℕ)). ChipStandsBehind sessions places commands lines x) (sym quiet)
      ([], commands, refl, each later e is x image)

  -- they alone were done
  pub none_tried : (old new : Told) (e : ImageFault)
      → new.history ≡ option_map (adds_all first) old.history
      → new.beside.left ≡ old.beside.left
      → (Unrisen old new → IsSteady (adds_all first h) new)
      → (Unrisen old new → StoryRests places (whole empty) (adds_all first h))
      → Trials sessions places commands h [] old new (Err (Chip e))
  none_tried old new e history left steady rests = record {
    added = first;
    history = history ∙ ap (option_map (adds_all first)) (same_history old.history);
    each_moment = near_first;
    lines = subst (SaysLines (summary sessions places commands)) (sym silent)
        (says_none (summary sessions places commands));
    is_prefix = subst (λ (bytes : List ℕ). IsPrefix bytes (joined_text (summary sessions places commands)))
        (sym (ap joined_pieces silent)) (joined_text (summary sessions places commands), refl);
    lawful = lawful;
    unused = unused;
    steady = steady;
    ends = record {
      done = [];
      later = commands;
      commands_are = refl;
      silent = silent;
      rests = rests;
    };
    left_is = left;
    all = λ is. absurd cc;
  }

  -- then the commands were done

  module _ (old mid new : Told) (before then : ScriptStore)
      (later : old.write_faults ≤ mid.write_faults)
      (told : mid.history ≡ option_map (adds_all first) old.history)
      (clean : (base : Story) → AreClean ((script_keeping places all_pages).clean before) (first ++ base))
      (unused_then : (script_keeping places all_pages).unused before (adds_all first h))
      (left : new.beside.left ≡ old.beside.left) where
    module _ (R : History → State → Type 0) (result : Result (Unit {0}) Stop)
        (stays : (k : History) (s : State) → R k s → Stays (script_keeping places all_pages) limits then mid new k s)
        (leaves : TrialRuns (script_keeping places all_pages) limits (at_rest empty) commands before (adds_all first h)
        R then mid new result) where
      abbrev last : History
      last = adds_all leaves.added (adds_all first h)

      kept_last : (s : State) → R last s → Unrisen old new → Kept all_pages places new last s
      kept_last s so unrisen = kept all_pages places limits then new s last
          (stays last s so (unrisen_later old mid new later unrisen))

      all_pieces : pieces (leaves.added ++ first) ≡ pieces leaves.added
      all_pieces = pieces_behind first leaves.added silent

      all_said : said (leaves.added ++ first) ≡ said leaves.added
      all_said = ap joined_pieces all_pieces

      all_history : last ≡ adds_all (leaves.added ++ first) h
      all_history = history_behind first leaves.added h

      later_found : AtEachMoment (λ f. Found (f ++ first)) leaves.added
      later_found = at_weaker (λ e. Leaves (says sector_in) (StandsBehind (script_keeping places all_pages) limits
          (at_rest empty) commands (pieces e)) (adds_all first h) e) (λ f. Found (f ++ first))
          leaves.added (λ f found x image.
          subst (λ (lines : List (List ℕ)). ChipStandsBehind sessions places commands lines x)
          (sym (pieces_behind first f silent))
          (behind sessions places commands (pieces f) x
          (found x (subst (λ (s : Story). IsNoChanceImage (says sector_in) h.start s x)
          (append_assoc f first h.story) image)))) leaves.each_moment

      abbrev Resting : State → Type 0
      Resting s = Unrisen old new → StoryRests places (whole s.map) (adds_all (leaves.added ++ first) h)

      rested : (s : State) → R last s → Resting s
      rested s so = λ unrisen. subst (λ (k : History). StoryRests places (whole s.map) k) all_history
          (kept_last s so unrisen).rests

      along : EndsInWork (script_keeping places all_pages) limits (at_rest empty) commands (adds_all first h)
          leaves.added (R last) → EndsAlong Resting sessions places commands (pieces (leaves.added ++ first))
      along e = record {
        done = e.done;
        later = e.later;
        commands_are = e.commands_are;
        silent =
            all_pieces ∙ e.silent;
        rests = rested (state_after sessions places e.done) e.rests;
      }

      ends_by : (r : Result (Unit {0}) Stop) → TrialEnds (script_keeping places all_pages) r limits (at_rest empty)
          commands (adds_all first h) leaves.added (R last)
          → EndsTrial (ending_of r) Resting sessions places commands (pieces (leaves.added ++ first))
      ends_by (Ok u) e = rested (state_after sessions places commands) e.rests
      ends_by (Err (stop.Store (fault.Chip f))) e = along e
      ends_by (Err (stop.Store (fault.Image f))) e = along e
      ends_by (Err (stop.Store fault.Spent)) e = along e
      ends_by (Err stop.Script) e = absurd e
      ends_by (Err stop.Output) e = (
        subst (IsUnsaid (summary sessions places commands)) (sym all_pieces)
            e.part,
        rested (state_after sessions places commands) e.whole.rests,
      )
      ends_by (Err stop.TooLong) e = absurd e

      steady_by : (r : Result (Unit {0}) Stop)
          → TrialEnds (script_keeping places all_pages) r limits (at_rest empty) commands (adds_all first h)
          leaves.added (R last) → Unrisen old new → IsSteady last new
      steady_by (Ok u) e unrisen = (kept_last (state_after sessions places commands) e.rests
          unrisen).steady
      steady_by (Err (stop.Store f)) e unrisen = (kept_last (state_after sessions places e.done) e.rests
          unrisen).steady
      steady_by (Err stop.Script) e unrisen = absurd e
      steady_by (Err stop.Output) e unrisen = (kept_last (state_after sessions places commands)
          e.whole.rests unrisen).steady
      steady_by (Err stop.TooLong) e unrisen = absurd e

      pub tried_by : Trials sessions places commands h [] old new (ending_of result)
      tried_by = record {
        added = leaves.added ++ first;
        history = leaves.history ∙ ap (option_map (adds_all leaves.added)) told
            ∙ history_then leaves.added first old.history
            ∙ ap (option_map (adds_all (leaves.added ++ first))) (same_history old.history);
        each_moment = at_both Found leaves.added first near_first later_found;
        lines = subst (SaysLines (summary sessions places commands)) (sym all_pieces) leaves.lines;
        is_prefix = subst (λ (bytes : List ℕ). IsPrefix bytes
            (joined_text (summary sessions places commands))) (sym all_said)
            (says_prefix (summary sessions places commands) (pieces leaves.added) leaves.lines);
        lawful = λ base good. subst IsLawful (sym (append_assoc leaves.added first base))
            (leaves.lawful.lawful (first ++ base) (lawful base good) (clean base));
        unused = at_both (λ e. MarksAreUnused places (adds_all e h)) leaves.added first unused
            (λ later e split. subst (MarksAreUnused places) (twice e first h) (leaves.unused.marks unused_then later e split));
        steady = λ unrisen. subst (λ (k : History). IsSteady k new) all_history
            (steady_by result leaves.ends unrisen);
        ends = ends_by result leaves.ends;
        left_is = left;
        all = λ is. let whole = leaves.all (all_done result is) in (
          all_pieces ∙ whole,
          all_said ∙
              ap joined_text whole,
        );
      }

-- ---- over a chip that was opened

-- over a history that leaves what the chip holds and rests on no records, where the chip says that none
-- of its places is spare, and nothing that is marked was used
abbrev TrialsOpened : ℕ → ℕ → ℕ → Told → Told → Ending → Type 0
TrialsOpened sessions seed count old new ending = (h : History) → IsSteady h old
    → StoryRests old.places (whole empty) h → units_at (now h) old.places ≡ units_on old.places
    → MarksAreUnused old.places h
    → Trials sessions old.places (commands_on old.places seed count) h [] old new ending

module _ (old mid : Told) (store : ScriptStore) (s : StartsOpened false old store mid)
    (then : ScriptStore) (new : Told) (seed count : ℕ) (onward : Onward mid new) where
  left_alone : new.beside.left ≡ old.beside.left
  left_alone = ap (λ (b : Beside). b.left) onward.keeps ∙ left_counts old mid
      s.tries.accounts.counts

  -- the store keeps no records, with all units
  keeps_none : (h : History) (steady : IsSteady h old) (rests : StoryRests old.places (whole empty) h)
      → store.store.units ≡ units_on old.places
      → KeepsScript old.places all_pages (limits_of (slots_of store) (units_on old.places)) store mid
      (adds_all (s.tries.steps (whole empty) h steady rests).2.added h) (at_rest empty)
  keeps_none h steady rests many = subst (λ (u : ℕ). KeepsScript old.places all_pages (limits_of (slots_of store) u) store mid
      (adds_all (s.tries.steps (whole empty) h steady rests).2.added h) (at_rest empty)) many
      (opened_keeps old mid store s all_pages empty h steady rests)

  -- an opening leaves all units at each moment
  opened_all : (h : History) (steady : IsSteady h old) (rests : StoryRests old.places (whole empty) h)
      → store.store.units ≡ units_on old.places
      → AtEachMoment (λ e. EachStandsIn old.places (units_on old.places) (whole empty) (adds_all e h))
      (s.tries.steps (whole empty) h steady rests).2.added
  opened_all h steady rests many = subst (λ (n : ℕ). AtEachMoment (λ e. EachStandsIn old.places n (whole empty)
      (adds_all e h)) (s.tries.steps (whole empty) h steady rests).2.added) many
      (opened_each old mid store s all_pages empty h steady rests)

  abbrev Ran : Result (Unit {0}) Stop → ℕ → Type 0
  Ran result units = RunsTrial (script_keeping old.places all_pages) (trial_commands units seed count) store
      mid result then new

  opened_so : (result : Result (Unit {0}) Stop) → Ran result (units_on old.places)
      → (h : History) → IsSteady h old → StoryRests old.places (whole empty) h
      → store.store.units ≡ units_on old.places → MarksAreUnused old.places h
      → Trials (slots_of store) old.places (commands_on old.places seed count) h [] old new (ending_of result)
  opened_so (Ok u) run h steady rests many were =
      let (took, takes, did) = s.tries.steps (whole empty) h steady rests in
      let taken = took_marked false old took h steady takes in
      tried_by (slots_of store) old.places (commands_on old.places seed count) h did.added did.does.silent
      (opened_all h steady rests many)
      (λ base good. did.does.lawful.lawful base good (taken base (λ p q none. absurd none)))
      (λ later e split. did.marks tt later e split were)
      old mid new store then s.tries.accounts.counts.writes
      did.history (λ base. did.does.clean refl base (taken base (λ p q none. absurd none)))
      (opened_unused old mid store s all_pages h steady empty rests were) left_alone
      (KeepsScript old.places all_pages (limits_of (slots_of store) (units_on old.places)) then new) (Ok tt)
      (λ k state held unrisen. held)
      (run (limits_of (slots_of store) (units_on old.places)) (at_rest empty) (adds_all did.added h)
      (keeps_none h steady rests many))
  opened_so (Err e) run h steady rests many were =
      let (took, takes, did) = s.tries.steps (whole empty) h steady rests in
      let taken = took_marked false old took h steady takes in
      tried_by (slots_of store) old.places (commands_on old.places seed count) h did.added did.does.silent
      (opened_all h steady rests many)
      (λ base good. did.does.lawful.lawful base good (taken base (λ p q none. absurd none)))
      (λ later e split. did.marks tt later e split were)
      old mid new store then s.tries.accounts.counts.writes
      did.history (λ base. did.does.clean refl base (taken base (λ p q none. absurd none)))
      (opened_unused old mid store s all_pages h steady empty rests were) left_alone
      (Stays (script_keeping old.places all_pages) (limits_of (slots_of store) (units_on old.places)) then mid new) (Err e)
      (λ k state stays. stays)
      (run (limits_of (slots_of store) (units_on old.places)) (at_rest empty) (adds_all did.added h)
      (keeps_none h steady rests many))

  opened_trial : (result : Result (Unit {0}) Stop)
      → RunsTrial (script_keeping mid.places all_pages) (trial_commands store.store.units seed count) store
      mid result then new → TrialsOpened (slots_of store) seed count old new (ending_of result)
  opened_trial result run = λ h steady rests all were.
      let many = units_told old mid store s h steady ∙ all in
      opened_so result (subst (Ran result) many (subst (λ (n : ℕ). RunsTrial (script_keeping n all_pages)
      (trial_commands store.store.units seed count) store mid result then new)
      s.tries.accounts.counts.places run)) h steady rests many were

-- an opening that fails leaves no records
unopened_trial : {sessions : ℕ} (seed count numbers : ℕ) (old new : Told) (end : End)
    → (n : IsNotOpened false numbers end old new) → TrialsOpened sessions seed count old new (Err (Chip n.fault))
unopened_trial {sessions} seed count numbers old new end n = λ h steady rests all were.
    let (took, takes, did) = n.tries.steps (whole empty) h steady rests in
    none_tried sessions old.places (commands_on old.places seed count) h did.added did.does.silent
    (subst (λ (n : ℕ). AtEachMoment (λ e. EachStandsIn old.places n (whole empty) (adds_all e h)) did.added)
    all (moments_as_said old.places (whole empty) h did.added rests did.each_moment))
    (λ base good. did.does.lawful.lawful base good
    (took_marked false old took h steady takes base (λ p q none. absurd none)))
    (λ later e split. did.marks tt later e split were)
    old new n.fault did.history (left_counts old new n.tries.accounts.counts) did.steady did.ends

-- ---- after a format

ends_so : (sessions : ℕ) (Q R : State → Type 0) (places : ℕ) (commands : List Command) (lines : List (List ℕ))
    → ((s : State) → Q s → R s) → (e : Ending)
    → EndsTrial e Q sessions places commands lines → EndsTrial e R sessions places commands lines
ends_so sessions Q R places commands lines f (Ok u) e = f _ e
ends_so sessions Q R places commands lines f (Err Words) e = e
ends_so sessions Q R places commands lines f (Err (Chip x)) e = record {
  done = e.done;
  later = e.later;
  commands_are = e.commands_are;
  silent = e.silent;
  rests = f _ e.rests;
}
ends_so sessions Q R places commands lines f (Err OutOfMemory) e = e
ends_so sessions Q R places commands lines f (Err Script) e = e
ends_so sessions Q R places commands lines f (Err Output) e = (e.0, f _ e.1)
ends_so sessions Q R places commands lines f (Err TooLong) e = e

module _ (sessions : ℕ) (old mid new : Told) (f : WasFormatted old mid) (seed count : ℕ) where
  abbrev first : Story
  first = format_events old.places (units_on old.places)

  abbrev commands : List Command
  commands = commands_on old.places seed count

  after_format : {ending : Ending} (h : History)
      → Trials sessions old.places commands (adds_all first h) [] mid new ending
      → Trials sessions old.places commands h first old new ending
  after_format {ending} h t = let last : History = adds_all t.added (adds_all first h) in record {
    added = t.added;
    history = t.history ∙ ap (option_map (adds_all t.added)) (sym (same_history mid.history)
        ∙ told_format old mid new f h);
    each_moment = t.each_moment;
    lines = t.lines;
    is_prefix = t.is_prefix;
    lawful = λ base good. t.lawful (first ++ base) (lawful_format old mid new f h base good);
    unused = t.unused;
    steady = λ unrisen. t.steady (earlier unrisen);
    ends = ends_so sessions (λ s. Unrisen mid new → StoryRests old.places (whole s.map) last) (λ s. Unrisen old new
        → StoryRests old.places (whole s.map) last) old.places commands (pieces t.added)
        (λ s so unrisen. so (earlier unrisen)) ending t.ends;
    left_is = t.left_is ∙ left_counts old mid f.counts;
    all = t.all;
  }
    where
      earlier : Unrisen old new → Unrisen mid new
      earlier = unrisen_later old mid new f.counts.writes

  formatted_trial : {ending : Ending} → TrialsOpened sessions seed count mid new ending → (h : History)
      → IsSteady h old → Trials sessions old.places commands h first old new ending
  formatted_trial {ending} trials h steady =
      let fresh = fresh_story old mid new f h steady in
      after_format h (subst (λ (q : ℕ). Trials sessions q (commands_on q seed count) (adds_all first h) []
      mid new ending) f.counts.places
      (trials (adds_all first h) fresh.0
      (subst (λ (q : ℕ). StoryRests q (whole empty) (adds_all first h)) (sym f.counts.places) fresh.1)
      (subst (λ (q : ℕ). units_at (now (adds_all first h)) q ≡ units_on q) (sym f.counts.places)
      (fresh_units old mid new f h))
      (subst (λ (q : ℕ). MarksAreUnused q (adds_all first h)) (sym f.counts.places)
      (format_unused old.places (units_on old.places) h old mid (f.formats h)))))

-- ---- a trial that isn't started

module _ (old new : Told) (seed count : ℕ) where
  unmade_trial : (sessions : ℕ) (end : End) → MakesStore old.places (Err end)
      → TrialLeaves sessions seed count (Err end) old old
  unmade_trial sessions Words c = absurd c
  unmade_trial sessions (Chip e) c = inl (c.0, c.1, refl)
  unmade_trial sessions OutOfMemory c = refl
  unmade_trial sessions Script c = absurd c
  unmade_trial sessions Output c = absurd c
  unmade_trial sessions TooLong c = absurd c

  pub trial_not_started : (sessions : ℕ) (end : End) → IsNotStarted end old new
      → TrialLeaves sessions seed count (Err end) old new
  trial_not_started sessions end (inl unmade) = subst (TrialLeaves sessions seed count (Err end) old) (sym unmade.1)
      (unmade_trial sessions end unmade.0)
  trial_not_started sessions end (inr (inl stopped)) =
      let (e, is, cause) = stopped_end old new end stopped in
      subst (λ (last : End). TrialLeaves sessions seed count (Err last) old new) (sym is)
      (inr (
        stopped.fits,
        λ h steady. inr (subst
            (λ (last : End). StopsEarly old.places (units_on old.places) h old new (Err last)) is
            (stopped.stops h)),
      ))
  trial_not_started sessions end (inr (inr (formatted, f, numbers, n))) = subst (λ (e : End). TrialLeaves sessions seed count
      (Err e) old new) (sym n.end_is)
      (inr (
        f.fits,
        λ h steady. inl (formatted_trial sessions old formatted new f seed count
            (unopened_trial seed count numbers formatted new end n) h steady),
      ))

  -- no script is read
  not_script : (end : End) → IsNotStarted end old new → end ≡ Script → ⊥
  not_script end (inl unmade) is = subst (λ (e : End). MakesStore old.places (Err e)) is unmade.0
  not_script end (inr (inl stopped)) is =
      let (e, at, cause) = stopped_end old new end stopped in
      absurd (let both : Chip e ≡ Script = sym at ∙ is in cc)
  not_script end (inr (inr (formatted, f, numbers, n))) is = absurd (let both : Chip _ ≡ Script = sym
      n.end_is ∙ is in cc)

  not_long : (end : End) → IsNotStarted end old new → end ≡ TooLong → ⊥
  not_long end (inl unmade) is = subst (λ (e : End). MakesStore old.places (Err e)) is unmade.0
  not_long end (inr (inl stopped)) is =
      let (e, at, cause) = stopped_end old new end stopped in
      absurd (let both : Chip e ≡ TooLong = sym at ∙ is in cc)
  not_long end (inr (inr (formatted, f, numbers, n))) is = absurd (let both : Chip _ ≡ TooLong = sym n.end_is
      ∙ is in cc)

  as_trial : (frames sessions numbers : ℕ) (end : End) → (end ≡ Script → ⊥) → (end ≡ TooLong → ⊥)
      → RequestCause (Run frames sessions numbers true false) end old new
      → RequestCause (Trial seed count frames sessions numbers) end old new
  as_trial frames sessions numbers Words script long c = c
  as_trial frames sessions numbers (Chip e) script long c = c
  as_trial frames sessions numbers OutOfMemory script long c = c
  as_trial frames sessions numbers Script script long c = absurd (script refl)
  as_trial frames sessions numbers Output script long c = c
  as_trial frames sessions numbers TooLong script long c = absurd (long refl)

  pub trial_not_started_cause : (frames sessions numbers : ℕ) (end : End) → IsNotStarted end old new
      → RequestCause (Trial seed count frames sessions numbers) end old new
  trial_not_started_cause frames sessions numbers end n = as_trial frames sessions numbers end (not_script end n) (not_long end n)
      (not_started_cause old new frames sessions numbers false end n)

-- ---- a trial that was started

module _ (old mid : Told) (store : ScriptStore) (s : StartsFormatted old store mid)
    (then : ScriptStore) (new : Told) (seed count : ℕ) where
  leaves_by : (result : Result (Unit {0}) Stop) → IfErr result IsTrialStop
      → TrialsFormatted (slots_of store) seed count old new (ending_of result)
      → TrialLeaves (slots_of store) seed count (ending_of result) old new
  leaves_by (Ok u) stops trials = trials
  leaves_by (Err (stop.Store (fault.Chip c))) stops trials = inr (
    s.formats.fits,
    λ h steady. inl (trials h steady),
  )
  leaves_by (Err (stop.Store (fault.Image e))) stops trials = inr (
    s.formats.fits,
    λ h steady. inl (trials h steady),
  )
  leaves_by (Err (stop.Store fault.Spent)) stops trials = inr (
    s.formats.fits,
    λ h steady. inl (trials h steady),
  )
  leaves_by (Err stop.Script) stops trials = absurd stops
  leaves_by (Err stop.Output) stops trials = trials
  leaves_by (Err stop.TooLong) stops trials = absurd stops

  pub tried_left : (ending : Ending) → TriesOver seed count ending store mid then new
      → TrialLeaves (slots_of store) seed count ending old new
  tried_left ending t = subst (λ (e : Ending). TrialLeaves (slots_of store) seed count e old new) (sym t.ending_is)
      (leaves_by t.result t.stops
      (formatted_trial (slots_of store) old s.formatted new s.formats seed count
      (opened_trial s.formatted mid store s.opened then new seed count t.onward t.result t.trial)))

  never_long : (result : Result (Unit {0}) Stop) → IfErr result IsTrialStop
      → IsErrOf result stop.TooLong → IsTooLong mid new
  never_long (Ok u) stops is = absurd cc
  never_long (Err (stop.Store f)) stops is = absurd cc
  never_long (Err stop.Script) stops is = absurd stops
  never_long (Err stop.Output) stops is = absurd cc
  never_long (Err stop.TooLong) stops is = absurd stops

  cause_by : (frames sessions numbers : ℕ) (result : Result (Unit {0}) Stop) → IfErr result IsTrialStop
      → EndCause (Some (Run frames sessions numbers true false)) (ending_of result) old new
      → EndCause (Some (Trial seed count frames sessions numbers)) (ending_of result) old new
  cause_by frames sessions numbers (Ok u) stops c = tt
  cause_by frames sessions numbers (Err (stop.Store (fault.Chip f))) stops c = c
  cause_by frames sessions numbers (Err (stop.Store (fault.Image e))) stops c = c
  cause_by frames sessions numbers (Err (stop.Store fault.Spent)) stops c = c
  cause_by frames sessions numbers (Err stop.Script) stops c = absurd stops
  cause_by frames sessions numbers (Err stop.Output) stops c = c
  cause_by frames sessions numbers (Err stop.TooLong) stops c = absurd stops

  pub tried_cause : (frames sessions numbers : ℕ) (ending : Ending) → TriesOver seed count ending store mid then new
      → EndCause (Some (Trial seed count frames sessions numbers)) ending old new
  tried_cause frames sessions numbers ending t = subst (λ (e : Ending). EndCause (Some (Trial seed count frames sessions numbers)) e
      old new) (sym t.ending_is)
      (cause_by frames sessions numbers t.result t.stops (cause_anew old mid store s then new frames sessions numbers false
      (ending_of t.result)
      (over_cause s.formatted mid store s.opened then new frames sessions numbers false t.result
      (λ known limits keeps. completes_more (t.completes known limits keeps) (omega arith)) t.cause t.learns t.unspent (never_long t.result t.stops))))

-- ---- as the calls have it

-- a trial over a store whose numbers last
module _ (seed count units : ℕ) (before then : ScriptStore) (old new : Told)
    (units_are : units ≡ before.store.units)
    (low : next_number before ≤ FOUND_NUMBER) where
  pub tries_over : (result : Result (Unit {0}) Stop)
      → RunsTrial (script_keeping old.places all_pages) (trial_commands units seed count) before old result
      then new
      → Along (script_keeping old.places all_pages) Onward SCRIPT_DRAWS before old result then new
      → ((known : KnownPages) → CompletesOver (script_keeping old.places known) SCRIPT_DRAWS before old result then new)
      → IfErr result IsTrialStop → TriesOver seed count (ending_of result) before old then new
  tries_over result run goes completes stops = record {
    result = result;
    ending_is = refl;
    trial = subst (λ (n : ℕ). RunsTrial (script_keeping old.places all_pages) (trial_commands n seed count)
        before old result then new) units_are run;
    tidy = goes.tidy;
    completes = completes;
    cause = goes.cause;
    learns = goes.learns;
    unspent = numbers_last goes.draws low;
    stops = stops;
    onward = goes.beside;
  }
