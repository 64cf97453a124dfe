-- What a format and a run leave, where they end.
use Rattle.std.proofs.Common.{◌≡◌, ◌⊎◌, ◌≤◌, ℕ, Bool, true, false, not, [], ◌∷◌, List, ◌++◌, Some, Result, Ok, Err, is_ok, inl, inr, refl, sym, ◌∙◌, ap, subst, arith, append_assoc, ◌<◌}
use Rattle.std.proofs.lemmas.List.{append-nil}
use Rattle.std.specs.Option.{option_map}
use Rattle.std.specs.FinMap.{empty}
use Rattle.chip_trait.specs.declared.event.Event.TheVariants.{Said}
use Rattle.chip_trait.specs.Story.{Contents, Story, held, pieces, said, joined_pieces}
use Rattle.chip_trait.specs.Chart.{says}
use Rattle.chip_trait.specs.Image.{IsNoChanceImage}
use Rattle.chip_trait.specs.Moment.{AtEachMoment, Leaves}
use Rattle.chip_trait.specs.Lawful.{IsLawful, AreClean, Clean, age}
use Rattle.chip_trait.specs.Told.{History, Told, Beside, Counts, SayCounts, Appends, FailsToSay, IsPrefix, adds_all, Unrisen}
use Rattle.chip_trait.proofs.HistoryLemmas.{same_history, history_then}
use Rattle.chip_trait.proofs.MomentLemmas.{at_start, at_both, at_weaker}
use Rattle.chip_trait.proofs.SaidLemmas.{pieces-append, said-append, silent-part}
use Rattle.ipl_base.specs.Places.{units_on}
use Rattle.ipl_base.specs.declared.fault.FormatFault.{FormatFault}
use Rattle.ipl_base.specs.declared.fault.ImageFault.{ImageFault}
use Rattle.ipl_base.specs.declared.fault.ImageFault.TheVariants as image
use Rattle.ipl_model.specs.State.{State, Limits, Map, at_rest}
use Rattle.ipl_model.specs.declared.command.Command.{Command}
use Rattle.ipl_model.specs.Grammar.{commands_of}
use Rattle.ipl_model.specs.Run.{IsNear, joined_lines as joined_text}
use Rattle.ipl_model.proofs.RunLemmas.{reply_shows}
use Rattle.ipl_format.specs.Sector.{sector_in}
use Rattle.ipl_meaning.proofs.RotLemmas.{every_is_told_apart}
use Rattle.ipl_meaning.specs.Legible.{Legible, IsToldApart, of, whole}
use Rattle.ipl_meaning.specs.Chart.{chart_of}
use Rattle.ipl_meaning.specs.Stands.{StandsIn}
use Rattle.ipl_meaning.specs.Rests.{now, EachStands, EachStandsIn, StoryRests}
use Rattle.ipl_meaning.specs.FirstTables.{first_layout}
use Rattle.ipl_meaning.specs.Marks.{IsMarked, MarksAreUnused}
use Rattle.ipl_meaning.specs.Tables.{Tables, IsCountedClean}
use Rattle.ipl_meaning.proofs.CarriedLemmas.{unused_carried}
use Rattle.store_trait.proofs.UnusedLemmas.{twice}
use Rattle.page_frames.specs.Pages.{tables_in}
use Rattle.chip_trait.proofs.ImageLemmas.{held_is_image}
use Rattle.ipl_meaning.specs.Chosen.{units_at}
use Rattle.ipl_meaning.proofs.LaidLemmas.{laid_says_its_units}
use Rattle.ipl_meaning.proofs.MomentLemmas.{moments_as_said}
use Rattle.ipl_meaning.proofs.StoryLemmas.{held_stands, says_keep}
use Rattle.unit_io.specs.Leads.{IsSteady}
use Rattle.unit_io.proofs.LeadsLemmas.{steady_then}
use Rattle.page_frames.specs.Faulty.{TellsStory}
use Rattle.restart.specs.Events.{format_events}
use Rattle.restart.specs.Fresh.{Formats}
use Rattle.restart.specs.Recovers.{TakesMarks}
use Rattle.store_trait.specs.Keeping.{Stays}
use Rattle.store_trait.specs.declared.fault.Fault.TheVariants as fault
use Rattle.store_trait.proofs.OnwardLemmas.{unrisen_later}
use Rattle.store_laws.specs.Keeps.{KnownPages, all_pages, limits_of}
use Rattle.script_run.specs.declared.fault.Stop.{Stop}
use Rattle.script_run.specs.declared.fault.Stop.TheVariants as stop
use Rattle.script_run.specs.Run.{RunLeaves, SaysLines, EndsAt}
use Rattle.script_run.specs.Goes.{Ended, StaysAt, StopMet, Stopped, RunsScript}
use Rattle.script_run.proofs.EndLemmas.{between_none, ends_weaker}
use Rattle.script_run.proofs.RunLemmas.{says_none, says_prefix}
use Rattle.script_store.specs.declared.store.ScriptStore.{ScriptStore}
use Rattle.script_store.specs.Closes.{CountsClean, MarksSince}
use Rattle.script_store.specs.Keeps.{KeepsScript, script_keeping}
use Rattle.script_store.specs.Met.{ImageMet}
use Rattle.script_store.proofs.MetLemmas.{opening_met}
use Rattle.script_store.proofs.RecallLemmas.{opening_recalls}
use Rattle.command_line.specs.declared.end.End.{End}
use Rattle.command_line.specs.declared.end.End.TheVariants.{Words, Chip, OutOfMemory, Script, Output, TooLong}
use Rattle.ipl_cli.specs.Ending.{Ending, IsFormatStopped, StopRose, IsLeftAlone, format_end, units_beside}
use Rattle.ipl_cli.specs.Top.{AreMarked, WereUnused, Runs, RunsOpened, RunsFormatted, IsLaidOut, LaysOut, IsAbout, StandsAbout, IsBetween, EndsBy, EndMet, answers, ok_line}
use Rattle.store_trait.specs.Keeping.{LeavesTidy}
use Rattle.unit_io.specs.Reads.{OfContents}
use Rattle.ipl_cli.specs.Runs.{CountsBehind, RunsFrom, RunsOver, StartsOpened, IsNotOpened, WasFormatted, MarksBehind, ending_of, slots_of}
use Rattle.ipl_cli.specs.Frames.{MarksWhatWasErased, CleansWhatIsMarked}
use Rattle.ipl_store.specs.Calls.{limits_of_store}
use Rattle.ipl_cli.proofs.UnusedLemmas.{were_unused, format_unused, said_unused}

-- what stands beside the chip is left as it was
pub left_counts : (old new : Told) → Counts old new → new.beside.left ≡ old.beside.left
left_counts old new counts = ap (λ (b : Beside). b.left) counts.beside

-- ---- a format

pub stopped_early : (units : ℕ) (fault : FormatFault) (old new : Told) → Counts old new
    → StopRose fault old new
    → ((h : History) → Formats {A = Unit {0}} old.places units h old (Err fault) new)
    → IsFormatStopped units old new (Err (format_end fault))
stopped_early units fault old new counts rose formats = λ h. record {
  stopped = new;
  fault = fault;
  ending_is = refl;
  formats = formats h;
  counts = counts;
  rose = rose;
  noted = refl;
}

-- what was said of the line of a format is all of it or a part
module _ (spares : ℕ) (old mid new : Told) (counts : Counts old mid)
    (same : mid.settled ≡ old.settled) (said_counts : SayCounts mid new) (formats : (h : History)
    → Formats {A = Unit {0}} old.places (units_beside old.places spares) h old (Ok tt) mid) where
  abbrev units_left : ℕ
  units_left = units_beside old.places spares

  abbrev events : Story
  events = format_events old.places units_left

  left_said : new.beside.left ≡ old.beside.left
  left_said = ap (λ (b : Beside). b.left) said_counts.beside ∙ left_counts old mid counts

  laid_out : (h : History) (done : Bool) (added : Story)
      → new.history ≡ option_map (adds_all added) mid.history → new.settled ≡ mid.settled
      → ((k : History) → IsSteady k mid → IsSteady (adds_all added k) new)
      → (added ≡ []) ⊎ ((part : List ℕ) × IsPrefix part ok_line × (added ≡ Said part ∷ []))
      → (done ≡ true → added ≡ Said ok_line ∷ []) → IsLaidOut old.places units_left h old new done
  laid_out h done added history settled steady part all =
      let did = formats h in
      let exact : did.added ≡ events = did.done.exact in
      let rested : StoryRests old.places (whole empty) (adds_all events h) = subst
      (λ (s : Story). StoryRests old.places (whole empty) (adds_all s h)) exact did.done.rests in
      let good : (base : Story) → IsLawful base → IsLawful (events ++ base) =
      λ base lawful. subst (λ (s : Story). IsLawful (s ++ base)) exact
      (did.lawful base lawful) in
      let counted : units_at (now (adds_all events h)) old.places ≡ units_left = subst
      (λ (s : Story). units_at (now (adds_all s h)) old.places ≡ units_left) exact
      (laid_says_its_units (now (adds_all did.added h)) old.places (first_layout units_left)
      did.done.fresh.mirrors.laid) in
      let unused_then = format_unused old.places units_left h old mid did in
      record {
        added = added;
        says = part;
        history = history ∙ ap (option_map (adds_all added)) (did.history
            ∙ ap (λ (s : Story). option_map (adds_all s) old.history) exact);
        settled = settled ∙ same;
        steady = λ held. steady (adds_all events h)
            (subst (λ (s : Story). IsSteady (adds_all s h) mid) exact (did.steady (λ is. cc) held));
        rests = elim part [
          | inl none ↦ subst (λ (s : Story). StoryRests old.places (whole empty)
              (adds_all s (adds_all events h))) (sym none) rested
          | inr (piece, prefix, one) ↦ subst (λ (s : Story). StoryRests old.places (whole empty)
              (adds_all s (adds_all events h))) (sym one) (says_keep old.places
              (whole empty) (adds_all events h) piece rested)
        ];
        count = elim part [
          | inl none ↦ subst (λ (s : Story).
              units_at (now (adds_all s (adds_all events h))) old.places ≡ units_left) (sym none) counted
          | inr (piece, prefix, one) ↦ subst (λ (s : Story).
              units_at (now (adds_all s (adds_all events h))) old.places ≡ units_left) (sym one) counted
        ];
        unused = elim part [
          | inl none ↦ subst (λ (s : Story). MarksAreUnused old.places (adds_all s (adds_all events h)))
              (sym none) unused_then
          | inr (piece, prefix, one) ↦ subst (λ (s : Story). MarksAreUnused old.places
              (adds_all s (adds_all events h))) (sym one)
              (said_unused old.places (adds_all events h) piece unused_then)
        ];
        lawful = λ base lawful. elim part [
          | inl none ↦ subst (λ (s : Story). IsLawful (s ++ (events ++ base)))
              (sym none) (good base lawful)
          | inr (piece, prefix, one) ↦ subst (λ (s : Story). IsLawful
              (s ++ (events ++ base))) (sym one) (good base lawful)
        ];
        left_is = left_said;
        all = all;
      }

  pub said_ok : Appends (Said ok_line) mid new → LaysOut spares old new true
  said_ok appends h = laid_out h true (Said ok_line ∷ []) appends.history appends.settled
      (λ k steady. steady_then (Said ok_line) k mid new steady appends) (inr (ok_line, ([], append-nil ok_line), refl)) (λ is. refl)

  pub said_part : FailsToSay ok_line mid new → LaysOut spares old new false
  said_part fails h = elim fails.history [
    | inl (part, prefix, history) ↦ laid_out h false (Said part ∷ []) history fails.settled
        (λ k steady. record {
          holds = fails.contents ∙ steady.holds;
          settled = fails.settled ∙ steady.settled;
        }) (inr (part, prefix, refl)) (λ is. absurd cc)
    | inr unsaid ↦ laid_out h false [] (unsaid ∙ same_history mid.history) fails.settled
        (λ k steady. record {
          holds = fails.contents ∙ steady.holds;
          settled = fails.settled ∙ steady.settled;
        }) (inl refl) (λ is. absurd cc)
  ]

-- what a store keeps at the end, the chip has
pub record Kept (known : KnownPages) (places : ℕ) (new : Told) (k : History) (s : State) : Type 0 where
  pub steady : IsSteady k new
  pub rests : StoryRests places (of known.pages s.map) k

pub kept : (known : KnownPages) (places : ℕ) (limits : Limits) (then : ScriptStore) (new : Told) (s : State)
    (k : History) → KeepsScript places known limits then new k s → Kept known places new k s
kept known places limits then new s k keeps =
    record { steady = keeps.kept.steady; rests = keeps.kept.rests }

-- behind events that say nothing, what is said is that of the later ones
pub pieces_behind : (first added : Story) → pieces first ≡ [] → pieces (added ++ first) ≡ pieces added
pieces_behind first added silent =
    pieces-append added first ∙ ap (λ (ps : List (List ℕ)). ps ++ pieces added) silent

-- and the history has both
pub history_behind : (first added : Story) (h : History)
    → adds_all added (adds_all first h) ≡ adds_all (added ++ first) h
history_behind first added h = ap (λ (s : Story). record { start = h.start; story = s })
    (sym (append_assoc added first h.story))

-- ---- events that say nothing, before a run

-- before anything is said, nothing was answered
pub near_silent : (Q : State → Type 0) (limits : Limits) (state : State) (commands : List Command)
    → Q state → IsNear Q limits state commands []
near_silent Q limits state [] holds = inl holds
near_silent Q limits state (c ∷ commands) holds = rw (reply_shows limits state c) (inl holds)

-- how a run ends, by its stop
ends_by : (Q : State → Type 0) (limits : Limits) (m : Map) (script : List ℕ) (lines : List (List ℕ))
    (result : Result (Unit {0}) Stop) → EndsAt result limits (at_rest m)
    (commands_of script) lines Q
    → EndsBy (ending_of result) Q limits m script lines
ends_by Q limits m script lines (Ok u) e = e
ends_by Q limits m script lines (Err (stop.Store (fault.Chip f))) e = e
ends_by Q limits m script lines (Err (stop.Store (fault.Image f))) e = e
ends_by Q limits m script lines (Err (stop.Store fault.Spent)) e = e
ends_by Q limits m script lines (Err stop.Script) e = e
ends_by Q limits m script lines (Err stop.Output) e = e
ends_by Q limits m script lines (Err stop.TooLong) e = e

between_so : (Q R : State → Type 0) (limits : Limits) (m : Map) (script : List ℕ) (lines : List (List ℕ))
    → ((s : State) → Q s → R s) → IsBetween Q limits m script lines
    → IsBetween R limits m script lines
between_so Q R limits m script lines f e = record {
  answered = e.answered;
  later = e.later;
  commands_are = e.commands_are;
  part = e.part;
  said_is = e.said_is;
  next = e.next;
  rests = f _
      e.rests;
}

-- what is so of a state after a run, so is what follows from it
ends_state : (Q R : State → Type 0) (limits : Limits) (m : Map) (script : List ℕ) (lines : List (List ℕ))
    → ((s : State) → Q s → R s) → (e : Ending) → EndsBy e Q limits m script lines
    → EndsBy e R limits m script lines
ends_state Q R limits m script lines f (Ok u) e = f _ e
ends_state Q R limits m script lines f (Err Words) e = between_so Q R limits m script lines f e
ends_state Q R limits m script lines f (Err (Chip x)) e = between_so Q R limits m script lines f e
ends_state Q R limits m script lines f (Err OutOfMemory) e = between_so Q R limits m script lines f
    e
ends_state Q R limits m script lines f (Err Script) e = between_so Q R limits m script lines f e
ends_state Q R limits m script lines f (Err Output) e = record {
  answered = e.answered;
  command = e.command;
  later = e.later;
  commands_are = e.commands_are;
  part = e.part;
  said_is = e.said_is;
  next = e.next;
  rests = f _ e.rests;
}
ends_state Q R limits m script lines f (Err TooLong) e = between_so Q R limits m script lines f e

pub all_done : (result : Result (Unit {0}) Stop) → ending_of result ≡ Ok tt → is_ok result ≡ true
all_done (Ok u) is = refl
all_done (Err s) is = absurd cc

-- what a run stops with was met
stop_met : (places : ℕ) (known : KnownPages) (s : Stop) (t : Told) (k : History)
    → StopMet (script_keeping places known) s t k → TellsStory t → EndMet places (ending_of (Err s)) k
stop_met places known (stop.Store (fault.Chip e)) t k met tells = met tells
stop_met places known (stop.Store (fault.Image e)) t k met tells = met tells
stop_met places known (stop.Store fault.Spent) t k met tells = tt
stop_met places known stop.Script t k met tells = tt
stop_met places known stop.Output t k met tells = tt
stop_met places known stop.TooLong t k met tells = tt

module _ (known : KnownPages) (marks : Bool) (places : ℕ) (limits : Limits) (m : Map) (script : List ℕ) (h : History) (first : Story)
    (silent : pieces first ≡ [])
    (each : AtEachMoment (λ e. EachStandsIn places limits.units (of known.pages m) (adds_all e h)) first)
    (lawful : (base : Story) → IsLawful base → AreClean (AreMarked marks places h) base → IsLawful (first ++ base))
    (unused : WereUnused marks places h → AtEachMoment (λ e. MarksAreUnused places (adds_all e h)) first) where
  abbrev Found : Story → Type 0
  Found e = Leaves (says sector_in) (StandsAbout places limits (of known.pages m) script (said e)) h e

  -- at each moment of them nothing was answered
  near_first : AtEachMoment Found first
  near_first = λ later e is x image.
      let quiet : pieces e ≡ [] = silent-part later e (ap pieces is ∙ silent) in
      subst (λ (bytes : List ℕ). StandsAbout places limits (of known.pages m) script bytes x) (sym (ap joined_pieces quiet))
      (near_silent (λ s. StandsIn places limits.units (chart_of x) (of known.pages s.map)) limits (at_rest m) (commands_of script)
      (each later e is x image))

  -- ---- they alone were done

  module _ (old new : Told) (history : new.history ≡ option_map (adds_all first) old.history)
      (left : new.beside.left ≡ Some script)
      (steady : Unrisen old new → IsSteady (adds_all first h) new)
      (rests : Unrisen old new → StoryRests places (of known.pages m) (adds_all first h)) where
    abbrev Resting : State → Type 0
    Resting s = Unrisen old new → StoryRests places (of known.pages s.map) (adds_all first h)

    none_between : IsBetween Resting limits m script (pieces first)
    none_between = subst (IsBetween Resting limits m script) (sym silent) (between_none limits
        (at_rest m) (commands_of script) Resting rests)

    pub runs_none : (ending : Ending) → (ending ≡ Ok tt → ⊥)
        → EndsBy ending Resting limits m script (pieces first)
        → (Unrisen old new → TellsStory new → EndMet places ending (adds_all first h))
        → Runs marks places limits (of known.pages m) script h [] old new ending
    runs_none ending unfinished ends met = record {
      added = first;
      history = history ∙ ap (option_map (adds_all first)) (same_history old.history);
      each_moment = near_first;
      replies = subst (SaysLines (answers limits m script)) (sym silent)
          (says_none (answers limits m script));
      is_prefix = subst (λ (bytes : List ℕ). IsPrefix bytes (joined_text (answers limits m script)))
          (sym (ap joined_pieces silent)) (joined_text (answers limits m script), refl);
      lawful = lawful;
      unused = unused;
      steady = steady;
      rests = λ unrisen. subst (IsAbout (λ s. StoryRests places (of known.pages s.map) (adds_all first h)) limits m
          script) (sym (ap joined_pieces silent))
          (near_silent (λ s. StoryRests places (of known.pages s.map) (adds_all first h)) limits (at_rest m)
          (commands_of script) (rests unrisen));
      ends = ends;
      met = met;
      read = [];
      unread = script;
      script_is = refl;
      left_is = left;
      all = λ is. absurd (unfinished is);
    }

    pub none_failed : (e : ImageFault) → (Unrisen old new → TellsStory new → ImageMet places e (adds_all first h))
        → Runs marks places limits (of known.pages m) script h [] old new (Err (Chip e))
    none_failed e met = runs_none (Err (Chip e)) (λ is. cc) none_between met

    pub none_wanting : Runs marks places limits (of known.pages m) script h [] old new (Err OutOfMemory)
    none_wanting = runs_none (Err OutOfMemory) (λ is. cc) none_between (λ unrisen tells. tt)

  -- ---- then the script was run

  module _ (old mid new : Told) (before then : ScriptStore)
      (later : old.write_faults ≤ mid.write_faults)
      (told : mid.history ≡ option_map (adds_all first) old.history)
      (clean : (base : Story) → AreClean (AreMarked marks places h) base
      → AreClean ((script_keeping places known).clean before) (first ++ base))
      (unused_then : WereUnused marks places h → (script_keeping places known).unused before (adds_all first h)) where
    module _ (R : History → State → Type 0) (result : Result (Unit {0}) Stop)
        (stays : (k : History) (s : State) → R k s → Stays (script_keeping places known) limits then mid new k s)
        (meets : (k : History) (s : State) → R k s → Unrisen mid new → TellsStory new → EndMet places (ending_of result) k)
        (leaves : RunLeaves (script_keeping places known) limits (at_rest m) (commands_of script) before
        (adds_all first h) R then mid new result) where
      abbrev last : History
      last = adds_all leaves.added (adds_all first h)

      kept_last : (s : State) → R last s → Unrisen old new → Kept known places new last s
      kept_last s so unrisen = kept known places limits then new s last
          (stays last s so (unrisen_later old mid new later unrisen))

      all_pieces : pieces (leaves.added ++ first) ≡ pieces leaves.added
      all_pieces = pieces_behind first leaves.added silent

      all_said : said (leaves.added ++ first) ≡ said leaves.added
      all_said = ap joined_pieces all_pieces

      all_history : last ≡ adds_all (leaves.added ++ first) h
      all_history = history_behind first leaves.added h

      later_found : AtEachMoment (λ f. Found (f ++ first)) leaves.added
      later_found = at_weaker (λ e. Leaves (says sector_in) (StandsAbout places limits (of known.pages m) script (said e))
          (adds_all first h) e) (λ f. Found (f ++ first)) leaves.added (λ f found x image.
          subst (λ (bytes : List ℕ). StandsAbout places limits (of known.pages m) script bytes x)
          (sym (said-append f first ∙ ap (λ (ps : List (List ℕ)). joined_pieces ps ++ said f) silent))
          (found x (subst (λ (s : Story). IsNoChanceImage (says sector_in) h.start s x)
          (append_assoc f first h.story) image))) leaves.each_moment

      steady_near : IsAbout (R last) limits m script (said leaves.added) → Unrisen old new
          → IsSteady last new
      steady_near near unrisen = elim near [
        | inl so ↦ (kept_last _ so unrisen).steady
        | inr so ↦ (kept_last _ so unrisen).steady
      ]

      rests_near : IsAbout (R last) limits m script (said leaves.added) → Unrisen old new
          → IsAbout (λ s. StoryRests places (of known.pages s.map) last) limits m script (said leaves.added)
      rests_near near unrisen = elim near [
        | inl so ↦ inl (kept_last _ so unrisen).rests
        | inr so ↦ inr (kept_last _ so unrisen).rests
      ]

      met_near : IsAbout (R last) limits m script (said leaves.added) → Unrisen old new → TellsStory new
          → EndMet places (ending_of result) last
      met_near near unrisen = elim near [
        | inl so ↦ meets last _ so (unrisen_later old mid new later unrisen)
        | inr so ↦ meets last _ so (unrisen_later old mid new later unrisen)
      ]

      ends_last : EndsBy (ending_of result) (λ s. Unrisen old new → StoryRests places (of known.pages s.map) last)
          limits m script (pieces leaves.added)
      ends_last = ends_by (λ s. Unrisen old new → StoryRests places (of known.pages s.map) last) limits m script
          (pieces leaves.added) result
          (ends_weaker limits (at_rest m) result (commands_of script) (pieces leaves.added) (R last)
          (λ s. Unrisen old new → StoryRests places (of known.pages s.map) last)
          (λ s so unrisen. (kept_last s so unrisen).rests) leaves.ends)

      runs_by : (read unread : List ℕ) → script ≡ read ++ unread → new.beside.left ≡ Some unread
          → (is_ok result ≡ true → unread ≡ [])
          → Runs marks places limits (of known.pages m) script h [] old new (ending_of result)
      runs_by read unread script_is left_is ends = record {
        added = leaves.added ++ first;
        history = leaves.history ∙ ap (option_map (adds_all leaves.added)) told
            ∙ history_then leaves.added first old.history
            ∙ ap (option_map (adds_all (leaves.added ++ first))) (same_history old.history);
        each_moment = at_both Found leaves.added first near_first later_found;
        replies = subst (SaysLines (answers limits m script)) (sym all_pieces) leaves.replies;
        is_prefix = subst (λ (bytes : List ℕ). IsPrefix bytes
            (joined_text (answers limits m script))) (sym all_said)
            (says_prefix (answers limits m script) (pieces leaves.added) leaves.replies);
        lawful = λ base good marked. subst IsLawful (sym (append_assoc leaves.added first base))
            (leaves.lawful.lawful (first ++ base) (lawful base good marked) (clean base marked));
        unused = λ were. at_both (λ e. MarksAreUnused places (adds_all e h)) leaves.added first (unused were)
            (λ later e split. subst (MarksAreUnused places) (twice e first h)
            (leaves.unused.marks (unused_then were) later e split));
        steady = λ unrisen. subst (λ (k : History). IsSteady k new) all_history
            (steady_near leaves.rests unrisen);
        rests = λ unrisen. subst (λ (k : History). IsAbout (λ s. StoryRests places (of known.pages s.map) k) limits m
            script (said (leaves.added ++ first))) all_history
            (subst (IsAbout (λ s. StoryRests places (of known.pages s.map) last) limits m script) (sym all_said)
            (rests_near leaves.rests unrisen));
        ends = subst (λ (k : History). EndsBy (ending_of result) (λ s. Unrisen old new → StoryRests
            places (of known.pages s.map) k) limits m script (pieces (leaves.added ++ first))) all_history
            (subst (EndsBy (ending_of result) (λ s. Unrisen old new → StoryRests places (of known.pages s.map) last)
            limits m script) (sym all_pieces) ends_last);
        met = λ unrisen tells. subst (λ (k : History). EndMet places (ending_of result) k) all_history
            (met_near leaves.rests unrisen tells);
        read = read;
        unread = unread;
        script_is = script_is;
        left_is = left_is;
        all = λ is. let whole = leaves.all (all_done result is) in (
          all_pieces ∙ whole,
          all_said ∙
              ap joined_text whole,
          ends (all_done result is),
        );
      }

    pub runs_ended : Ended (script_keeping places known) limits (at_rest m) script before (adds_all first h) then
        mid new → Runs marks places limits (of known.pages m) script h [] old new (Ok tt)
    runs_ended e = runs_by ((script_keeping places known).holds limits then new) (Ok tt) (λ k s held unrisen. held)
        (λ k s held unrisen tells. tt) e.leaves script [] (sym (append-nil script)) e.left_is (λ is. refl)

    pub runs_stopped : (s : Stop) → Stopped (script_keeping places known) limits (at_rest m) (commands_of script)
        script before (adds_all first h) (StaysAt (script_keeping places known) limits then mid new s) then mid new s
        → Runs marks places limits (of known.pages m) script h [] old new (ending_of (Err s))
    runs_stopped s e = runs_by (StaysAt (script_keeping places known) limits then mid new s) (Err s)
        (λ k state stays unrisen. (stays unrisen).0)
        (λ k state stays unrisen tells. stop_met places known s new k (stays unrisen).1 tells) e.leaves e.read e.rest e.source_is e.left_is (λ is. absurd cc)

-- ---- over a chip that was opened

-- what an opening takes from a mark, where marks count, is marked
pub took_marked : (marks : Bool) (old : Told) (first : Tables) (h : History) → IsSteady h old
    → TakesMarks marks old.places old first → (base : Story) → AreClean (AreMarked marks old.places h) base
    → AreClean (IsCountedClean first) base
took_marked true old first h steady takes base marked p s counted =
    marked p s (takes.marked _ steady.holds p s counted)
took_marked false old first h steady takes base marked p s counted = absurd (takes.none refl p s counted)

-- what is marked stands at a place of the chip
pub marked_within : (places : ℕ) (x : Contents) (p n : ℕ) → IsMarked places x p n → p < places
marked_within places x p n is =
    let inside = (is.laid.each is.unit is.within).chosen.within in
    let at = is.home in omega (arith, at, inside)

-- what is known of the pages of records
abbrev pub known_of : (m : Legible) → IsToldApart m.pages → KnownPages
known_of m apart = record { pages = m.pages; apart = apart }

-- what ended with nothing was done
ended_ok : (result : Result (Unit {0}) Stop) → Ok tt ≡ ending_of result → is_ok result ≡ true
ended_ok (Ok u) is = refl
ended_ok (Err e) is = absurd (cc is)

module _ {marks : Bool} (old mid : Told) (store : ScriptStore) (s : StartsOpened marks old store mid) where
  -- the store has as many units as the chip says
  pub units_told : (h : History) → IsSteady h old
      → store.store.units ≡ units_at (now h) old.places
  units_told h steady = s.opens.units (held h.start h.story) steady.holds

  -- it keeps the records on which the history rested
  pub opened_keeps : (known : KnownPages) (m : Map) (h : History) (steady : IsSteady h old)
      (rests : StoryRests old.places (of known.pages m) h)
      → KeepsScript old.places known (limits_of_store store.store) store mid
      (adds_all (s.tries.steps (of known.pages m) h steady rests).2.added h) (at_rest m)
  opened_keeps known m h steady rests =
      let made = s.running.sound.made in
      let did = (s.tries.steps (of known.pages m) h steady rests).2 in
      let k = adds_all did.added h in record {
        kept = s.opens.keeps known.pages m k (held h.start h.story) steady.holds
            (held_stands old.places (of known.pages m) h rests.each) (did.steady tt) (did.ends tt).rests
            (did.ends tt).tidy;
        few = omega (arith, made.units, made.geometry.1);
      }

  -- an opening leaves as many units at each moment
  pub opened_each : (known : KnownPages) (m : Map) (h : History) (steady : IsSteady h old) (rests : StoryRests old.places (of known.pages m) h)
      → AtEachMoment (λ e. EachStandsIn old.places store.store.units (of known.pages m) (adds_all e h))
      (s.tries.steps (of known.pages m) h steady rests).2.added
  opened_each known m h steady rests =
      let did = (s.tries.steps (of known.pages m) h steady rests).2 in
      subst (λ (n : ℕ). AtEachMoment (λ e. EachStandsIn old.places n (of known.pages m) (adds_all e h)) did.added)
      (sym (units_told h steady)) (moments_as_said old.places (of known.pages m) h did.added rests did.each_moment)

  -- where nothing that was marked was used, nothing that is marked then was, nor what the store counts as clean
  pub opened_unused : (known : KnownPages) (h : History) (steady : IsSteady h old) (m : Map) (rests : StoryRests old.places (of known.pages m) h)
      → MarksAreUnused old.places h
      → (script_keeping old.places known).unused store (adds_all (s.tries.steps (of known.pages m) h steady rests).2.added h)
  opened_unused known h steady m rests were =
      let (took, takes, did) = s.tries.steps (of known.pages m) h steady rests in (
        did.marks tt [] did.added refl were,
        unused_carried (IsCountedClean took) (IsCountedClean (tables_in store.store.transactions.pages)) old.places
            did.added
            (λ p s counted. marked_within old.places (held h.start h.story) p s (takes.marked _ steady.holds p s counted))
            (did.does.clean refl) h.story
            (λ p s counted. were (held h.start h.story) (held_is_image (says sector_in) h.start h.story) p s
            (takes.marked _ steady.holds p s counted)),
      )

  -- what was erased since the chip was opened is marked behind a close
  pub opened_marks : (new : Told) → MarksBehind store mid new → MarksWhatWasErased old new
  opened_marks new behind h script steady left at m rests apart calm =
      let known = known_of m apart in
      let same = s.tries.accounts.counts.places in
      let did = (s.tries.steps m h steady rests).2 in
      let k = adds_all did.added h in
      subst (λ (n : ℕ). MarksSince n h new) same
      (behind known script (left_counts old mid s.tries.accounts.counts ∙ left) calm old h at
      (opening_recalls old mid store s.tries) (limits_of_store store.store) (at_rest m.map) k
      (did.history ∙ ap (option_map (adds_all did.added)) at)
      (subst (λ (n : ℕ). KeepsScript n known (limits_of_store store.store) store mid k (at_rest m.map)) (sym same)
      (opened_keeps known m.map h steady rests)))

  -- what is marked behind a close is clean, after lawful events that leave clean what was marked before
  pub opened_clean : (then : ScriptStore) (new : Told) → RunsOver (Ok tt) store mid then new
      → CountsBehind store mid then new → CleansWhatIsMarked old new
  opened_clean then new r behind h script steady left m rests apart =
      let tidy = subst (λ (done : Bool). LeavesTidy (script_keeping mid.places all_pages) store then mid new done)
      (ended_ok r.result r.ending_is) r.run.tidy in
      let known = known_of m apart in
      let same = s.tries.accounts.counts.places in
      let did = (s.tries.steps m h steady rests).2 in
      let opening = s.tries.tidy in
      let x = held h.start h.story in
      let marked : ℕ → ℕ → Type 0 = IsMarked old.places x in
      let taken : (base : Story) → AreClean marked base → AreClean (IsCountedClean opening.first) base =
      λ base clean p n counted. clean p n (opening.takes.marked x steady.holds p n counted) in
      let first = opening.tidies.added in
      let counted = subst (λ (n : ℕ). OfContents new (λ y. (p s : ℕ) → IsMarked n y p s → CountsClean then p s)) same
      (behind known script (left_counts old mid s.tries.accounts.counts ∙ left) (limits_of_store store.store) (at_rest m.map)
      (adds_all did.added h)
      (subst (λ (n : ℕ). KeepsScript n known (limits_of_store store.store) store mid (adds_all did.added h) (at_rest m.map))
      (sym same) (opened_keeps known m.map h steady rests))) in record {
        added = tidy.added ++ first;
        history = tidy.history ∙ ap (option_map (adds_all tidy.added)) opening.tidies.history
            ∙ history_then tidy.added first old.history;
        lawful = record {
          lawful = λ base good clean. subst (λ (story : Story). IsLawful story) (sym (append_assoc tidy.added first base))
              (tidy.lawful.lawful (first ++ base) (opening.tidies.does.lawful.lawful base good (taken base clean))
              (opening.tidies.does.clean refl base (taken base clean)));
        };
        clean = λ y told. record {
          clean = λ base good clean p n is.
              subst (λ (story : Story). age story p n ≡ Clean) (sym (append_assoc tidy.added first base))
              ((tidy.clean refl).clean (first ++ base) (opening.tidies.does.lawful.lawful base good (taken base clean))
              (opening.tidies.does.clean refl base (taken base clean)) p n (counted y told p n is));
        };
      }

  module _ (then : ScriptStore) (new : Told) where
    opened_so : (known : KnownPages) (result : Result (Unit {0}) Stop)
        → RunsScript (script_keeping old.places known) store mid result then new
        → (h : History) (script : List ℕ) → IsSteady h old → old.beside.left ≡ Some script
        → (m : Map) → StoryRests old.places (of known.pages m) h → WereUnused (not marks) old.places h
        → Runs marks old.places (limits_of_store store.store) (of known.pages m) script h [] old new (ending_of result)
    opened_so known (Ok u) run h script steady left m rests besides =
        let (took, takes, did) = s.tries.steps (of known.pages m) h steady rests in
        let taken = took_marked marks old took h steady takes in
        runs_ended known marks old.places (limits_of_store store.store) m script h did.added did.does.silent
        (opened_each known m h steady rests)
        (λ base good marked. did.does.lawful.lawful base good (taken base marked))
        (λ were later e split. did.marks tt later e split (were_unused marks old.places h were besides))
        old mid new store then s.tries.accounts.counts.writes did.history
        (λ base marked. did.does.clean refl base (taken base marked))
        (λ were. opened_unused known h steady m rests (were_unused marks old.places h were besides))
        (run (limits_of_store store.store) (at_rest m) (adds_all did.added h) (opened_keeps known m h
        steady rests) script (left_counts old mid s.tries.accounts.counts ∙ left))
    opened_so known (Err e) run h script steady left m rests besides =
        let (took, takes, did) = s.tries.steps (of known.pages m) h steady rests in
        let taken = took_marked marks old took h steady takes in
        runs_stopped known marks old.places (limits_of_store store.store) m script h did.added did.does.silent
        (opened_each known m h steady rests)
        (λ base good marked. did.does.lawful.lawful base good (taken base marked))
        (λ were later e split. did.marks tt later e split (were_unused marks old.places h were besides))
        old mid new store then s.tries.accounts.counts.writes did.history
        (λ base marked. did.does.clean refl base (taken base marked))
        (λ were. opened_unused known h steady m rests (were_unused marks old.places h were besides)) e
        (run (limits_of_store store.store) (at_rest m) (adds_all did.added h) (opened_keeps known m h
        steady rests) script (left_counts old mid s.tries.accounts.counts ∙ left))

    pub opened_runs : (result : Result (Unit {0}) Stop)
        → ((known : KnownPages) → RunsScript (script_keeping mid.places known) store mid result then new)
        → RunsFrom (slots_of store) marks old new (ending_of result)
    opened_runs result run = λ h script steady left m rests apart besides.
        let known = known_of m apart in
        subst (λ (n : ℕ). Runs marks old.places (limits_of (slots_of store) n) m script h [] old new (ending_of result))
        (units_told h steady)
        (opened_so known result (subst (λ (n : ℕ). RunsScript (script_keeping n known) store mid result then new)
        s.tries.accounts.counts.places (run known)) h script steady left m.map rests besides)

-- an opening that fails leaves the records
pub unopened_runs : {sessions : ℕ} {marks : Bool} (numbers : ℕ) (old new : Told) (end : End) → (n : IsNotOpened marks numbers end old new)
    → RunsFrom sessions marks old new (Err (Chip n.fault))
unopened_runs {sessions} {marks} numbers old new end n = λ h script steady left m rests apart besides.
    let (took, takes, did) = n.tries.steps m h steady rests in
    none_failed (known_of m apart) marks old.places (limits_of sessions (units_at (now h) old.places)) m.map script h did.added did.does.silent
    (moments_as_said old.places m h did.added rests did.each_moment)
    (λ base good marked. did.does.lawful.lawful base good (took_marked marks old took h steady takes base marked))
    (λ were later e split. did.marks tt later e split (were_unused marks old.places h were besides))
    old new did.history (left_counts old new n.tries.accounts.counts ∙ left) did.steady did.ends
    n.fault (λ unrisen tells. opening_met marks old.places n.fault old new n.tables n.tries h did.added steady.holds)

-- where marks count nothing is asked besides
pub runs_opened : {sessions : ℕ} {old new : Told} {ending : Ending} → RunsFrom sessions true old new ending → RunsOpened sessions old new ending
runs_opened runs = λ h script steady left m rests apart. runs h script steady left m rests apart tt

-- and so does what does nothing
module _ (old new : Told) (is : IsLeftAlone old new) where
  told_still : new.history ≡ option_map (adds_all []) old.history
  told_still = ap (λ (t : Told). t.history) is ∙ same_history old.history

  steady_still : (h : History) → IsSteady h old → IsSteady h new
  steady_still h steady = record {
    holds = ap (λ (t : Told). t.contents) is ∙ steady.holds;
    settled = ap (λ (t : Told). t.settled) is ∙ steady.settled;
  }

  left_still : (script : List ℕ) → old.beside.left ≡ Some script → new.beside.left ≡ Some script
  left_still script left = ap (λ (t : Told). t.beside.left) is ∙ left

  still_each : (places : ℕ) (m : Legible) (h : History) → StoryRests places m h
      → AtEachMoment (λ e. EachStandsIn places (units_at (now h) places) m (adds_all e h)) []
  still_each places m h rests = moments_as_said places m h [] rests
      (at_start (λ e. EachStands places m (adds_all e h)) rests.each)

  pub untouched_runs : {sessions : ℕ} → RunsOpened sessions old new (Err OutOfMemory)
  untouched_runs {sessions} = λ h script steady left m rests apart.
      none_wanting (known_of m apart) true old.places (limits_of sessions (units_at (now h) old.places)) m.map script h [] refl
      (still_each old.places m h rests)
      (λ base good marked. good)
      (at_start (λ e. MarksAreUnused old.places (adds_all e h)))
      old new told_still (left_still script left) (λ unrisen. steady_still h steady)
      (λ unrisen. rests)

  pub untouched_stops : {sessions : ℕ} → RunsOpened sessions old new (Err (Chip image.Geometry))
  untouched_stops {sessions} = λ h script steady left m rests apart.
      none_failed (known_of m apart) true old.places (limits_of sessions (units_at (now h) old.places)) m.map script h [] refl
      (still_each old.places m h rests)
      (λ base good marked. good)
      (at_start (λ e. MarksAreUnused old.places (adds_all e h)))
      old new told_still (left_still script left) (λ unrisen. steady_still h steady)
      (λ unrisen. rests) image.Geometry (λ unrisen tells. tt)

-- ---- over a chip that was formatted first

module _ (old mid new : Told) (f : WasFormatted old mid) where
  abbrev first : Story
  first = format_events old.places (units_on old.places)

  -- the story of a chip that was formatted rests on no records
  pub fresh_story : (h : History) → IsSteady h old
      → IsSteady (adds_all first h) mid
      × StoryRests old.places (whole empty) (adds_all first h)
  fresh_story h steady =
      let did = f.formats h in (
        subst (λ (s : Story). IsSteady (adds_all s h) mid) did.done.exact (did.steady (λ is. cc) steady),
        subst (λ (s : Story). StoryRests old.places (whole empty) (adds_all s h)) did.done.exact
            did.done.rests,
      )

  -- and the chip says that it has all units, none of its places being spare
  pub fresh_units : (h : History)
      → units_at (now (adds_all first h)) old.places ≡ units_on old.places
  fresh_units h =
      let did = f.formats h in
      subst (λ (s : Story). units_at (now (adds_all s h)) old.places ≡ units_on old.places)
      did.done.exact
      (laid_says_its_units (now (adds_all did.added h)) old.places
      (first_layout (units_on old.places)) did.done.fresh.mirrors.laid)

  -- what the chip tells grew by its events
  pub told_format : (h : History) → mid.history
      ≡ option_map (adds_all first) old.history
  told_format h = let did = f.formats h in did.history
      ∙ ap (λ (s : Story). option_map (adds_all s) old.history) did.done.exact

  pub lawful_format : (h : History) (base : Story) → IsLawful base
      → IsLawful (first ++ base)
  lawful_format h base good = let did = f.formats h in subst (λ (s : Story). IsLawful
      (s ++ base)) did.done.exact (did.lawful base good)

  -- a run from there on is one after the events of the format
  after_format : {sessions : ℕ} {ending : Ending} (script : List ℕ) (h : History)
      → Runs false old.places (limits_of sessions (units_on old.places)) (whole empty) script (adds_all first h) [] mid new ending
      → Runs false old.places (limits_of sessions (units_on old.places)) (whole empty) script h first old new ending
  after_format {sessions} {ending} script h r = let last : History = adds_all r.added
      (adds_all first h) in record {
        added = r.added;
        history = r.history ∙ ap (option_map (adds_all r.added)) (sym (same_history mid.history)
            ∙ told_format h);
        each_moment = r.each_moment;
        replies = r.replies;
        is_prefix = r.is_prefix;
        lawful = λ base good marked. r.lawful (first ++ base) (lawful_format h base good)
            (λ p s none. absurd none);
        unused = r.unused;
        steady = λ unrisen. r.steady (earlier unrisen);
        rests = λ unrisen. r.rests (earlier unrisen);
        ends = ends_state (λ s. Unrisen mid new → StoryRests old.places (whole s.map) last) (λ s. Unrisen old
            new → StoryRests old.places (whole s.map) last) (limits_of sessions (units_on old.places)) empty script
            (pieces r.added)
            (λ s so unrisen. so (earlier unrisen)) ending r.ends;
        met = λ unrisen. r.met (earlier unrisen);
        read = r.read;
        unread = r.unread;
        script_is = r.script_is;
        left_is = r.left_is;
        all = r.all;
      }
    where
      earlier : Unrisen old new → Unrisen mid new
      earlier = unrisen_later old mid new f.counts.writes

  pub formatted_runs : {sessions : ℕ} {ending : Ending} → RunsFrom sessions false mid new ending → RunsFormatted sessions old new ending
  formatted_runs {sessions} {ending} runs = λ h script steady left.
      let fresh = fresh_story h steady in
      after_format script h
      (subst (λ (n : ℕ). Runs false old.places (limits_of sessions n) (whole empty) script (adds_all first h) [] mid new ending)
      (fresh_units h)
      (subst (λ (q : ℕ). Runs false q (limits_of sessions (units_at (now (adds_all first h)) q)) (whole empty) script
      (adds_all first h) [] mid new ending) f.counts.places
      (runs (adds_all first h) script fresh.0
      (left_counts old mid f.counts ∙ left) (whole empty)
      (subst (λ (q : ℕ). StoryRests q (whole empty) (adds_all first h))
      (sym f.counts.places) fresh.1) every_is_told_apart
      (subst (λ (q : ℕ). MarksAreUnused q (adds_all first h)) (sym f.counts.places)
      (format_unused old.places (units_on old.places) h old mid (f.formats h))))))
