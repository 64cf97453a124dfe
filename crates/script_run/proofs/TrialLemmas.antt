-- A whole trial: the work, the look-ups and the lines.
use Rattle.std.proofs.Common.{◌≡◌, ℕ, ◌≤◌, Bool, true, false, List, [], ◌∷◌, ◌++◌, length, reverse, Result, Ok, Err, is_ok, MatchResult, IfErr, refl, sym, ◌∙◌, ap, subst, arith}
use Rattle.std.proofs.lemmas.List.{append-nil}
use Rattle.std.specs.Option.{option_map}
use Rattle.crc_sum.specs.Crc.{crc}
use Rattle.ipl_model.specs.State.{State, Limits}
use Rattle.ipl_model.specs.declared.command.Command.{Command}
use Rattle.ipl_model.specs.Run.{joined_lines, after_all}
use Rattle.chip_trait.specs.Story.{Story, Contents, pieces}
use Rattle.chip_trait.specs.Moment.{Leaves}
use Rattle.chip_trait.specs.Told.{History, Told, adds_all}
use Rattle.chip_trait.proofs.HistoryLemmas.{history_then}
use Rattle.chip_trait.proofs.LawfulLemmas.{lawful_then, clean_then}
use Rattle.chip_trait.proofs.MomentLemmas.{at_both}
use Rattle.chip_trait.proofs.SaidLemmas.{pieces-append, silent-part}
use Rattle.store_trait.specs.Onward.{sayings}
use Rattle.store_trait.specs.Keeping.{Keeping, Stays, WorkLeaves}
use Rattle.store_trait.proofs.OnwardLemmas.{unrisen_later}
use Rattle.store_trait.proofs.UnusedLemmas.{unused_then}
use Rattle.script_run.specs.declared.fault.Stop.{Stop}
use Rattle.script_run.specs.declared.fault.Stop.TheVariants as stop
use Rattle.script_run.specs.Run.{SaysLines, IsUnsaid, IsSaidOr, SayingLeaves}
use Rattle.script_run.specs.Goes.{Completes}
use Rattle.script_run.proofs.CompleteLemmas.{CompletesSoFar}
use Rattle.script_run.proofs.RunLemmas.{says_none, says_all, all_both, all_or_said, twice_added, regrouped}
use Rattle.script_run.specs.TrialSummary.{TrialCounts, RecordSum, HasTaken, counts_of, record_lines, summary_lines, trial_lines}
use Rattle.script_run.specs.Trial.{IsStoreStop, HasSaid, SaysAll, IsDone, IsCutShort, AreLinesTaken, IsLost, StandsAlong, StandsBehind, CommandByCommand, EndsWhole, TrialEnds, TrialRuns}
use Rattle.script_run.proofs.OrderLemmas.{order_stay}
use Rattle.script_run.proofs.DoneLemmas.{along_all}
use Rattle.script_run.proofs.WorkLemmas.{work_weaker, work_then}
use Rattle.script_run.proofs.SaidLemmas.{saying_each, kept_still}

-- so the lines are said in part
says_unsaid : (all said : List (List ℕ)) → IsUnsaid all said → SaysLines all said
says_unsaid all said u = record {
  whole = u.whole;
  rest = u.line ∷ u.rest;
  cut = u.cut;
  lines_are = u.lines_are;
  said_is = u.said_is;
  is_cut = u.is_cut;
}

module _ {S : Type 0} (k : Keeping S) (limits : Limits) (state : State) (commands : List Command) (before : S)
    (h : History) where
  stands_behind : (said : List (List ℕ)) (x : Contents) → k.stands limits x (after_all limits state commands).map
      → StandsBehind k limits state commands said x
  stands_behind [] x stands = along_all k limits state commands x stands
  stands_behind (piece ∷ said) x stands = stands

  abbrev Moment : Story → Type 0
  Moment e = Leaves k.checks (StandsBehind k limits state commands (pieces e)) h e

  -- at a moment of work that says nothing
  at_work : (mid : S) (old between : Told) (done : Bool)
      (w : WorkLeaves k (StandsAlong k limits state commands) before h mid old between done) (later e : Story)
      → later ++ e ≡ w.added → Moment e
  at_work mid old between done w later e split x is =
      subst (λ (said : List (List ℕ)). StandsBehind k limits state commands said x)
      (sym (silent-part later e (ap pieces split ∙ w.silent))) (w.each_moment later e split x is)

  -- it stopped in the work or in the look-ups
  pub trial_stopped : (then : S) (R : History → State → Type 0) (old new : Told) (s : Stop) → IsStoreStop s
      → (done later : List Command) → commands ≡ done ++ later
      → (w : WorkLeaves k (StandsAlong k limits state commands) before h then old new false)
      → R (adds_all w.added h) (after_all limits state done) → CommandByCommand k limits state done later h w.added
      → TrialRuns k limits state commands before h R then old new (Err s)
  trial_stopped then R old new s of_store done later are w r order = record {
    added = w.added;
    history = w.history;
    each_moment = at_work then old new false w;
    lines = subst (SaysLines (trial_lines limits state commands)) (sym w.silent)
        (says_none (trial_lines limits state commands));
    all = λ e. cc;
    only = all_or_said k.does w.added w.only;
    lawful = w.lawful;
    clean = λ e. cc;
    unused = w.unused;
    ends = go s of_store;
  }
    where
      go : (s : Stop) → IsStoreStop s → TrialEnds k (Err s) limits state commands h w.added (R (adds_all w.added h))
      go (stop.Store fault) of_store = record {
        done = done;
        later = later;
        commands_are = are;
        silent = w.silent;
        each_command = order;
        rests = r;
      }
      go stop.Script of_store = of_store
      go stop.Output of_store = absurd of_store
      go stop.TooLong of_store = of_store

  -- it went on to the lines
  pub trial_said : (mid then : S) (R : History → State → Type 0) (old between new : Told) (said : List (List ℕ))
      (result : Result (Unit {0}) Stop)
      → (w : WorkLeaves k (StandsAlong k limits state commands) before h mid old between true)
      → (more : SayingLeaves k limits (after_all limits state commands).map said mid (adds_all w.added h) then between new
      (is_ok result))
      → SaysLines (trial_lines limits state commands) said
      → (is_ok result ≡ true → said ≡ trial_lines limits state commands)
      → CommandByCommand k limits state commands [] h w.added
      → R (adds_all more.added (adds_all w.added h)) (after_all limits state commands)
      → ((added : Story) (Q : State → Type 0) → pieces added ≡ said → EndsWhole k limits state commands h added Q
      → TrialEnds k result limits state commands h added Q)
      → TrialRuns k limits state commands before h R then old new result
  trial_said mid then R old between new said result w more part all order r ends = record {
    added = more.added ++ w.added;
    history = more.history ∙ ap (option_map (adds_all more.added)) w.history
        ∙ history_then more.added w.added old.history;
    each_moment = at_both Moment more.added w.added (at_work mid old between true w)
        (λ later f split x is. stands_behind (pieces (f ++ w.added)) x
        (more.each_moment later f split x (regrouped k.checks h f w.added x is)));
    lines = subst (SaysLines (trial_lines limits state commands)) (sym are) part;
    all = λ e. are ∙ all e;
    only = all_both (IsSaidOr k.does) more.added w.added more.only (all_or_said k.does w.added w.only);
    lawful = lawful_then (k.clean before) (k.clean mid) more.added w.added w.lawful (w.clean refl) more.lawful;
    clean = λ e. clean_then (k.clean before) (k.clean mid) (k.clean then) more.added w.added w.lawful (w.clean refl) (more.clean e);
    unused = unused_then k before mid then h (is_ok result) more.added w.added w.unused more.unused;
    ends = ends (more.added ++ w.added) (R (adds_all (more.added ++ w.added) h)) are (record {
      each_command = order_stay k limits state commands h w.added more.added w.silent order more.each_moment;
      rests = subst (λ (g : History). R g (after_all limits state commands)) (twice_added more.added w.added h) r;
    });
  }
    where
      are : pieces (more.added ++ w.added) ≡ said
      are =
          pieces-append more.added w.added
          ∙ ap (λ (l : List (List ℕ)). l ++ pieces more.added) w.silent ∙ more.says

  -- ---- with the store, in one part after another

  -- the work of a command failed
  pub trial_cut : (then : S) (old new : Told) (s : Stop) → IsStoreStop s
      → IsCutShort k limits state commands before h then old new
      → TrialRuns k limits state commands before h (Stays k limits then old new) then old new (Err s)
  trial_cut then old new s of_store cut =
      trial_stopped then (Stays k limits then old new) old new s of_store cut.done cut.later cut.commands_are cut.leaves
      cut.stays cut.each_command

  module _ (mid then : S) (old between new : Told) (counts counted : TrialCounts)
      (done : IsDone k limits state commands counts before h counted mid old between) where
    abbrev After : State
    After = after_all limits state commands

    abbrev then_looked : (undone : Bool)
        → WorkLeaves k (λ x. k.stands limits x After.map) mid (adds_all done.leaves.added h) then between new undone
        → WorkLeaves k (StandsAlong k limits state commands) before h then old new undone
    then_looked undone more =
        let P = StandsAlong k limits state commands in
        work_then k P before mid then h old between new undone done.leaves
        (work_weaker k (λ x. k.stands limits x After.map) P mid then (adds_all done.leaves.added h) between new undone
        (along_all k limits state commands) more)

    -- a look-up failed
    pub trial_lost : (s : Stop) → IsStoreStop s → old.write_faults ≤ between.write_faults
        → IsLost k limits After mid (adds_all done.leaves.added h) then between new
        → TrialRuns k limits state commands before h (Stays k limits then old new) then old new (Err s)
    trial_lost s of_store le lost =
        trial_stopped then (Stays k limits then old new) old new s of_store commands [] (sym (append-nil commands))
        (then_looked false lost.leaves)
        (λ quiet. subst (λ (g : History). k.holds limits then new g After)
        (twice_added lost.leaves.added done.leaves.added h) (lost.stays (unrisen_later old between new le quiet)))
        (order_stay k limits state commands h done.leaves.added lost.leaves.added done.leaves.silent done.each_command
        lost.leaves.each_moment)

  module _ (mid then : S) (old between asked new : Told) (counts counted : TrialCounts) (sum summed : RecordSum)
      (lines : List (List ℕ)) (done : IsDone k limits state commands counts before h counted mid old between)
      (taken : AreLinesTaken k limits (after_all limits state commands)
      (record_lines (after_all limits state commands).map limits.names) sum mid (adds_all done.leaves.added h) summed
      then between asked)
      (at_first : counts ≡ counts_of []) (none_taken : HasTaken sum [])
      (are : (seen : List (List ℕ)) → HasTaken summed seen
      → lines ≡ summary_lines counted (length seen) (crc (joined_lines seen))) where
    these : lines ≡ trial_lines limits state commands
    these =
        let seen = record_lines (after_all limits state commands).map limits.names in
        are seen (taken.taking [] none_taken)
        ∙ ap (λ (c : TrialCounts). summary_lines c (length seen) (crc (joined_lines seen))) (done.counting [] at_first)

    abbrev worked : WorkLeaves k (StandsAlong k limits state commands) before h then old asked true
    worked = then_looked mid then old between asked counts counted done true taken.leaves

    each_command : CommandByCommand k limits state commands [] h worked.added
    each_command =
        order_stay k limits state commands h done.leaves.added taken.leaves.added done.leaves.silent done.each_command
        taken.leaves.each_moment

    -- the store keeps the state behind the work and the look-ups
    kept : k.holds limits then asked (adds_all worked.added h) (after_all limits state commands)
    kept = subst (λ (g : History). k.holds limits then asked g (after_all limits state commands))
        (twice_added taken.leaves.added done.leaves.added h) taken.holds

    -- the lines were said, or one of them couldn't be
    pub trial_ends : (result : Result (Unit {0}) Stop) → SaysAll lines asked result new
        → IfErr result (λ s. s ≡ stop.Output)
        → MatchResult result
        (λ _. TrialRuns k limits state commands before h (k.holds limits then new) then old new (Ok tt))
        (λ s. TrialRuns k limits state commands before h (Stays k limits then old new) then old new (Err s))
    trial_ends (Ok u) has is =
        let all = trial_lines limits state commands in
        let now = adds_all worked.added h in
        let after = after_all limits state commands in
        let said = subst (λ (l : List (List ℕ)). HasSaid l asked new) these has in
        let each = saying_each k limits after then now asked new all kept said true in
        trial_said then then (k.holds limits then new) old asked new all (Ok tt) worked each.0
        (says_all all) (λ e. refl) each_command
        each.1 (λ added Q is whole. whole)
    trial_ends (Err s) (said, part, has) is =
        let now = adds_all worked.added h in
        let after = after_all limits state commands in
        let R = Stays k limits then old new in
        let each = saying_each k limits after then now asked new said kept has false in
        let unsaid = subst (λ (l : List (List ℕ)). IsUnsaid l said) these part in
        subst (λ (e : Stop). TrialRuns k limits state commands before h R then old new (Err e)) (sym is)
        (trial_said then then R old asked new said (Err stop.Output) worked each.0
        (says_unsaid (trial_lines limits state commands) said unsaid) (λ e. cc) each_command
        (λ quiet. each.1)
        (λ added Q pieces_are whole. record {
          part = subst (IsUnsaid (trial_lines limits state commands)) (sym pieces_are) unsaid;
          whole = whole;
        }))

-- ---- a store that keeps a state keeps one while lines are said

pub completes_saying : {S : Type 0} (k : Keeping S) (limits : Limits) (n m : ℕ) (before then : S) (old mid new : Told)
    (lines : List (List ℕ)) (result : Result (Unit {0}) Stop)
    → CompletesSoFar k limits n before old then mid → SaysAll lines mid result new
    → IfErr result (λ s. s ≡ stop.Output) → n ≤ m → Completes k limits m before old result then new
completes_saying k limits n m before then old mid new lines (Ok u) first has is le =
    let keeps = first.again in record {
      drawn = omega (arith, first.drawn, le);
      excuse = λ fault none. cc;
      tells = λ fault none. cc;
      again = record {
        state = keeps.state;
        history = adds_all (sayings (reverse lines)) keeps.history;
        holds = kept_still k limits keeps.state then keeps.history mid new lines keeps.holds has;
      };
    }
completes_saying k limits n m before then old mid new lines (Err s) first has is le =
    record { drawn = omega (arith, first.drawn, le); excuse = λ fault same. cc; tells = λ fault same. cc; again = tt }
