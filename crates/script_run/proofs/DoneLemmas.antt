-- The work of commands, in one part after another.
use Rattle.std.proofs.Common.{◌≡◌, ◌⊎◌, inl, inr, ◌≤◌, Bool, true, false, List, [], ◌∷◌, ◌++◌, map, Ok, Err, refl, sym, ◌∙◌, ap, subst, append_assoc}
use Rattle.std.proofs.lemmas.List.{append-nil}
use Rattle.ipl_model.specs.State.{State, Limits}
use Rattle.ipl_model.specs.declared.command.Command.{Command}
use Rattle.ipl_model.specs.declared.reply.Reply.{Reply}
use Rattle.ipl_model.specs.Step.{step}
use Rattle.ipl_model.specs.Run.{after_all}
use Rattle.ipl_model.proofs.RunLemmas.{after_all-append}
use Rattle.chip_trait.specs.Story.{Story, Contents}
use Rattle.chip_trait.specs.Moment.{Leaves}
use Rattle.chip_trait.specs.Told.{History, Told, adds_all}
use Rattle.chip_trait.proofs.MomentLemmas.{at_start}
use Rattle.store_trait.specs.declared.fault.Fault.{Fault}
use Rattle.store_trait.specs.Keeping.{Keeping, WorkLeaves, WorksFor}
use Rattle.store_trait.proofs.OnwardLemmas.{unrisen_later}
use Rattle.script_run.proofs.RunLemmas.{twice_added}
use Rattle.script_run.specs.TrialSummary.{Exchange, TrialCounts, counts_of, exchanges}
use Rattle.script_run.specs.Trial.{StandsAlong, IsDone, IsCutShort}
use Rattle.script_run.proofs.OrderLemmas.{order_then, order_longer, order_one}
use Rattle.script_run.proofs.WorkLemmas.{work_none, work_weaker, work_then}

-- ---- exchanges

exchanges-append : (limits : Limits) (state : State) (cs ds : List Command)
    → exchanges limits state (cs ++ ds) ≡ exchanges limits state cs ++ exchanges limits (after_all limits state cs) ds
exchanges-append limits state [] ds = refl
exchanges-append limits state (c ∷ cs) ds =
    let first = map (λ (r : Reply). (c, r)) (step limits state c).1 in
    ap (λ (l : List Exchange). first ++ l) (exchanges-append limits (step limits state c).0 cs ds)
    ∙ sym (append_assoc first (exchanges limits (step limits state c).0 cs)
    (exchanges limits (after_all limits (step limits state c).0 cs) ds))

one_exchange : (limits : Limits) (state : State) (c : Command) (r : Reply) → (step limits state c).1 ≡ r ∷ []
    → exchanges limits state (c ∷ []) ≡ (c, r) ∷ []
one_exchange limits state c r is = ap (λ (l : List Reply). map (λ (a : Reply). (c, a)) l ++ []) is

-- ---- over stores of one kind

module _ {S : Type 0} (k : Keeping S) (limits : Limits) where
  along_one : (state : State) (c : Command) (x : Contents)
      → k.stands limits x state.map ⊎ k.stands limits x (step limits state c).0.map
      → StandsAlong k limits state (c ∷ []) x
  along_one state c x (inl before) = ([], c ∷ [], refl, before)
  along_one state c x (inr after) = (c ∷ [], [], refl, after)

  pub along_all : (state : State) (cs : List Command) (x : Contents) → k.stands limits x (after_all limits state cs).map
      → StandsAlong k limits state cs x
  along_all state cs x stands = (cs, [], sym (append-nil cs), stands)

  along_longer : (state : State) (cs ds : List Command) (x : Contents) → StandsAlong k limits state cs x
      → StandsAlong k limits state (cs ++ ds) x
  along_longer state cs ds x (done, later, is, stands) =
      (done, later ++ ds, ap (λ (l : List Command). l ++ ds) is ∙ append_assoc done later ds, stands)

  along_behind : (state : State) (cs ds : List Command) (x : Contents)
      → StandsAlong k limits (after_all limits state cs) ds x → StandsAlong k limits state (cs ++ ds) x
  along_behind state cs ds x (done, later, is, stands) = (
    cs ++ done,
    later,
    ap (λ (l : List Command). cs ++ l) is ∙ sym (append_assoc cs done later),
    subst (λ (s : State). k.stands limits x s.map) (sym (after_all-append limits state cs done)) stands,
  )

  -- no command yet
  pub done_none : (state : State) (counts : TrialCounts) (store : S) (h : History) (t : Told)
      → k.holds limits store t h state → IsDone k limits state [] counts store h counts store t t
  done_none state counts store h t holds = record {
    leaves = work_none k (StandsAlong k limits state []) store h t
        (λ x is. along_all state [] x (k.each limits store t h state holds x is));
    each_command = at_start (Leaves k.checks (λ x. k.stands limits x state.map) h)
        (k.each limits store t h state holds);
    holds = holds;
    counting = λ seen is. is ∙ ap counts_of (sym (append-nil seen));
  }

  -- one command, or a fault in it
  pub done_one : (state : State) (c : Command) (counts counted : TrialCounts) (before then : S) (h : History)
      (old new : Told) (r : Reply) → WorksFor k limits state c before h (Ok r) then old new
      → ((seen : List Exchange) → counts ≡ counts_of seen → counted ≡ counts_of (seen ++ (c, r) ∷ []))
      → IsDone k limits state (c ∷ []) counts before h counted then old new
  done_one state c counts counted before then h old new r w noted = record {
    leaves = work_weaker k
        (λ x. k.stands limits x state.map ⊎ k.stands limits x (step limits state c).0.map)
        (StandsAlong k limits state (c ∷ [])) before then h old new true (along_one state c) w.leaves;
    each_command = order_one k limits state c h w.leaves.added w.leaves.silent w.leaves.each_moment
        (k.each limits then new (adds_all w.leaves.added h) (step limits state c).0 w.ends.0);
    holds = w.ends.0;
    counting = λ seen is.
        noted seen is
        ∙ ap (λ (l : List Exchange). counts_of (seen ++ l)) (sym (one_exchange limits state c r w.ends.1));
  }

  pub cut_one : (state : State) (c : Command) (before then : S) (h : History) (old new : Told) (fault : Fault)
      → WorksFor k limits state c before h (Err fault) then old new
      → IsCutShort k limits state (c ∷ []) before h then old new
  cut_one state c before then h old new fault w = record {
    done = [];
    later = c ∷ [];
    commands_are = refl;
    leaves = work_weaker k
        (λ x. k.stands limits x state.map ⊎ k.stands limits x (step limits state c).0.map)
        (StandsAlong k limits state (c ∷ [])) before then h old new false (along_one state c) w.leaves;
    each_command = w.leaves.each_moment;
    stays = λ quiet. (w.ends quiet).0;
  }

  module _ (state : State) (cs ds : List Command) (counts mid_counts : TrialCounts) (before mid then : S) (h : History)
      (old between new : Told) (first : IsDone k limits state cs counts before h mid_counts mid old between) where
    abbrev both : (done : Bool)
        → WorkLeaves k (StandsAlong k limits (after_all limits state cs) ds) mid (adds_all first.leaves.added h) then between new done
        → WorkLeaves k (StandsAlong k limits state (cs ++ ds)) before h then old new done
    both done leaves =
        let P = StandsAlong k limits state (cs ++ ds) in
        work_then k P before mid then h old between new done
        (work_weaker k (StandsAlong k limits state cs) P before mid h old between true (along_longer state cs ds) first.leaves)
        (work_weaker k (StandsAlong k limits (after_all limits state cs) ds) P mid then
        (adds_all first.leaves.added h) between new done (along_behind state cs ds) leaves)

    -- the store keeps a state over the history behind both parts
    holds_both : (added : Story) (s t : State) → s ≡ t
        → k.holds limits then new (adds_all added (adds_all first.leaves.added h)) s
        → k.holds limits then new (adds_all (added ++ first.leaves.added) h) t
    holds_both added s t same holds =
        subst (k.holds limits then new (adds_all (added ++ first.leaves.added) h)) same
        (subst (λ (g : History). k.holds limits then new g s) (twice_added added first.leaves.added h) holds)

    -- then more commands
    pub done_then : (counted : TrialCounts)
        → IsDone k limits (after_all limits state cs) ds mid_counts mid (adds_all first.leaves.added h) counted then between new
        → IsDone k limits state (cs ++ ds) counts before h counted then old new
    done_then counted next = record {
      leaves = both true next.leaves;
      each_command = order_then k limits state cs ds [] h first.leaves.added next.leaves.added first.leaves.silent
          first.each_command next.each_command;
      holds = holds_both next.leaves.added (after_all limits (after_all limits state cs) ds)
          (after_all limits state (cs ++ ds)) (sym (after_all-append limits state cs ds)) next.holds;
      counting = λ seen is.
          let earlier = exchanges limits state cs in
          let later = exchanges limits (after_all limits state cs) ds in
          next.counting (seen ++ earlier) (first.counting seen is)
          ∙ ap counts_of (append_assoc seen earlier later)
          ∙ ap (λ (l : List Exchange). counts_of (seen ++ l)) (sym (exchanges-append limits state cs ds));
    }

    -- or a fault in one of them
    pub cut_then : old.write_faults ≤ between.write_faults
        → IsCutShort k limits (after_all limits state cs) ds mid (adds_all first.leaves.added h) then between new
        → IsCutShort k limits state (cs ++ ds) before h then old new
    cut_then le next = record {
      done = cs ++ next.done;
      later = next.later;
      commands_are = ap (λ (l : List Command). cs ++ l) next.commands_are ∙ sym (append_assoc cs next.done next.later);
      leaves = both false next.leaves;
      each_command = order_then k limits state cs next.done next.later h first.leaves.added next.leaves.added
          first.leaves.silent first.each_command next.each_command;
      stays = λ quiet.
          holds_both next.leaves.added (after_all limits (after_all limits state cs) next.done)
          (after_all limits state (cs ++ next.done)) (sym (after_all-append limits state cs next.done))
          (next.stays (unrisen_later old between new le quiet));
    }

  -- and commands that were not begun
  pub cut_longer : (state : State) (cs ds : List Command) (before then : S) (h : History) (old new : Told)
      → IsCutShort k limits state cs before h then old new → IsCutShort k limits state (cs ++ ds) before h then old new
  cut_longer state cs ds before then h old new cut = record {
    done = cut.done;
    later = cut.later ++ ds;
    commands_are = ap (λ (l : List Command). l ++ ds) cut.commands_are ∙ append_assoc cut.done cut.later ds;
    leaves = work_weaker k (StandsAlong k limits state cs) (StandsAlong k limits state (cs ++ ds)) before then h old new false
        (along_longer state cs ds) cut.leaves;
    each_command = order_longer k limits state cut.done cut.later ds h cut.leaves.added cut.each_command;
    stays = cut.stays;
  }
