-- The events of commands in order, one part after another.
use Rattle.std.proofs.Common.{◌≡◌, inl, ℕ, List, [], ◌∷◌, ◌++◌, refl, sym, ◌∙◌, ap, subst, append_assoc}
use Rattle.std.proofs.lemmas.List.{append-nil}
use Rattle.ipl_model.specs.State.{State, Limits}
use Rattle.ipl_model.specs.declared.command.Command.{Command}
use Rattle.ipl_model.specs.Step.{step}
use Rattle.ipl_model.specs.Run.{after_all}
use Rattle.chip_trait.specs.Story.{Story, Contents, pieces}
use Rattle.chip_trait.specs.Moment.{AtEachMoment, Leaves}
use Rattle.chip_trait.specs.Told.{History, adds_all}
use Rattle.chip_trait.proofs.MomentLemmas.{at_start, at_weaker, at_both}
use Rattle.chip_trait.proofs.SaidLemmas.{pieces-append}
use Rattle.store_trait.specs.Keeping.{Keeping}
use Rattle.script_run.proofs.RunLemmas.{twice_added, regrouped}
use Rattle.script_run.specs.Trial.{StandsNext, CommandByCommand}

-- where all is silent, so is what came later
silent_later : (later earlier : Story) → pieces (later ++ earlier) ≡ [] → pieces earlier ≡ [] → pieces later ≡ []
silent_later later earlier all first =
    sym (ap (λ (l : List (List ℕ)). l ++ pieces later) first) ∙ sym (pieces-append later earlier) ∙ all

both_silent : (later earlier : Story) → pieces later ≡ [] → pieces earlier ≡ [] → pieces (later ++ earlier) ≡ []
both_silent later earlier second first =
    pieces-append later earlier ∙ ap (λ (l : List (List ℕ)). l ++ pieces later) first ∙ second

module _ {S : Type 0} (k : Keeping S) (limits : Limits) where
  -- these events leave contents with P
  abbrev Each : (Contents → Type 0) → History → Story → Type 0
  Each P h added = AtEachMoment (Leaves k.checks P h) added

  each_weaker : (P Q : Contents → Type 0) (h : History) (added : Story) → ((x : Contents) → P x → Q x)
      → Each P h added → Each Q h added
  each_weaker P Q h added f each =
      at_weaker (Leaves k.checks P h) (Leaves k.checks Q h) added (λ e leaves x is. f x (leaves x is)) each

  each_both : (P : Contents → Type 0) (h : History) (later earlier : Story) → Each P h earlier
      → Each P (adds_all earlier h) later → Each P h (later ++ earlier)
  each_both P h later earlier first second =
      at_both (Leaves k.checks P h) later earlier first
      (λ more f split x is. second more f split x (regrouped k.checks h f earlier x is))

  -- before the next command
  before_next : (state : State) (later : List Command) (x : Contents) → k.stands limits x state.map
      → StandsNext k limits state later x
  before_next state [] x stands = stands
  before_next state (c ∷ later) x stands = inl stands

  next_longer : (state : State) (later ds : List Command) (x : Contents) → StandsNext k limits state later x
      → StandsNext k limits state (later ++ ds) x
  next_longer state [] ds x stands = before_next state ds x stands
  next_longer state (c ∷ later) ds x stands = stands

  -- behind events that leave the records as they are
  order_before : (state : State) (ds later : List Command) (h : History) (earlier added : Story)
      → Each (λ x. k.stands limits x state.map) h earlier → pieces earlier ≡ []
      → CommandByCommand k limits state ds later (adds_all earlier h) added
      → CommandByCommand k limits state ds later h (added ++ earlier)
  order_before state [] later h earlier added each silent order =
      let P = StandsNext k limits state later in
      each_both P h added earlier
      (each_weaker (λ x. k.stands limits x state.map) P h earlier (before_next state later) each) order
  order_before state (d ∷ ds) later h earlier added each silent (part, rest, is, quiet, moments, order) =
      let P = StandsNext k limits state (d ∷ []) in (
        part ++ earlier,
        rest,
        ap (λ (l : Story). l ++ earlier) is ∙ append_assoc rest part earlier,
        both_silent part earlier quiet silent,
        each_both P h part earlier
            (each_weaker (λ x. k.stands limits x state.map) P h earlier (before_next state (d ∷ [])) each) moments,
        subst (λ (g : History). CommandByCommand k limits (step limits state d).0 ds later g rest) (twice_added part earlier h)
            order,
      )

  -- more commands behind all of the first ones
  pub order_then : (state : State) (cs ds later : List Command) (h : History) (earlier added : Story)
      → pieces earlier ≡ [] → CommandByCommand k limits state cs [] h earlier
      → CommandByCommand k limits (after_all limits state cs) ds later (adds_all earlier h) added
      → CommandByCommand k limits state (cs ++ ds) later h (added ++ earlier)
  order_then state [] ds later h earlier added silent first second =
      order_before state ds later h earlier added first silent second
  order_then state (c ∷ cs) ds later h earlier added silent (part, rest, is, quiet, moments, order) second =
      let next = (step limits state c).0 in (
        part,
        added ++ rest,
        ap (λ (l : Story). added ++ l) is ∙ sym (append_assoc added rest part),
        quiet,
        moments,
        order_then next cs ds later (adds_all part h) rest added
            (silent_later rest part (ap pieces (sym is) ∙ silent) quiet) order
            (subst (λ (g : History). CommandByCommand k limits (after_all limits next cs) ds later g added)
            (ap (λ (l : Story). adds_all l h) is ∙ sym (twice_added rest part h)) second),
      )

  -- commands that were not begun
  pub order_longer : (state : State) (done later ds : List Command) (h : History) (added : Story)
      → CommandByCommand k limits state done later h added → CommandByCommand k limits state done (later ++ ds) h added
  order_longer state [] later ds h added order =
      each_weaker (StandsNext k limits state later) (StandsNext k limits state (later ++ ds)) h added
      (next_longer state later ds) order
  order_longer state (c ∷ done) later ds h added (part, rest, is, quiet, moments, order) =
      (part, rest, is, quiet, moments, order_longer (step limits state c).0 done later ds (adds_all part h) rest order)

  -- one command, where what is left behind it stands for the records after it
  pub order_one : (state : State) (c : Command) (h : History) (added : Story) → pieces added ≡ []
      → Each (StandsNext k limits state (c ∷ [])) h added
      → Leaves k.checks (λ x. k.stands limits x (step limits state c).0.map) (adds_all added h) []
      → CommandByCommand k limits state (c ∷ []) [] h added
  order_one state c h added silent each here = (
    added,
    [],
    refl,
    silent,
    each,
    at_start (Leaves k.checks (λ x. k.stands limits x (step limits state c).0.map) (adds_all added h)) here,
  )

  -- then events that leave the records as they are
  pub order_stay : (state : State) (cs : List Command) (h : History) (earlier added : Story) → pieces earlier ≡ []
      → CommandByCommand k limits state cs [] h earlier
      → Each (λ x. k.stands limits x (after_all limits state cs).map) (adds_all earlier h) added
      → CommandByCommand k limits state cs [] h (added ++ earlier)
  order_stay state cs h earlier added silent order each =
      subst (λ (l : List Command). CommandByCommand k limits state l [] h (added ++ earlier)) (append-nil cs)
      (order_then state cs [] [] h earlier added silent order each)
