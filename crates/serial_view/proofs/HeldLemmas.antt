-- The names that a session holds are those that its commands wrote or shared since it began.
use Rattle.std.proofs.Common.{◌≡◌, ◌⊎◌, inl, inr, ℕ, zero, suc, ◌==◌, Bool, true, false, cond, not, ◌&&◌, ◌||◌, List, [], ◌∷◌, Option, Some, None, refl, sym, ◌∙◌, ap, subst}
use Rattle.std.specs.Prelude.{is_some}
use Rattle.std.specs.List.{list_any}
use Rattle.std.specs.FinMap.{get}
use Rattle.std.proofs.lemmas.Bool.{cases_Bool, and_left, eqb-true}
use Rattle.std.proofs.lemmas.List.Folds.{list_any-append}
use Rattle.ipl_model.specs.State.{Map, Session, State, Limits, last_write, has_written, has_shared}
use Rattle.ipl_model.specs.Refusals.{bad_session, bad_name, not_open}
use Rattle.ipl_model.specs.declared.command.Command.{Command}
use Rattle.ipl_model.specs.declared.command.Command.TheVariants as command
use Rattle.ipl_model.specs.Step.{refusal_of, accepted}
use Rattle.serial_view.specs.Serial.{command_at, met_at, is_accepted, turns}
use Rattle.serial_view.specs.Laws.{holds_name, reads_unlocked, is_unlocked}
use Rattle.serial_view.proofs.SessionLemmas.{shared_too, is_unheld_in, none_open}
use Rattle.serial_view.proofs.TestLemmas.{worker, all_fail}
use Rattle.serial_view.proofs.StepLemmas.{changed}
use Rattle.serial_view.proofs.SessionStepLemmas.{After, how, worker_commits}
use Rattle.serial_view.proofs.TurnLemmas.{turn_is, begins_is, turns_begun, turns_on, turns_same}
use Rattle.serial_view.proofs.MetLemmas.{met_accepted, met_refused, passes}

-- a session holds a name
abbrev held : Session → ℕ → Bool
held x n = has_written x n || has_shared x n

-- ---- what a command adds to it

nothing_more : (a : Bool) → a ≡ (a || (false || false))
nothing_more true = refl
nothing_more false = refl

written_more : (t a b : Bool) (change : Option (List ℕ)) (o : Option (Option (List ℕ))) → is_some o ≡ a
    → (is_some (cond t (Some change) o) || b) ≡ ((a || b) || (t || false))
written_more true a b change o e = sym (over (a || b))
  where
    over : (c : Bool) → (c || (true || false)) ≡ true
    over true = refl
    over false = refl
written_more false a b change o e = ap (λ (c : Bool). c || b) e ∙ nothing_more (a || b)

shared_more : (t a b : Bool) → (a || (t || b)) ≡ ((a || b) || (t || false))
shared_more t true b = refl
shared_more true false true = refl
shared_more true false false = refl
shared_more false false true = refl
shared_more false false false = refl

-- a name that it held already
held_again : (x : Session) (m n : ℕ) → held x m ≡ true → held x n ≡ (held x n || ((m == n) || false))
held_again x m n holds = by_name (cases_Bool (m == n))
  where
    over : (a b : Bool) → a ≡ true → a ≡ (a || b)
    over true b e = refl
    over false b e = absurd (cc)

    by_name : ((m == n) ≡ true) ⊎ ((m == n) ≡ false) → held x n ≡ (held x n || ((m == n) || false))
    by_name (inl same) = over (held x n) ((m == n) || false) (ap (held x) (sym (eqb-true m n same)) ∙ holds)
    by_name (inr other) = nothing_more (held x n) ∙ ap (λ (t : Bool). held x n || (t || false)) (sym other)

-- what a session holds after one of its commands
held_then : (c : Command) (x : Session) (s n : ℕ) → worker c ≡ Some s
    → held (changed c x) n ≡ (held x n || (holds_name n c || false))
held_then (command.Get t m) x s n e = nothing_more (held x n)
held_then (command.Put t m bytes) x s n e =
    written_more (m == n) (has_written x n) (has_shared x n) (Some bytes) (last_write x.writes n) refl
held_then (command.Del t m) x s n e =
    written_more (m == n) (has_written x n) (has_shared x n) None (last_write x.writes n) refl
held_then (command.Share t m) x s n e = go (has_written x m) (has_shared x m) refl refl
  where
    or_true : (a : Bool) → (a || true) ≡ true
    or_true true = refl
    or_true false = refl

    go : (w h : Bool) → has_written x m ≡ w → has_shared x m ≡ h
        → held (cond (not w && not h) (shared_too x m) x) n ≡ (held x n || ((m == n) || false))
    go true h wrote shares = held_again x m n (ap (λ (b : Bool). b || has_shared x m) wrote)
    go false true wrote shares =
        held_again x m n (ap (λ (b : Bool). has_written x m || b) shares ∙ or_true (has_written x m))
    go false false wrote shares = shared_more (m == n) (has_written x n) (has_shared x n)
held_then other x s n e = absurd (cc)

-- ---- over the turns of a session

module _ (limits : Limits) (m : Map) (commands : List Command) (n : ℕ) where
  abbrev c : ℕ → Command
  c k = command_at commands k

  abbrev met : ℕ → State
  met k = met_at limits m commands k

  -- one of these writes or shares the name
  abbrev any_held : List ℕ → Bool
  any_held positions = list_any (λ j. holds_name n (c j)) positions

  -- what the turns of the sessions hold at a position is what the sessions hold
  abbrev HoldsAt : ℕ → ℕ → Type 0
  HoldsAt s k = (x : Session) → get (met k).sessions s ≡ Some x → any_held (turns limits m commands s k) ≡ held x n

  holds_on : (k s : ℕ) → is_accepted limits m commands k ≡ true → HoldsAt s k → HoldsAt s (suc k)
  holds_on k s ok earlier x found = go (how (met k) (c k) s x found_now)
    where
      found_now : get (accepted (met k) (c k)).0.sessions s ≡ Some x
      found_now = ap (λ (state : State). get state.sessions s) (sym (met_accepted limits m commands k ok)) ∙ found

      go : After (met k) (c k) s x → any_held (turns limits m commands s (suc k)) ≡ held x n
      go (inl a) =
          ap any_held (turns_same limits m commands s k (turn_is limits m commands s k false ok a.1)) ∙ earlier x a.0
      go (inr (inl b)) =
          ap any_held (turns_begun limits m commands s k (begins_is limits m commands s k ok b.0))
          ∙ ap (λ (d : Command). holds_name n d || false) b.0 ∙ ap (λ (y : Session). held y n) (sym b.1)
      go (inr (inr w)) =
          let facts = worker_commits (c k) s w.2 in
          ap any_held (turns_on limits m commands s k facts.1 (turn_is limits m commands s k true ok facts.2))
          ∙ list_any-append (λ j. holds_name n (c j)) (turns limits m commands s k) (k ∷ [])
          ∙ ap (λ (b : Bool). b || (holds_name n (c k) || false)) (earlier w.0 w.1)
          ∙ sym (held_then (c k) w.0 s n w.2) ∙ ap (λ (y : Session). held y n) (sym w.3)

  held_by_turns : (k s : ℕ) → HoldsAt s k
  held_by_turns zero s x found = absurd (none_open s x found)
  held_by_turns (suc k) s x found = go (cases_Bool (is_accepted limits m commands k)) (held_by_turns k s)
    where
      go : (is_accepted limits m commands k ≡ true) ⊎ (is_accepted limits m commands k ≡ false) → HoldsAt s k
          → any_held (turns limits m commands s (suc k)) ≡ held x n
      go (inr not_ok) earlier =
          let same = met_refused limits m commands k not_ok in
          ap any_held (turns_same limits m commands s k (and_left _ _ not_ok))
          ∙ earlier x (ap (λ (state : State). get state.sessions s) (sym same) ∙ found)
      go (inl ok) earlier = holds_on k s ok earlier x found

  de_morgan : (a b : Bool) → (not a && not b) ≡ not (a || b)
  de_morgan true b = refl
  de_morgan false b = refl

  pub unlocked_gets : (k s : ℕ) → is_accepted limits m commands k ≡ true → c k ≡ command.Get s n
      → is_unlocked limits m commands k ≡ not (any_held (turns limits m commands s k))
  unlocked_gets k s ok is = go (get (met k).sessions s) refl
    where
      is_open : not (is_some (get (met k).sessions s)) ≡ false
      is_open =
          (all_fail (bad_session limits s ∷ bad_name limits n ∷ not_open (met k) s ∷ [])
          (subst (λ (d : Command). refusal_of limits (met k) d ≡ None) is (passes limits m commands k ok))).1.1.0

      go : (o : Option Session) → get (met k).sessions s ≡ o
          → is_unlocked limits m commands k ≡ not (any_held (turns limits m commands s k))
      go None none =
          let shut : not (is_some (get (met k).sessions s)) ≡ true =
          ap (λ (o : Option Session). not (is_some o)) none in
          let open_is = is_open in
          absurd (cc)
      go (Some x) found =
          ap (reads_unlocked (met k)) is
          ∙ ap (λ (o : Option Session). is_unheld_in o n) found
          ∙ de_morgan (has_written x n) (has_shared x n) ∙ ap not (sym (held_by_turns k s x found))
