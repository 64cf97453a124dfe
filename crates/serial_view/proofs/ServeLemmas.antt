-- What the turns of the sessions do beside others, and what was committed before: the relation that each command keeps.
use Rattle.std.proofs.Common.{◌≡◌, inl, ℕ, zero, suc, Bool, false, List, ◌++◌, map, Some, refl, sym, ◌∙◌, ap, subst}
use Rattle.std.specs.List.{list_any}
use Rattle.std.specs.FinMap.{get}
use Rattle.std.proofs.lemmas.Bool.{and_left, or_parts}
use Rattle.std.proofs.lemmas.List.{map-append}
use Rattle.std.proofs.lemmas.List.Folds.{list_any-append}
use Rattle.ipl_model.specs.State.{Map, Session, State, Limits, at_rest}
use Rattle.ipl_model.specs.FillLaws.{UnitsFit}
use Rattle.ipl_model.specs.declared.command.Command.{Command}
use Rattle.ipl_model.specs.declared.reply.Reply.{Reply}
use Rattle.ipl_model.specs.Run.{after_all}
use Rattle.ipl_model.proofs.RunLemmas.{after_all-append}
use Rattle.serial_view.specs.Serial.{command_at, met_at, is_accepted, turns}
use Rattle.serial_view.specs.Laws.{picked, replies, reply_at, is_unlocked}
use Rattle.serial_view.proofs.SessionLemmas.{with_session, none_open}
use Rattle.serial_view.proofs.BesideLemmas.{Beside}
use Rattle.serial_view.proofs.BoundLemmas.{Sole, Filled, none_sole, none_heavy, none_filled}
use Rattle.serial_view.proofs.LockLemmas.{Locked, none_locked, Agree}
use Rattle.serial_view.proofs.TurnLemmas.{turns_same, serial_until, serial_same}
use Rattle.serial_view.proofs.MetLemmas.{met_refused}
use Rattle.serial_view.proofs.ReplyLemmas.{replies-append}

module _ (limits : Limits) (m : Map) (commands : List Command) where
  -- the turns of a session before a position, and the view of what was committed before it
  abbrev pub mine : ℕ → ℕ → List ℕ
  mine s k = turns limits m commands s k

  abbrev pub view : ℕ → List ℕ
  view k = serial_until limits m commands k

  -- none of these gets a name that its session neither wrote nor shared
  abbrev pub any_unlocked : List ℕ → Bool
  any_unlocked positions = list_any (is_unlocked limits m commands) positions

  -- what these leave of a state, their replies by themselves, and those in the whole run
  abbrev pub run : State → List ℕ → State
  run state positions = after_all limits state (picked commands positions)

  abbrev pub heard : State → List ℕ → List (List Reply)
  heard state positions = replies limits state (picked commands positions)

  abbrev pub told : List ℕ → List (List Reply)
  told positions = map (reply_at limits m commands) positions

  pub run-append : (state : State) (a b : List ℕ) → run state (a ++ b) ≡ run (run state a) b
  run-append state a b =
      ap (after_all limits state) (map-append (command_at commands) a b)
      ∙ after_all-append limits state (picked commands a) (picked commands b)

  pub heard-append : (state : State) (a b : List ℕ) → heard state (a ++ b) ≡ heard state a ++ heard (run state a) b
  heard-append state a b =
      ap (replies limits state) (map-append (command_at commands) a b)
      ∙ replies-append limits state (picked commands a) (picked commands b)

  pub locked_parts : (a b : List ℕ) → any_unlocked (a ++ b) ≡ false
      → (any_unlocked a ≡ false) × (any_unlocked b ≡ false)
  locked_parts a b locks = or_parts _ _ (sym (list_any-append (is_unlocked limits m commands) a b) ∙ locks)

  -- replies of one part after another are those of the whole run, where those of each part are
  pub joined : (state : State) (a b : List ℕ) → heard state a ≡ told a → heard (run state a) b ≡ told b
      → heard state (a ++ b) ≡ told (a ++ b)
  joined state a b first second =
      heard-append state a b
      ∙ ap (λ (l : List (List Reply)). l ++ heard (run state a) b) first
      ∙ ap (λ (l : List (List Reply)). told a ++ l) second
      ∙ sym (map-append (reply_at limits m commands) a b)

  -- Of a state with turns of its sessions, and what was committed before: each open session's turns, run beside any
  -- sessions that it may stand beside, leave it. They have the replies of the whole run over records that agree, and so
  -- does what was committed.
  pub record Serves (state : State) (turn : ℕ → List ℕ) (done : List ℕ) : Type 0 where
    pub locked : Locked state.sessions
    pub sole : Sole state.sessions
    pub light : UnitsFit state
    pub filled : Filled state
    pub runs : (s : ℕ) (x : Session) → get state.sessions s ≡ Some x → (B : State) → Beside B s x
        → run B (turn s) ≡ with_session B s x
    pub says : (s : ℕ) (x : Session) → get state.sessions s ≡ Some x → any_unlocked (turn s) ≡ false
        → (B : State) → Beside B s x → Agree x B.map state.map → heard B (turn s) ≡ told (turn s)
    pub all_runs : run (at_rest m) done ≡ at_rest state.map
    pub all_says : any_unlocked done ≡ false → heard (at_rest m) done ≡ told done

  abbrev pub at : ℕ → Type 0
  at k = Serves (met_at limits m commands k) (λ s. mine s k) (view k)

  pub start : at zero
  start = record {
    locked = none_locked;
    sole = none_sole;
    light = none_heavy m;
    filled = none_filled m;
    runs = λ s x found. absurd (none_open s x found);
    says = λ s x found. absurd (none_open s x found);
    all_runs = refl;
    all_says = λ e. refl;
  }

  pub same : (state next : State) (turn turn' : ℕ → List ℕ) (done done' : List ℕ)
      → next ≡ state → ((s : ℕ) → turn' s ≡ turn s) → done' ≡ done
      → Serves state turn done → Serves next turn' done'
  same state next turn turn' done done' e f g old = record {
    locked = subst (λ (st : State). Locked st.sessions) (sym e) old.locked;
    sole = subst (λ (st : State). Sole st.sessions) (sym e) old.sole;
    light = subst UnitsFit (sym e) old.light;
    filled = subst Filled (sym e) old.filled;
    runs = λ s x found B free. ap (run B) (f s) ∙ old.runs s x (was s x found) B free;
    says = λ s x found locks B free agree.
        ap (heard B) (f s)
        ∙ old.says s x (was s x found) (ap any_unlocked (sym (f s)) ∙ locks) B free
        (subst (λ (st : State). Agree x B.map st.map) e agree)
        ∙ ap told (sym (f s));
    all_runs = ap (run (at_rest m)) g ∙ old.all_runs ∙ ap (λ (st : State). at_rest st.map) (sym e);
    all_says = λ locks.
        ap (heard (at_rest m)) g ∙ old.all_says (ap any_unlocked (sym g) ∙ locks) ∙ ap told (sym g);
  }
    where
      was : (s : ℕ) (x : Session) → get next.sessions s ≡ Some x → get state.sessions s ≡ Some x
      was s x found = ap (λ (st : State). get st.sessions s) (sym e) ∙ found

  -- a command that is refused
  pub refused : (k : ℕ) → is_accepted limits m commands k ≡ false → at k → at (suc k)
  refused k not_ok old =
      same _ _ _ _ _ _ (met_refused limits m commands k not_ok)
      (λ s. turns_same limits m commands s k (and_left _ _ not_ok))
      (serial_same limits m commands k (inl not_ok)) old
