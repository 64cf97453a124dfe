-- What is kept before the first command, and after all sessions are closed.
use Rattle.std.proofs.Common.{◌≡◌, inl, inr, ℕ, zero, suc, ◌*◌, ◌<◌, ◌≤◌, Bool, true, false, cond, List, [], length, replicate, Option, Some, None, refl, sym, ◌∙◌, ap, subst, arith}
use Rattle.std.specs.Prelude.{slice_index}
use Rattle.std.specs.Cmp.{nat_cmp_total}
use Rattle.std.specs.FinMap.{get, empty, remove, get-empty, get-remove, same_map, nat_cmp-IsAntisymmetric}
use Rattle.std.specs.Option.{option_map}
use Rattle.std.specs.Ordering.{nat_cmp, eq_by_cmp}
use Rattle.std.proofs.lemmas.Bool.{cases_lt}
use Rattle.std.proofs.lemmas.Bool.Decides.{nat_tests}
use Rattle.std.proofs.lemmas.List.{get_or_past, get_or-replicate, length-replicate}
use Rattle.ipl_base.specs.Sizes.{size_in_page}
use Rattle.ipl_base.specs.declared.limits.TheConstants.{UNIT_NAMES}
use Rattle.ipl_model.specs.State.{Map, Write, Session, State, Limits, at_rest, last_write, writes_of}
use Rattle.ipl_model.specs.Peaks.{peaks_of}
use Rattle.ipl_model.specs.Operations.{after_abort, after_restart}
use Rattle.ipl_model.specs.Plain.{limits_for, writes_in}
use Rattle.record_locks.specs.Held.{Held, held_at, slot_peaks}
use Rattle.record_locks.specs.Names.{names_of}
use Rattle.record_locks.specs.Standing.{slot_of}
use Rattle.record_locks.proofs.StandingLemmas.{session_at}
use Rattle.serial_view.specs.Running.{KeptRun, Tracks}
use Rattle.serial_view.proofs.SessionLemmas.{Sessions}
use Rattle.serial_view.proofs.MostLemmas.{all_most}

-- ---- before the first command

none_held : (k q : ℕ) → held_at (replicate {A = Option Held} k None) q ≡ None
none_held zero q = refl
none_held (suc k) zero = refl
none_held (suc k) (suc q) = none_held k q

nothing_written : (m : Map) (t : ℕ) → writes_of (at_rest m) t ≡ []
nothing_written m t = ap writes_in (get-empty nat_cmp t)

-- no session is open, and no name is written
abbrev pub first_run : ℕ → ℕ → List ℕ → KeptRun
first_run sessions units records = record {
  units = units;
  slots = replicate sessions None;
  records = records;
  last = replicate (UNIT_NAMES * units) 0;
  most = replicate (UNIT_NAMES * units) 0;
}

pub tracks_first : (sessions units : ℕ) (records : List ℕ) (m : Map) → length records ≡ UNIT_NAMES * units
    → ((n : ℕ) → n < UNIT_NAMES * units → slice_index records n ≡ size_in_page (get m n))
    → Tracks (at_rest m) (first_run sessions units records)
tracks_first sessions units records m long sizes = record {
  names = λ q.
      ap (option_map names_of) (session_at (replicate sessions None) q ∙ ap slot_of (none_held sessions q)
      ∙ sym (get-empty nat_cmp q));
  peaks = λ q n.
      ap (λ (o : Option Held). slot_peaks o n) (none_held sessions q)
      ∙ sym (ap (λ (ws : List Write). peaks_of ws n) (nothing_written m q));
  places = (long, length-replicate (UNIT_NAMES * units) 0, length-replicate (UNIT_NAMES * units) 0);
  records = sizes;
  last = λ t n change low is.
      absurd (let clash = sym (ap (λ (ws : List Write). last_write ws n) (nothing_written m t)) ∙ is in cc clash);
  most = λ n low.
      let least = all_most (at_rest m) n 0 (λ t.
      let none = ap (λ (ws : List Write). peaks_of ws n) (nothing_written m t) in omega (arith, none)) in
      let zero = get_or-replicate {A = ℕ} (UNIT_NAMES * units) n 0 0 low in
      omega (arith, least, zero);
}

-- as it is made: of so many sessions, and of so many units as the limits that the model has
pub tracks_new : (state : State) (limits : Limits) (run : KeptRun) (sessions units names : ℕ)
    → run.units ≡ units → names ≡ UNIT_NAMES * run.units
    → limits ≡ limits_for units → state ≡ at_rest state.map → run.slots ≡ replicate sessions None
    → length run.records ≡ limits.names
    → ((n : ℕ) → n < limits.names → slice_index run.records n ≡ size_in_page (get state.map n))
    → run.last ≡ replicate names 0 → run.most ≡ replicate names 0 → Tracks state run
tracks_new state limits run sessions units names of_units all are rest slots long sizes last most =
    subst (λ (st : State). Tracks st run) (sym rest)
    (subst (Tracks (at_rest state.map)) (sym is)
    (tracks_first sessions run.units run.records state.map (long ∙ ap (λ (l : Limits). l.names) same)
    (λ n low. sizes n (omega (arith, low, ap (λ (l : Limits). l.names) same)))))
  where
    same : limits ≡ limits_for run.units
    same = are ∙ ap limits_for (sym of_units)

    is : run ≡ first_run sessions run.units run.records
    is = λ i. record {
      units = run.units;
      slots = slots i;
      records = run.records;
      last = (last ∙ ap (λ (k : ℕ). replicate {A = ℕ} k 0) all) i;
      most = (most ∙ ap (λ (k : ℕ). replicate {A = ℕ} k 0) all) i;
    }

-- ---- after all sessions are closed

-- the state with the sessions below k closed
abbrev pub closed_below : State → ℕ → State
closed_below state zero = state
closed_below state (suc k) = after_abort (closed_below state k) k

-- a session that is closed, or above the slots
removed : (f : Sessions) (k q : ℕ) (b : Bool) → eq_by_cmp nat_cmp q k ≡ b → (b ≡ false → get f q ≡ None)
    → get (remove f k) q ≡ None
removed f k q true is none =
    get-remove nat_cmp_total f k q ∙ ap (λ (t : Bool). cond t None (get f q)) is
removed f k q false is none =
    get-remove nat_cmp_total f k q ∙ ap (λ (t : Bool). cond t None (get f q)) is ∙ none refl

apart : (q k : ℕ) → eq_by_cmp nat_cmp q k ≡ false → q < suc k → q < k
apart q k is low = grind (arith, nat_tests)

none_below : (state : State) (k q : ℕ) → q < k → get (closed_below state k).sessions q ≡ None
none_below state zero q low = absurd (omega (arith, low))
none_below state (suc k) q low =
    removed (closed_below state k).sessions k q (eq_by_cmp nat_cmp q k) refl
    (λ is. none_below state k q (apart q k is low))

none_still : (state : State) (k q : ℕ) → get state.sessions q ≡ None → get (closed_below state k).sessions q ≡ None
none_still state zero q none = none
none_still state (suc k) q none =
    removed (closed_below state k).sessions k q (eq_by_cmp nat_cmp q k) refl (λ is. none_still state k q none)

records_still : (state : State) (k : ℕ) → (closed_below state k).map ≡ state.map
records_still state zero = refl
records_still state (suc k) = records_still state k

-- the slots have all sessions
none_past : (state : State) (run : KeptRun) → Tracks state run → (q : ℕ) → length run.slots ≤ q
    → get state.sessions q ≡ None
none_past state run tracks q past =
    by_session (get state.sessions q) (sym (tracks.names q) ∙ ap (option_map names_of) (session_at run.slots q
    ∙ ap slot_of (get_or_past run.slots q None past)))
  where
    by_session : (o : Option Session) → option_map names_of o ≡ None → o ≡ None
    by_session None is = refl
    by_session (Some x) is = absurd (cc)

pub all_closed : (state : State) (run : KeptRun) → Tracks state run → (k : ℕ) → length run.slots ≤ k
    → closed_below state k ≡ after_restart state
all_closed state run tracks k enough = λ i. record {
  map = records_still state k i;
  sessions = same_map nat_cmp_total nat_cmp-IsAntisymmetric (closed_below state k).sessions empty none i;
}
  where
    none : (q : ℕ) → get (closed_below state k).sessions q ≡ get (empty {X = Session} {R = nat_cmp}) q
    none q = elim (cases_lt q k) [
      | inl low ↦ none_below state k q low ∙ sym (get-empty nat_cmp q)
      | inr high ↦
          none_still state k q (none_past state run tracks q (omega (arith, high, enough)))
          ∙ sym (get-empty nat_cmp q)
    ]
