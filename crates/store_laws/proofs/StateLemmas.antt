-- What the operations make of the writes of each session.
use Rattle.std.proofs.Common.{◌≡◌, ◌≢◌, ℕ, Bool, true, false, List, [], ◌∷◌, Option, Some, None, is_some, refl, sym, ◌∙◌, ap, inl, inr, arith, if◌then◌else◌}
use Rattle.std.specs.Cmp.{nat_cmp_total}
use Rattle.std.specs.FinMap.{get, insert, get-insert, get-remove}
use Rattle.std.specs.Option.{option_map_or}
use Rattle.std.specs.Ordering.{nat_cmp, eq_by_cmp}
use Rattle.std.proofs.lemmas.Bool.{both_ways, cases_eq, cond-true, cond-false, eq-eqb, ne_eqb}
use Rattle.std.proofs.lemmas.Bool.Decides.{nat_tests}
use Rattle.ipl_model.specs.State.{State, Session, Write, is_open_session, writes_of, last_write}
use Rattle.ipl_model.specs.Refusals.{is_new_share}
use Rattle.ipl_model.specs.Operations.{new_session, after_begin, after_share, after_write, after_abort}

-- ---- one session of a state

same : (q k : ℕ) → q ≡ k → eq_by_cmp nat_cmp q k ≡ true
same q k is = grind (arith, nat_tests)

other : (q k : ℕ) → q ≢ k → eq_by_cmp nat_cmp q k ≡ false
other q k is = grind (arith, nat_tests)

put_here : (state : State) (s t : ℕ) (session : Session) → t ≡ s
    → get (insert state.sessions s session) t ≡ Some session
put_here state s t session is =
    get-insert nat_cmp_total state.sessions s session t
    ∙ cond-true _ (Some session) (get state.sessions t) (same t s is)

put_other : (state : State) (s t : ℕ) (session : Session) → t ≢ s
    → get (insert state.sessions s session) t ≡ get state.sessions t
put_other state s t session apart =
    get-insert nat_cmp_total state.sessions s session t
    ∙ cond-false _ (Some session) (get state.sessions t) (other t s apart)

abbrev pub writes_in : Option Session → List Write
writes_in o = option_map_or (λ session. session.writes) o []

-- ---- a session that is opened

pub begun_here : (state : State) (s t : ℕ) → t ≡ s → get (after_begin state s).sessions t ≡ Some new_session
begun_here state s t is = put_here state s t new_session is

pub begun_other : (state : State) (s t : ℕ) → t ≢ s → get (after_begin state s).sessions t ≡ get state.sessions t
begun_other state s t apart = put_other state s t new_session apart

-- ---- a write

-- the state after it, where this is the session
abbrev writing : State → ℕ → Write → Option Session → State
writing state s w o = option_map_or
    (λ session. record state { sessions = insert state.sessions s (record session { writes = w ∷ session.writes }) })
    o state

pub wrote_here : (state : State) (s : ℕ) (w : Write) → is_open_session state s ≡ true
    → (is_open_session (after_write state s w) s ≡ true) × (writes_of (after_write state s w) s ≡ w ∷ writes_of state s)
wrote_here state s w running = by_session (get state.sessions s) refl
  where
    by_session : (o : Option Session) → get state.sessions s ≡ o
        → (is_open_session (writing state s w o) s ≡ true) × (writes_of (writing state s w o) s ≡ w ∷ writes_of state s)
    by_session None is = absurd (both_ways (is_open_session state s) (ap is_some is) running)
    by_session (Some session) is =
        let now = put_here state s s (record session { writes = w ∷ session.writes }) refl in
        (ap is_some now, ap writes_in now ∙ ap (λ (ws : List Write). w ∷ ws) (sym (ap writes_in is)))

pub wrote_other : (state : State) (s t : ℕ) (w : Write) → t ≢ s
    → get (after_write state s w).sessions t ≡ get state.sessions t
wrote_other state s t w apart = by_session (get state.sessions s)
  where
    by_session : (o : Option Session) → get (writing state s w o).sessions t ≡ get state.sessions t
    by_session None = refl
    by_session (Some session) = put_other state s t (record session { writes = w ∷ session.writes }) apart

-- ---- a session shares a name

-- the state after it, where this is the session
abbrev sharing : State → ℕ → ℕ → Option Session → State
sharing state s n o = option_map_or
    (λ session. record state { sessions = insert state.sessions s (record session { shared = n ∷ session.shared }) })
    o state

-- a session has the same writes, and is open or not as before
abbrev WritesStay : State → State → ℕ → Type 0
WritesStay state later t = (writes_of later t ≡ writes_of state t) × (is_open_session later t ≡ is_open_session state t)

pub shared_same : (state : State) (s n t : ℕ) → WritesStay state (after_share state s n) t
shared_same state s n t = by_test (is_new_share state s n)
  where
    by_session : (o : Option Session) → get state.sessions s ≡ o → WritesStay state (sharing state s n o) t
    by_session None is = (refl, refl)
    by_session (Some session) is = elim (cases_eq t s) [
      | inl here ↦
          let now = put_here state s t (record session { shared = n ∷ session.shared }) here in
          let before : get state.sessions t ≡ Some session = ap (get state.sessions) here ∙ is in
          (ap writes_in now ∙ sym (ap writes_in before), ap is_some now ∙ sym (ap is_some before))
      | inr apart ↦
          let now = put_other state s t (record session { shared = n ∷ session.shared }) apart in
          (ap writes_in now, ap is_some now)
    ]

    by_test : (b : Bool) → WritesStay state (if b then sharing state s n (get state.sessions s) else state) t
    by_test true = by_session (get state.sessions s) refl
    by_test false = (refl, refl)

-- ---- a session that is closed

pub closed_here : (state : State) (s t : ℕ) → t ≡ s → get (after_abort state s).sessions t ≡ None
closed_here state s t is =
    get-remove nat_cmp_total state.sessions s t ∙ cond-true _ None (get state.sessions t) (same t s is)

pub closed_other : (state : State) (s t : ℕ) → t ≢ s → get (after_abort state s).sessions t ≡ get state.sessions t
closed_other state s t apart =
    get-remove nat_cmp_total state.sessions s t ∙ cond-false _ None (get state.sessions t) (other t s apart)

-- what another session wrote last
pub closed_last : (state : State) (s t n : ℕ) → t ≢ s
    → last_write (writes_of state t) n ≡ last_write (writes_of (after_abort state s) t) n
closed_last state s t n apart = sym (ap (λ o. last_write (writes_in o) n) (closed_other state s t apart))

-- what wasn't written isn't
pub closed_nowhere : (state : State) (s t n : ℕ) → last_write (writes_of state t) n ≡ None
    → last_write (writes_of (after_abort state s) t) n ≡ None
closed_nowhere state s t n none = elim (cases_eq t s) [
  | inl is ↦ ap (λ o. last_write (writes_in o) n) (closed_here state s t is)
  | inr apart ↦ sym (closed_last state s t n apart) ∙ none
]

-- ---- last writes

pub last_here : (w : Write) (older : List Write) (n : ℕ) → w.0 ≡ n → last_write (w ∷ older) n ≡ Some w.1
last_here w older n is = cond-true _ (Some w.1) (last_write older n) (eq-eqb w.0 n is)

pub last_before : (w : Write) (older : List Write) (n : ℕ) → w.0 ≢ n → last_write (w ∷ older) n ≡ last_write older n
last_before w older n is = cond-false _ (Some w.1) (last_write older n) (ne_eqb w.0 n is)
