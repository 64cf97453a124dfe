-- The writes of each open session after an operation, and the peaks of all.
use Rattle.std.proofs.Common.{◌≡◌, ◌≢◌, inl, inr, ℕ, ◌+◌, ◌-◌, ◌≤◌, ◌==◌, max, Bool, true, false, cond, List, [], ◌∷◌, Option, Some, None, refl, sym, ◌∙◌, ap, arith}
use Rattle.std.specs.Prelude.{is_some}
use Rattle.std.specs.Cmp.{nat_cmp_total}
use Rattle.std.specs.FinMap.{get, get-insert}
use Rattle.std.specs.Option.{option_map_or}
use Rattle.std.specs.Ordering.{nat_cmp, eq_by_cmp}
use Rattle.std.proofs.Math.Nat.{le-max_left, max-le, max-eq_left, max-eq_right}
use Rattle.std.proofs.lemmas.Bool.{cases_Bool, cases_eq, cases_lt}
use Rattle.std.proofs.lemmas.Bool.Decides.{nat_tests}
use Rattle.ipl_base.specs.Sizes.{size_in_page}
use Rattle.ipl_model.specs.State.{Write, Session, State, is_open_session, last_write, writes_of}
use Rattle.ipl_model.specs.Peaks.{peaks, peaks_of, with_peak}
use Rattle.ipl_model.specs.Refusals.{is_new_share}
use Rattle.ipl_model.specs.Operations.{new_session, after_begin, after_share, after_write}
use Rattle.ipl_model.proofs.RulePeakLemmas.{by_number, own_most, more_than, with_write}
use Rattle.ipl_model.specs.Plain.{writes_in}
use Rattle.serial_view.proofs.SessionLemmas.{with_session, shared_too, written, write_by, get_inserted, get_other}

-- ---- the writes of each session

tied : (q k : ℕ) → eq_by_cmp nat_cmp q k ≡ true → q ≡ k
tied q k is = grind (arith, nat_tests)

-- a session that is set, with the writes that it had
same_writes : (state : State) (s t : ℕ) (x : Session) → x.writes ≡ writes_of state s
    → writes_of (with_session state s x) t ≡ writes_of state t
same_writes state s t x same =
    ap writes_in (get-insert nat_cmp_total state.sessions s x t) ∙ by_key (eq_by_cmp nat_cmp t s) refl
  where
    by_key : (b : Bool) → eq_by_cmp nat_cmp t s ≡ b
        → writes_in (cond b (Some x) (get state.sessions t)) ≡ writes_of state t
    by_key true is = same ∙ ap (writes_of state) (sym (tied t s is))
    by_key false is = refl

-- a session that isn't open has written nothing
shut_writes : (o : Option Session) → is_some o ≡ false → [] ≡ writes_in o
shut_writes None is = refl
shut_writes (Some x) is = absurd (cc)

pub begun_writes : (state : State) (s t : ℕ) → is_open_session state s ≡ false
    → writes_of (after_begin state s) t ≡ writes_of state t
begun_writes state s t shut = same_writes state s t new_session (shut_writes (get state.sessions s) shut)

pub shared_writes : (state : State) (s n t : ℕ) → writes_of (after_share state s n) t ≡ writes_of state t
shared_writes state s n t = by_new (is_new_share state s n) (get state.sessions s) refl
  where
    by_new : (b : Bool) (o : Option Session) → get state.sessions s ≡ o
        → writes_of (cond b (option_map_or (λ x. with_session state s (shared_too x n)) o state) state) t
        ≡ writes_of state t
    by_new false o is = refl
    by_new true None is = refl
    by_new true (Some x) is = same_writes state s t (shared_too x n) (ap writes_in (sym is))

open_session : (o : Option Session) → is_some o ≡ true → (x : Session) × (o ≡ Some x)
open_session None is = absurd (cc)
open_session (Some x) is = (x, refl)

pub written_here : (state : State) (s : ℕ) (w : Write) → is_open_session state s ≡ true
    → writes_of (after_write state s w) s ≡ w ∷ writes_of state s
written_here state s w opened =
    let session = open_session (get state.sessions s) opened in
    ap (λ (o : Option Session). writes_of (write_by state s w o) s) session.1
    ∙ ap writes_in (get_inserted state.sessions s (written session.0 w))
    ∙ ap (λ (o : Option Session). w ∷ writes_in o) (sym session.1)

pub written_elsewhere : (state : State) (s t : ℕ) (w : Write) → is_open_session state s ≡ true → t ≢ s
    → writes_of (after_write state s w) t ≡ writes_of state t
written_elsewhere state s t w opened other =
    let session = open_session (get state.sessions s) opened in
    ap (λ (o : Option Session). writes_of (write_by state s w o) t) session.1
    ∙ ap writes_in (get_other state.sessions s t (written session.0 w) other)

pub unwritten_peak : (ws : List Write) (n : ℕ) → last_write ws n ≡ None → peaks_of ws n ≡ 0
unwritten_peak [] n none = refl
unwritten_peak (w ∷ ws) n none = elim (cases_Bool (w.0 == n)) [
  | inl here ↦ absurd (let clash = rw here at none in cc clash)
  | inr other ↦ rw other (unwritten_peak ws n (rw other at none))
]

-- ---- the peaks of all

-- they are at most what those of each are
pub all_most : (state : State) (n k : ℕ) → ((t : ℕ) → peaks_of (writes_of state t) n ≤ k) → peaks state n ≤ k
all_most state n k each = by_number state.sessions n k (λ q v is.
    let here : peaks_of (writes_of state q) n ≡ peaks_of v.writes n =
    ap (λ (o : Option Session). peaks_of (writes_in o) n) is in
    omega (arith, each q, here))

pub alike_most : (a b : State) (n : ℕ)
    → ((t : ℕ) → peaks_of (writes_of a t) n ≡ peaks_of (writes_of b t) n) → peaks a n ≡ peaks b n
alike_most a b n same =
    let less = all_most a n (peaks b n) (λ t. omega (arith, same t, own_most b t n)) in
    let more = all_most b n (peaks a n) (λ t. omega (arith, same t, own_most a t n)) in
    omega (arith, less, more)

module _ (state : State) (s : ℕ) (w : Write) (opened : is_open_session state s ≡ true) (n : ℕ) where
  abbrev next : State
  next = after_write state s w

  -- each session's is as great as it was, or greater
  each_more : (t : ℕ) → peaks_of (writes_of state t) n ≤ peaks_of (writes_of next t) n
  each_more t = elim (cases_eq t s) [
    | inl same ↦
        let here : peaks_of (writes_of next t) n ≡ peaks_of (w ∷ writes_of state s) n =
        ap (λ (k : ℕ). peaks_of (writes_of next k) n) same
        ∙ ap (λ (ws : List Write). peaks_of ws n) (written_here state s w opened) in
        let was : peaks_of (writes_of state t) n ≡ peaks_of (writes_of state s) n =
        ap (λ (k : ℕ). peaks_of (writes_of state k) n) same in
        omega (arith, here, was, more_than w (writes_of state s) n)
    | inr other ↦
        let there = ap (λ (ws : List Write). peaks_of ws n) (written_elsewhere state s t w opened other) in
        omega (arith, there)
  ]

  grown : peaks state n ≤ peaks next n
  grown = all_most state n (peaks next n) (λ t. omega (arith, each_more t, own_most next t n))

  own_now : peaks_of (w ∷ writes_of state s) n ≤ peaks next n
  own_now =
      let here = ap (λ (ws : List Write). peaks_of ws n) (written_here state s w opened) in
      omega (arith, here, own_most next s n)

  -- with a write more they are the greater of what they were and of its own
  pub written_most : peaks (after_write state s w) n ≡ with_peak (peaks state) w.0 (1 + size_in_page w.1) n
  written_most =
      let less = with_write state s w n in
      let more = both (w.0 == n) refl in
      omega (arith, less, more)
    where
      both : (b : Bool) → (w.0 == n) ≡ b
          → cond b (max (1 + size_in_page w.1) (peaks state n)) (peaks state n) ≤ peaks next n
      both true is =
          let own : max (1 + size_in_page w.1) (peaks_of (writes_of state s) n) ≤ peaks next n = rw is at own_now in
          max-le (omega (arith, own, le-max_left (1 + size_in_page w.1) (peaks_of (writes_of state s) n))) grown
      both false is = grown

-- one less than the greater of two, of which the first isn't 0
pub less_one : (size m : ℕ) → max (1 + size) m - 1 ≡ max size (m - 1)
less_one size m = elim (cases_lt size m) [
  | inl less ↦
      let left : max (1 + size) m ≡ m = max-eq_right {n = 1 + size} {m = m} (omega (arith, less)) in
      let right : max size (m - 1) ≡ m - 1 = max-eq_right {n = size} {m = m - 1} (omega (arith, less)) in
      omega (arith, left, right)
  | inr more ↦
      let left : max (1 + size) m ≡ 1 + size = max-eq_left {n = 1 + size} {m = m} (omega (arith, more)) in
      let right : max size (m - 1) ≡ size = max-eq_left {n = size} {m = m - 1} (omega (arith, more)) in
      omega (arith, left, right)
]
