-- Which sessions are closed while one after another is aborted.
use Rattle.std.proofs.Common.{◌≡◌, inl, inr, ℕ, zero, suc, ◌+◌, ◌<◌, ◌≤◌, arith, Bool, true, false, not, cond, nat_le, [], ◌∷◌, Option, Some, None, is_some, if◌then◌else◌, refl, sym, ◌∙◌, ap, subst, length}
use Rattle.std.specs.List.{find, range_with_len}
use Rattle.std.proofs.lemmas.Bool.{cases_eq}
use Rattle.std.proofs.lemmas.Bool.Decides.{nat_tests}
use Rattle.ipl_base.specs.declared.fault.Refusal.{Refusal}
use Rattle.ipl_base.specs.declared.fault.Refusal.TheVariants.{BadSession, NotOpen}
use Rattle.ipl_model.specs.Refusals.{first_of, sessions_open, refuses_end}
use Rattle.ipl_model.specs.State.{is_open_session}
use Rattle.record_locks.specs.Held.{Held, SessionSlots, held_at, after_end}
use Rattle.record_locks.specs.Locks.{refuses_close}
use Rattle.record_locks.specs.Standing.{state_of}
use Rattle.record_locks.proofs.StandingLemmas.{open_at}
use Rattle.store_laws.specs.Keeps.{limits_of}

-- no session below this number is open
abbrev pub AreClosedBelow : ℕ → SessionSlots → Type 0
AreClosedBelow n slots = (s : ℕ) → s < n → held_at slots s ≡ None

-- ---- a slot

-- that is emptied is empty
ended_here : (slots : SessionSlots) (s : ℕ) → held_at (after_end slots s) s ≡ None
ended_here [] s = refl
ended_here (o ∷ slots) zero = refl
ended_here (o ∷ slots) (suc s) = ended_here slots s

-- and others that were so stay empty
ended_there : (slots : SessionSlots) (s q : ℕ) → held_at slots q ≡ None → held_at (after_end slots s) q ≡ None
ended_there [] s q none = none
ended_there (o ∷ slots) zero zero none = refl
ended_there (o ∷ slots) zero (suc q) none = none
ended_there (o ∷ slots) (suc s) zero none = none
ended_there (o ∷ slots) (suc s) (suc q) none = ended_there slots s q none

-- of a session that may not be ended it is empty
refused_is_closed : (units : ℕ) (slots : SessionSlots) (s : ℕ) (r : Refusal) → s < length slots
    → refuses_end (limits_of (length slots) units) (state_of slots) s ≡ Some r → held_at slots s ≡ None
refused_is_closed units slots s r low refused = by_slot (held_at slots s) refl
  where
    by_slot : (o : Option Held) → held_at slots s ≡ o → o ≡ None
    by_slot None is = refl
    by_slot (Some h) is =
        let opened : is_open_session (state_of slots) s ≡ true = open_at slots s ∙ ap is_some is in
        let within : nat_le (length slots) s ≡ false = grind (arith, nat_tests, low) in
        let free : refuses_end (limits_of (length slots) units) (state_of slots) s ≡ None =
        ap (λ (b : Bool). if b then Some BadSession else (if not (is_open_session (state_of slots) s) then Some NotOpen else None)) within
        ∙ ap (λ (b : Bool). if not b then Some NotOpen else None) opened in
        let clash : None ≡ Some r = sym free ∙ refused in absurd (cc clash)

-- ---- one session more

one_more : (n : ℕ) (slots : SessionSlots) → AreClosedBelow n slots → held_at slots n ≡ None → AreClosedBelow (n + 1) slots
one_more n slots below here s low = elim (cases_eq s n) [
  | inl same ↦ subst (λ (q : ℕ). held_at slots q ≡ None) (sym same) here
  | inr other ↦ below s (omega (arith, low, other))
]

pub ended_more : (s : ℕ) (slots : SessionSlots) → AreClosedBelow s slots → AreClosedBelow (s + 1) (after_end slots s)
ended_more s slots below =
    one_more s (after_end slots s) (λ q low. ended_there slots s q (below q low)) (ended_here slots s)

pub refused_more : (units s : ℕ) (slots : SessionSlots) (r : Refusal) → s < length slots → AreClosedBelow s slots
    → refuses_end (limits_of (length slots) units) (state_of slots) s ≡ Some r → AreClosedBelow (s + 1) slots
refused_more units s slots r low below refused =
    one_more s slots below (refused_is_closed units slots s r low refused)

-- ---- all of them

found_none : (test : ℕ → Bool) (a n : ℕ) → ((s : ℕ) → s < a + n → test s ≡ false)
    → find test (range_with_len a n) ≡ None
found_none test a zero fails = refl
found_none test a (suc n) fails =
    ap (λ (b : Bool). cond b (Some a) (find test (range_with_len (a + 1) n))) (fails a (omega arith))
    ∙ found_none test (a + 1) n (λ s low. fails s (omega (arith, low)))

-- a close isn't refused
pub closes_free : (n : ℕ) (slots : SessionSlots) → length slots ≤ n → AreClosedBelow n slots → refuses_close slots ≡ None
closes_free n slots all below = ap (λ (o : Option ℕ). first_of (sessions_open o ∷ []))
    (found_none (is_open_session (state_of slots)) 0 (length slots)
    (λ s low. open_at slots s ∙ ap is_some (below s (omega (arith, all, low)))))
