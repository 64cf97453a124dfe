-- What keeps all sessions sound.
use Rattle.std.proofs.Common.{◌≡◌, ◌≢◌, ◌⊎◌, inl, inr, ℕ, zero, suc, ◌+◌, ◌*◌, max, refl, replicate, ◌/◌, ◌<◌, ◌≤◌, ◌==◌, Bool, true, false, cond, [], ◌∷◌, ◌++◌, length, set, get_or, Option, Some, None, sym, ap, subst, arith, nat_lt}
use Rattle.std.specs.List.{All, count_by}
use Rattle.std.proofs.lemmas.List.Elements.{All-nil, All-cons}
use Rattle.std.proofs.lemmas.Bool.{cases_eq}
use Rattle.std.proofs.lemmas.Bool.Decides.{nat_tests}
use Rattle.std.proofs.Math.ListN.{length-set}
use Rattle.std.proofs.lemmas.List.{length-replicate}
use Rattle.ipl_model.specs.Peaks.{weights, with_peak, overloads}
use Rattle.ipl_base.specs.declared.limits.TheConstants.{PENDING_WEIGHT, SESSIONS, UNIT_NAMES}
use Rattle.ipl_model.proofs.RulePeakLemmas.{le_trans}
use Rattle.ipl_model.proofs.WeightLemmas.{weights_same, weights_none, weights_less, weights_elsewhere}
use Rattle.record_locks.specs.Held.{Held, SessionSlots, held_at, slot_peaks, peaks_in}
use Rattle.record_locks.specs.Locks.{AreSoundSlots, IsSized, total, written_in}
use Rattle.record_locks.proofs.TotalLemmas.{total_set, total_cons, one_more}
use Rattle.record_locks.proofs.PeakLemmas.{set_less, set_written, all_sized_set}

-- a slot in which no more names pass, and whose peaks are no greater, keeps all sound
pub sound_less : (slots : SessionSlots) (s : ℕ) (o : Option Held) → AreSoundSlots slots → s < length slots → ((p : ℕ → Bool) → written_in p o ≤ written_in p (get_or slots s None))
    → IsSized o → ((n : ℕ) → slot_peaks o n ≤ slot_peaks (held_at slots s) n) → AreSoundSlots (set slots s o)
sound_less slots s o sound within less sized peaks = record {
  all = omega (arith, length-set slots s o, sound.all);
  once = λ n. omega (arith, total_set (λ k. k == n) slots s o within, less (λ k. k == n), sound.once n);
  sized = all_sized_set slots s o sound.sized sized;
  few = λ unit. le_trans (weights_less (peaks_in (set slots s o)) (peaks_in slots) unit (λ n. set_less slots s o n (peaks n))) (sound.few unit);
}

-- a slot with a write that isn't refused
pub sound_more : (slots : SessionSlots) (s n m : ℕ) (o : Option Held) → AreSoundSlots slots → s < length slots → ((k : ℕ) → total (λ j. j == k) (set slots s o) ≤ 1)
    → IsSized o → ((q : ℕ) → slot_peaks o q ≡ with_peak (slot_peaks (held_at slots s)) n m q) → overloads (peaks_in slots) n m ≡ false → AreSoundSlots (set slots s o)
sound_more slots s n m o sound within once sized peaks room = record {
  all = omega (arith, length-set slots s o, sound.all);
  once = once;
  sized = all_sized_set slots s o sound.sized sized;
  few = λ unit. le_trans (weights_less (peaks_in (set slots s o)) (with_peak (peaks_in slots) n m) unit (λ q. set_written slots s n m o q (peaks q))) (by_unit unit (cases_eq unit (n / UNIT_NAMES)));
}
  where
    not_above : (size : ℕ) → nat_lt PENDING_WEIGHT size ≡ false → size ≤ PENDING_WEIGHT
    not_above size is = grind (arith, nat_tests)

    by_unit : (unit : ℕ) → (unit ≡ n / UNIT_NAMES) ⊎ (unit ≢ n / UNIT_NAMES) → weights (with_peak (peaks_in slots) n m) unit ≤ PENDING_WEIGHT
    by_unit unit (inl same) = subst (λ (u : ℕ). weights (with_peak (peaks_in slots) n m) u ≤ PENDING_WEIGHT) (sym same) (not_above _ room)
    by_unit unit (inr other) = subst (λ (k : ℕ). k ≤ PENDING_WEIGHT) (sym (weights_elsewhere (peaks_in slots) n m unit other)) (sound.few unit)

-- no name is written twice where a new one is added that nobody wrote
pub once_more : (slots : SessionSlots) (s n : ℕ) (h new : Held) → AreSoundSlots slots → s < length slots → get_or slots s None ≡ Some h
    → total (λ k. k == n) slots ≡ 0 → new.written ≡ h.written ++ n ∷ [] → (k : ℕ) → total (λ j. j == k) (set slots s (Some new)) ≤ 1
once_more slots s n h new sound within is none names k = by_name (cases_eq k n)
  where
    grows : total (λ j. j == k) (set slots s (Some new)) ≡ total (λ j. j == k) slots + cond (n == k) 1 0
    grows =
        let before : written_in (λ j. j == k) (get_or slots s None) ≡ count_by (λ j. j == k) h.written = ap (written_in (λ j. j == k)) is in
        let after : written_in (λ j. j == k) (Some new) ≡ count_by (λ j. j == k) (h.written ++ n ∷ []) = ap (count_by (λ j. j == k)) names in
        omega (arith, total_set (λ j. j == k) slots s (Some new) within, before, after, one_more (λ j. j == k) h.written n)

    at_most : (b : Bool) → cond b 1 0 ≤ 1
    at_most true = omega arith
    at_most false = omega arith

    by_name : (k ≡ n) ⊎ (k ≢ n) → total (λ j. j == k) (set slots s (Some new)) ≤ 1
    by_name (inl same) = omega (arith, grows, at_most (n == k), ap (λ (m : ℕ). total (λ j. j == m) slots) same, none)
    by_name (inr other) =
        let no : (n == k) ≡ false = grind (arith, nat_tests) in
        omega (arith, grows, ap {B = ℕ} (λ (b : Bool). cond b 1 0) no, sound.once k)

-- no session is open
none_total : (p : ℕ → Bool) (k : ℕ) → total p (replicate k None) ≡ 0
none_total p zero = refl
none_total p (suc k) = omega (arith, none_total p k, total_cons p None (replicate k None))

none_peaks : (k n : ℕ) → peaks_in (replicate k None) n ≡ 0
none_peaks zero n = refl
none_peaks (suc k) n = ap (λ (m : ℕ). max 0 m) (none_peaks k n)

none_sized : (k : ℕ) → All IsSized (replicate k None)
none_sized zero = All-nil IsSized
none_sized (suc k) = All-cons IsSized None (replicate k None) refl (none_sized k)

pub sound_none : (sessions : ℕ) → sessions ≤ SESSIONS → AreSoundSlots (replicate sessions None)
sound_none sessions few = record {
  all = omega (arith, length-replicate {A = Option Held} sessions None, few);
  once = λ n. omega (arith, none_total (λ k. k == n) sessions);
  sized = none_sized sessions;
  few = λ unit. omega (arith, weights_same (peaks_in (replicate sessions None)) (λ (n : ℕ). 0) unit (λ i low. none_peaks sessions (UNIT_NAMES * unit + i)), weights_none unit);
}

pub lighter : (a b p w : ℕ) → w + a ≡ p + b → nat_lt (PENDING_WEIGHT + a) (p + b) ≡ nat_lt PENDING_WEIGHT w
lighter a b p w sum = grind (arith, nat_tests)
