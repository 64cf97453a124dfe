-- Peaks of names: what stands beside them, and what a write makes of that.
use Rattle.std.proofs.Common.{◌≡◌, ◌≢◌, ◌⊎◌, inl, inr, ℕ, zero, suc, ◌+◌, ◌*◌, ◌/◌, ◌≤◌, ◌==◌, max, Bool, true, false, cond, List, [], ◌∷◌, ◌++◌, length, drop, set, Option, Some, None, refl, sym, ◌∙◌, ap, ap₂, arith, length-append}
use Rattle.std.specs.Prelude.{slice_index}
use Rattle.std.specs.List.{All, count_by, sum_by}
use Rattle.std.specs.Option.{option_map_or}
use Rattle.std.proofs.Math.Nat.{le-max_left, le-max_right, max-le, max-zero, max-eq_left, max-eq_right}
use Rattle.std.proofs.lemmas.Bool.{cases_Bool, cases_eq, cases_lt, ne_eqb, eq-eqb}
use Rattle.std.proofs.lemmas.List.Sums.{sum_by-cons}
use Rattle.std.proofs.lemmas.List.Elements.{All-cons}
use Rattle.ipl_model.specs.Peaks.{with_peak, weight_of_peak, weights}
use Rattle.ipl_base.specs.declared.limits.TheConstants.{UNIT_NAMES}
use Rattle.ipl_model.proofs.WeightLemmas.{weights_same, weights_none, weights_joined, weights_new}
use Rattle.record_locks.specs.Held.{Held, SessionSlots, held_at, written_of, is_among, peak_in, raised, weight_listed, slot_peaks, peaks_in, slot_weight, with_written}
use Rattle.record_locks.specs.Locks.{IsSized, OneWriter, total, written_in}
use Rattle.record_locks.proofs.NameLemmas.{count_cons, counted_once}
use Rattle.record_locks.proofs.TotalLemmas.{total_cons}

head_is : (z : ℕ) (sizes : List ℕ) → slice_index (z ∷ sizes) 0 ≡ z
head_is z sizes = refl

-- ---- names in a list

absent_peak : (names sizes : List ℕ) (n : ℕ) → is_among n names ≡ false → peak_in names sizes n ≡ 0
absent_peak [] sizes n none = refl
absent_peak (k ∷ names) sizes n none = elim (cases_Bool (k == n)) [
  | inl here ↦ absurd (let clash = rw here at none in cc clash)
  | inr other ↦ rw other (absent_peak names (drop 1 sizes) n (rw other at none))
]

pub absent_slot : (o : Option Held) (n : ℕ) → is_among n (option_map_or (λ h. h.written) o []) ≡ false
    → slot_peaks o n ≡ 0
absent_slot None n none = refl
absent_slot (Some h) n none = absent_peak h.written h.sizes n none

-- a name that no test counts
uncounted : (names : List ℕ) (n : ℕ) → count_by (λ k. k == n) names ≡ 0 → is_among n names ≡ false
uncounted names n none = elim (cases_Bool (is_among n names)) [
  | inl there ↦ absurd (let once = counted_once names n there in omega (arith, once, none))
  | inr absent ↦ absent
]

pub uncounted_peak : (o : Option Held) (n : ℕ) → written_in (λ k. k == n) o ≡ 0 → slot_peaks o n ≡ 0
uncounted_peak o n none = absent_slot o n (uncounted (option_map_or (λ h. h.written) o []) n none)

pub untotaled_peak : (slots : SessionSlots) (n : ℕ) → total (λ k. k == n) slots ≡ 0 → peaks_in slots n ≡ 0
untotaled_peak [] n none = refl
untotaled_peak (o ∷ slots) n none =
    let one = uncounted_peak o n (omega (arith, none, total_cons (λ k. k == n) o slots)) in
    let rest = untotaled_peak slots n (omega (arith, none, total_cons (λ k. k == n) o slots)) in
    ap₂ (λ (a b : ℕ). max a b) one rest

-- ---- weights

-- a name in front of others
front_peak : (k : ℕ) (names sizes : List ℕ) (n : ℕ) → peak_in names (drop 1 sizes) k ≡ 0
    → peak_in (k ∷ names) sizes n ≡ with_peak (peak_in names (drop 1 sizes)) k (1 + slice_index sizes 0) n
front_peak k names sizes n none = elim (cases_eq k n) [
  | inl same ↦
      let is : (k == n) ≡ true = eq-eqb k n same in
      let zeros : peak_in names (drop 1 sizes) n ≡ 0 = ap (peak_in names (drop 1 sizes)) (sym same) ∙ none in
      rw is (sym (ap (λ (m : ℕ). max (1 + slice_index sizes 0) m) zeros ∙ max-zero (1 + slice_index sizes 0)))
  | inr other ↦ let no : (k == n) ≡ false = ne_eqb k n other in rw no refl
]

pub list_weighs : (names sizes : List ℕ) (unit : ℕ) → ((n : ℕ) → count_by (λ k. k == n) names ≤ 1) → weights (peak_in names sizes) unit ≡ weight_listed names sizes unit
list_weighs [] sizes unit once = weights_none unit
list_weighs (k ∷ names) sizes unit once =
    weights_same _ _ unit (λ i low. front_peak k names sizes (UNIT_NAMES * unit + i) none)
    ∙ weights_new (peak_in names (drop 1 sizes)) k (1 + slice_index sizes 0) unit none
    ∙ ap (λ (rest : ℕ). cond (k / UNIT_NAMES == unit) (weight_of_peak (1 + slice_index sizes 0)) 0 + rest) (list_weighs names (drop 1 sizes) unit fewer)
  where
    -- the others hold each name once, and this one not at all
    fewer : (n : ℕ) → count_by (λ j. j == n) names ≤ 1
    fewer n = omega (arith, once n, count_cons (λ j. j == n) k names)

    none : peak_in names (drop 1 sizes) k ≡ 0
    none = absent_peak names (drop 1 sizes) k (uncounted names k (own (k == k) refl (eq-eqb k k refl)))
      where
        own : (b : Bool) → (k == k) ≡ b → b ≡ true → count_by (λ j. j == k) names ≡ 0
        own b is counted = omega (arith, once k, count_cons (λ j. j == k) k names, ap {B = ℕ} (λ (t : Bool). cond t 1 0) (is ∙ counted))

slot_weighs : (o : Option Held) (unit : ℕ) → ((n : ℕ) → written_in (λ k. k == n) o ≤ 1) → weights (slot_peaks o) unit ≡ slot_weight o unit
slot_weighs None unit once = weights_none unit
slot_weighs (Some h) unit once = list_weighs h.written h.sizes unit once

pub slots_weigh : (slots : SessionSlots) (unit : ℕ) → ((n : ℕ) → total (λ k. k == n) slots ≤ 1) → weights (peaks_in slots) unit ≡ sum_by (λ o. slot_weight o unit) slots
slots_weigh [] unit once = weights_none unit
slots_weigh (o ∷ slots) unit once =
    let rest = slots_weigh slots unit (λ n. omega (arith, once n, total_cons (λ k. k == n) o slots)) in
    let one = slot_weighs o unit (λ n. omega (arith, once n, total_cons (λ k. k == n) o slots)) in
    let both = weights_joined (slot_peaks o) (peaks_in slots) unit (λ n. one_of n (written_in (λ k. k == n) o) refl) in
    both ∙ sums one rest (sum_by-cons (λ x. slot_weight x unit) o slots)
  where
    one_of : (n c : ℕ) → written_in (λ k. k == n) o ≡ c → (slot_peaks o n ≡ 0) ⊎ (peaks_in slots n ≡ 0)
    one_of n zero is = inl (uncounted_peak o n is)
    one_of n (suc c) is = inr (untotaled_peak slots n (omega (arith, once n, is, total_cons (λ k. k == n) o slots)))

    sums : {a b u w s : ℕ} → a ≡ u → b ≡ w → s ≡ u + w → a + b ≡ s
    sums one rest sum = omega (arith, one, rest, sum)

-- ---- a write

suc_max : (a b : ℕ) → 1 + max a b ≡ max (1 + a) (1 + b)
suc_max a b = elim (cases_lt a b) [
  | inl less ↦ two (max-eq_right {n = a} {m = b} (omega (arith, less))) (max-eq_right {n = 1 + a} {m = 1 + b} (omega (arith, less)))
  | inr more ↦ two (max-eq_left {n = a} {m = b} more) (max-eq_left {n = 1 + a} {m = 1 + b} (omega (arith, more)))
]
  where
    two : {x y c : ℕ} → x ≡ c → y ≡ 1 + c → 1 + x ≡ y
    two one other = omega (arith, one, other)

-- a write of a name that is there
peak_raised : (names sizes : List ℕ) (n size q : ℕ) → length sizes ≡ length names → is_among n names ≡ true
    → peak_in names (raised names sizes n size) q ≡ with_peak (peak_in names sizes) n (1 + size) q
peak_raised [] sizes n size q sized there = absurd (cc there)
peak_raised (k ∷ names) [] n size q sized there = absurd (omega (arith, sized))
peak_raised (k ∷ names) (z ∷ sizes) n size q sized there = elim (cases_eq k n) [
  | inl same ↦ let is : (k == n) ≡ true = eq-eqb k n same in rw is (here same (cases_eq k q))
  | inr other ↦
      let no : (k == n) ≡ false = ne_eqb k n other in
      rw no (elim (cases_eq k q) [
        | inl at ↦
            let yes : (k == q) ≡ true = eq-eqb k q at in
            let apart : (n == q) ≡ false = ne_eqb n q (λ e. other (at ∙ sym e)) in
            rw (yes, apart) refl
        | inr away ↦
            let off : (k == q) ≡ false = ne_eqb k q away in
            rw off (peak_raised names sizes n size q (omega (arith, sized)) (rw no at there))
      ])
]
  where
    here : k ≡ n → (k ≡ q) ⊎ (k ≢ q)
        → cond (k == q) (1 + max size z) (peak_in names sizes q)
        ≡ cond (n == q) (max (1 + size) (cond (k == q) (1 + z) (peak_in names sizes q))) (cond (k == q) (1 + z) (peak_in names sizes q))
    here same (inl at) =
        let yes : (k == q) ≡ true = eq-eqb k q at in
        let too : (n == q) ≡ true = eq-eqb n q (sym same ∙ at) in
        rw (yes, too) (suc_max size z)
    here same (inr away) =
        let off : (k == q) ≡ false = ne_eqb k q away in
        let apart : (n == q) ≡ false = ne_eqb n q (λ e. away (same ∙ e)) in
        rw (off, apart) refl

-- and of one that isn't
peak_pushed : (names sizes : List ℕ) (n size q : ℕ) → length sizes ≡ length names → is_among n names ≡ false
    → peak_in (names ++ n ∷ []) (sizes ++ size ∷ []) q ≡ with_peak (peak_in names sizes) n (1 + size) q
peak_pushed [] [] n size q sized new = elim (cases_Bool (n == q)) [
  | inl at ↦ rw at (sym (max-zero (1 + size)))
  | inr away ↦ rw away refl
]
peak_pushed [] (z ∷ sizes) n size q sized new = absurd (omega (arith, sized))
peak_pushed (k ∷ names) [] n size q sized new = absurd (omega (arith, sized))
peak_pushed (k ∷ names) (z ∷ sizes) n size q sized new = elim (cases_Bool (k == n)) [
  | inl same ↦ absurd (let clash = rw same at new in cc clash)
  | inr other ↦ elim (cases_eq k q) [
    | inl at ↦
        let yes : (k == q) ≡ true = eq-eqb k q at in
        let apart : (n == q) ≡ false = ne_eqb n q (λ e. absurd (let is : (k == n) ≡ true = eq-eqb k n (at ∙ sym e) in let clash = sym is ∙ other in cc clash)) in
        rw (yes, apart) refl
    | inr away ↦
        let off : (k == q) ≡ false = ne_eqb k q away in
        rw off (peak_pushed names sizes n size q (omega (arith, sized)) (rw other at new))
  ]
]

raised_sized : (names sizes : List ℕ) (n size : ℕ) → length sizes ≡ length names → length (raised names sizes n size) ≡ length names
raised_sized [] sizes n size sized = sized
raised_sized (k ∷ names) [] n size sized = absurd (omega (arith, sized))
raised_sized (k ∷ names) (z ∷ sizes) n size sized = elim (cases_Bool (k == n)) [
  | inl same ↦ rw same (omega (arith, sized))
  | inr other ↦ rw other (let rest = raised_sized names sizes n size (omega (arith, sized)) in omega (arith, rest))
]

pub written_peaks : (n size : ℕ) (h : Held) (q : ℕ) → IsSized (Some h) → slot_peaks (Some (with_written n size h)) q ≡ with_peak (slot_peaks (Some h)) n (1 + size) q
written_peaks n size h q sized = elim (cases_Bool (is_among n h.written)) [
  | inl there ↦ rw there (peak_raised h.written h.sizes n size q sized there)
  | inr new ↦ rw new (peak_pushed h.written h.sizes n size q sized new)
]

pub written_sized : (n size : ℕ) (h : Held) → IsSized (Some h) → IsSized (Some (with_written n size h))
written_sized n size h sized = elim (cases_Bool (is_among n h.written)) [
  | inl there ↦ rw there (raised_sized h.written h.sizes n size sized)
  | inr new ↦ rw new (omega (arith, sized, length-append h.written (n ∷ []), length-append h.sizes (size ∷ [])))
]

-- ---- one slot of all

pub one_of_all : (slots : SessionSlots) (s n : ℕ) → slot_peaks (held_at slots s) n ≤ peaks_in slots n
one_of_all [] s n = omega arith
one_of_all (o ∷ slots) zero n = le-max_left (slot_peaks o n) (peaks_in slots n)
one_of_all (o ∷ slots) (suc s) n = let rest = one_of_all slots s n in omega (arith, rest, le-max_right (slot_peaks o n) (peaks_in slots n))

pub all_at_most : (slots : SessionSlots) (n k : ℕ) → ((s : ℕ) → slot_peaks (held_at slots s) n ≤ k) → peaks_in slots n ≤ k
all_at_most [] n k each = omega arith
all_at_most (o ∷ slots) n k each = max-le (each 0) (all_at_most slots n k (λ s. each (suc s)))

-- a name that one session wrote, and so no other
pub one_is_all : (slots : SessionSlots) (s n : ℕ) → OneWriter slots → is_among n (written_of slots s) ≡ true
    → slot_peaks (held_at slots s) n ≡ peaks_in slots n
one_is_all slots s n once wrote =
    omega (arith, one_of_all slots s n, all_at_most slots n (slot_peaks (held_at slots s) n) each)
  where
    each : (t : ℕ) → slot_peaks (held_at slots t) n ≤ slot_peaks (held_at slots s) n
    each t = elim (cases_Bool (is_among n (written_of slots t))) [
      | inl too ↦ omega (arith, ap (λ (k : ℕ). slot_peaks (held_at slots k) n) (once s t n wrote too))
      | inr other ↦ omega (arith, absent_slot (held_at slots t) n other)
    ]

pub set_most : (slots : SessionSlots) (s : ℕ) (o : Option Held) (n k : ℕ) → slot_peaks o n ≤ k → peaks_in slots n ≤ k → peaks_in (set slots s o) n ≤ k
set_most [] s o n k new old = omega arith
set_most (x ∷ slots) zero o n k new old = max-le new (omega (arith, old, le-max_right (slot_peaks x n) (peaks_in slots n)))
set_most (x ∷ slots) (suc s) o n k new old =
    max-le (omega (arith, old, le-max_left (slot_peaks x n) (peaks_in slots n)))
    (set_most slots s o n k new (omega (arith, old, le-max_right (slot_peaks x n) (peaks_in slots n))))

pub set_less : (slots : SessionSlots) (s : ℕ) (o : Option Held) (n : ℕ) → slot_peaks o n ≤ slot_peaks (held_at slots s) n → peaks_in (set slots s o) n ≤ peaks_in slots n
set_less slots s o n less = set_most slots s o n (peaks_in slots n) (omega (arith, less, one_of_all slots s n)) (omega arith)

-- a slot with one more write
pub set_written : (slots : SessionSlots) (s n m : ℕ) (o : Option Held) (q : ℕ) → slot_peaks o q ≡ with_peak (slot_peaks (held_at slots s)) n m q
    → peaks_in (set slots s o) q ≤ with_peak (peaks_in slots) n m q
set_written slots s n m o q is = elim (cases_Bool (n == q)) [
  | inl at ↦
      let new : slot_peaks o q ≡ max m (slot_peaks (held_at slots s) q) = rw at at is in
      let top : max m (slot_peaks (held_at slots s) q) ≤ max m (peaks_in slots q) = max-le (le-max_left _ _) (omega (arith, one_of_all slots s q, le-max_right m (peaks_in slots q))) in
      rw at (set_most slots s o q _ (omega (arith, new, top)) (le-max_right _ _))
  | inr away ↦
      let old : slot_peaks o q ≡ slot_peaks (held_at slots s) q = rw away at is in
      rw away (set_less slots s o q (omega (arith, old)))
]

pub all_sized_set : (slots : SessionSlots) (s : ℕ) (o : Option Held) → All IsSized slots → IsSized o → All IsSized (set slots s o)
all_sized_set [] s o each is = each
all_sized_set (x ∷ slots) zero o each is = All-cons IsSized o slots is (λ k d low. each (suc k) d (omega (arith, low)))
all_sized_set (x ∷ slots) (suc s) o each is = All-cons IsSized x (set slots s o) (each 0 x (omega arith)) (all_sized_set slots s o (λ k d low. each (suc k) d (omega (arith, low))) is)

pub sized_at : (slots : SessionSlots) (s : ℕ) → All IsSized slots → IsSized (held_at slots s)
sized_at [] s each = refl
sized_at (x ∷ slots) zero each = each 0 x (omega arith)
sized_at (x ∷ slots) (suc s) each = sized_at slots s (λ k d low. each (suc k) d (omega (arith, low)))
