-- Names by where they stand, for loops.
use Rattle.std.proofs.Common.{◌≡◌, ℕ, suc, ◌+◌, ◌<◌, ◌≤◌, ◌==◌, ◌/◌, cond, max, true, false, List, [], ◌∷◌, length, drop, set, get_or, inl, inr, refl, ◌∙◌, ap, ap₂, arith}
use Rattle.std.specs.Prelude.{slice_index}
use Rattle.std.specs.List.{refill}
use Rattle.std.proofs.lemmas.Bool.{cases_Bool}
use Rattle.std.proofs.Math.Seq.{drop-cons}
use Rattle.std.proofs.lemmas.List.{drop-drop, get_or-drop, take_at}
use Rattle.ipl_model.specs.Peaks.{weight_of_peak}
use Rattle.record_locks.specs.Held.{Held, peak_in, raised, rank_of, weight_listed}

pub rank_here : (names : List ℕ) (i n : ℕ) → i < length names → (get_or names i 0 == n) ≡ true → rank_of n (drop i names) ≡ 0
rank_here names i n within is = ap (rank_of n) (drop-cons names i 0 within) ∙ rw is refl

pub rank_later : (names : List ℕ) (i n : ℕ) → i < length names → (get_or names i 0 == n) ≡ false → rank_of n (drop i names) ≡ suc (rank_of n (drop (suc i) names))
rank_later names i n within is = ap (rank_of n) (drop-cons names i 0 within) ∙ rw is refl

pub peak_past : (names sizes : List ℕ) (n : ℕ) → length names ≤ rank_of n names → peak_in names sizes n ≡ 0
peak_past [] sizes n past = refl
peak_past (k ∷ names) sizes n past = elim (cases_Bool (k == n)) [
  | inl here ↦ absurd (let none : rank_of n (k ∷ names) ≡ 0 = rw here refl in omega (arith, past, none))
  | inr later ↦ let more : rank_of n (k ∷ names) ≡ suc (rank_of n names) = rw later refl in rw later (peak_past names (drop 1 sizes) n (omega (arith, past, more)))
]

pub peak_here : (names sizes : List ℕ) (n : ℕ) → rank_of n names < length names → length sizes ≡ length names → peak_in names sizes n ≡ 1 + slice_index sizes (rank_of n names)
peak_here [] sizes n within sized = absurd (omega (arith, within))
peak_here (k ∷ names) [] n within sized = absurd (omega (arith, sized))
peak_here (k ∷ names) (z ∷ sizes) n within sized = elim (cases_Bool (k == n)) [
  | inl here ↦ rw here refl
  | inr later ↦
      let more : rank_of n (k ∷ names) ≡ suc (rank_of n names) = rw later refl in
      rw later (peak_here names sizes n (omega (arith, within, more)) (omega (arith, sized)))
]

pub raised_past : (names sizes : List ℕ) (n size : ℕ) → length names ≤ rank_of n names → length sizes ≡ length names → raised names sizes n size ≡ sizes
raised_past [] sizes n size past sized = refl
raised_past (k ∷ names) [] n size past sized = absurd (omega (arith, sized))
raised_past (k ∷ names) (z ∷ sizes) n size past sized = elim (cases_Bool (k == n)) [
  | inl here ↦ absurd (let none : rank_of n (k ∷ names) ≡ 0 = rw here refl in omega (arith, past, none))
  | inr later ↦
      let more : rank_of n (k ∷ names) ≡ suc (rank_of n names) = rw later refl in
      rw later (ap (λ (l : List ℕ). z ∷ l) (raised_past names sizes n size (omega (arith, past, more)) (omega (arith, sized))))
]

pub raised_here : (names sizes : List ℕ) (n size : ℕ) → rank_of n names < length names → length sizes ≡ length names
    → raised names sizes n size ≡ set sizes (rank_of n names) (max size (slice_index sizes (rank_of n names)))
raised_here [] sizes n size within sized = absurd (omega (arith, within))
raised_here (k ∷ names) [] n size within sized = absurd (omega (arith, sized))
raised_here (k ∷ names) (z ∷ sizes) n size within sized = elim (cases_Bool (k == n)) [
  | inl here ↦ rw here refl
  | inr later ↦
      let more : rank_of n (k ∷ names) ≡ suc (rank_of n names) = rw later refl in
      rw later (ap (λ (l : List ℕ). z ∷ l) (raised_here names sizes n size (omega (arith, within, more)) (omega (arith, sized))))
]

pub weight_next : (names sizes : List ℕ) (i unit : ℕ) → i < length names
    → weight_listed (drop i names) (drop i sizes) unit
    ≡ (cond (get_or names i 0 / 960 == unit) (weight_of_peak (1 + slice_index sizes i)) 0) + weight_listed (drop (suc i) names) (drop (suc i) sizes) unit
weight_next names sizes i unit within =
    ap (λ (l : List ℕ). weight_listed l (drop i sizes) unit) (drop-cons names i 0 within)
    ∙ ap₂ (λ (z : ℕ) (l : List ℕ). cond (get_or names i 0 / 960 == unit) (weight_of_peak (1 + z)) 0 + weight_listed (drop (suc i) names) l unit)
    (get_or-drop i sizes 0 0 ∙ ap (λ (k : ℕ). get_or sizes k 0) (plus_none i)) (drop-drop 1 i sizes ∙ ap (λ (k : ℕ). drop k sizes) (plus_one i))
  where
    plus_none : (i : ℕ) → i + 0 ≡ i
    plus_none i = omega arith

    plus_one : (i : ℕ) → i + 1 ≡ suc i
    plus_one i = omega arith

-- a session with other sizes
abbrev pub with_sizes : Held → List ℕ → Held
with_sizes h sizes = record h { sizes = sizes }

pub refilled : (xs ws : List ℕ) → length ws ≡ length xs → refill (length xs) xs ws ≡ ws
refilled xs ws same = take_at ws (drop (length ws) xs) (length xs) same
