-- Sums over names of a unit that stand once each.
use Rattle.std.proofs.Common.{◌≡◌, ℕ, ◌≤◌, ◌<◌, ◌+◌, ◌||◌, List, [], ◌∷◌, Bool, true, false, cond, eqb, refl, arith}
use Rattle.std.specs.List.{AllByRecursion, IsDistinct, sum_by, range_with_len, list_any}
use Rattle.std.proofs.lemmas.Bool.{eq-eqb, ne_eqb}
use Rattle.std.proofs.lemmas.List.Sums.{sum_by-cons}
use Rattle.ipl_model.proofs.SumLemmas.{sums_at, sums_less}

-- the value at the names of a list, 0 elsewhere
abbrev at_names : (ℕ → ℕ) → List ℕ → ℕ → ℕ
at_names f names i = cond (list_any (eqb i) names) (f i) 0

absent : (n : ℕ) (names : List ℕ) → AllByRecursion (λ k. eqb n k ≡ false) names → list_any (eqb n) names ≡ false
absent n [] none = refl
absent n (k ∷ names) (first, rest) = rw first (absent n names rest)

distinct_within : (f : ℕ → ℕ) (names : List ℕ) (k : ℕ) → IsDistinct eqb names → ((n : ℕ) → list_any (eqb n) names ≡ true → n < k)
    → sum_by f names ≤ sum_by (at_names f names) (range_with_len 0 k)
unfolding IsDistinct
distinct_within f [] k apart low = omega arith
distinct_within f (n ∷ names) k (new, apart) low =
    let rest = distinct_within f names k apart (λ m is. low m (or_right (eqb m n) is)) in
    let here : eqb n n ≡ true = eq-eqb n n refl in
    let within : n < k = low n (rw here refl) in
    let more = sums_at (at_names f names) (at_names f (n ∷ names)) 0 k n (omega arith) (omega (arith, within)) (λ i other. elsewhere i (ne_eqb i n other)) in
    let mine : at_names f (n ∷ names) n ≡ f n = rw here refl in
    let none : at_names f names n ≡ 0 = rw (absent n names new) refl in
    joined _ _ _ _ _ _ rest more mine none (sum_by-cons f n names)
  where
    or_right : (a : Bool) {b : Bool} → b ≡ true → (a || b) ≡ true
    or_right true is = refl
    or_right false is = is

    elsewhere : (i : ℕ) → eqb i n ≡ false → at_names f names i ≡ at_names f (n ∷ names) i
    elsewhere i other = rw other refl

    joined : (total all full old mine none : ℕ) → all ≤ old → old + mine ≡ full + none → mine ≡ f n → none ≡ 0 → total ≡ f n + all → total ≤ full
    joined total all full old one nothing rest more mine none sum = omega (arith, rest, more, mine, none, sum)

-- they sum to no more than all names do
pub sum_within : (f : ℕ → ℕ) (names : List ℕ) (k : ℕ) → IsDistinct eqb names → ((n : ℕ) → list_any (eqb n) names ≡ true → n < k)
    → sum_by f names ≤ sum_by f (range_with_len 0 k)
sum_within f names k apart low =
    let part = distinct_within f names k apart low in
    let whole = sums_less (at_names f names) f 0 k (λ i inside. at_most i (list_any (eqb i) names)) in
    omega (arith, part, whole)
  where
    at_most : (i : ℕ) (b : Bool) → cond b (f i) 0 ≤ f i
    at_most i true = omega arith
    at_most i false = omega arith
