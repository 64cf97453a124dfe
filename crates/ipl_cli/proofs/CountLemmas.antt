-- Whether tables count a sector as clean, by computing.
use Rattle.std.proofs.Common.{◌≡◌, ◌⊎◌, inl, inr, ◌<◌, ◌≤◌, ℕ, zero, suc, Bool, true, false, List, [], ◌∷◌, length, get_or, slice_index, eqb, leb, ltb, ◌&&◌, ◌||◌, refl, ap, arith}
use Rattle.std.specs.List.{Contains}
use Rattle.std.proofs.lemmas.Bool.{cases_eq, and_parts, and_from, or_left, or_right, eqb-true, eq-eqb, leb-true, le-leb, ltb-true, lt-ltb}
use Rattle.ipl_meaning.specs.Tables.{Tables, clean_from, IsCountedClean}

-- at the place of one of the first n units
counts_home : Tables → ℕ → ℕ → ℕ → Bool
counts_home t p s zero = false
counts_home t p s (suc n) = (eqb p (slice_index t.places.current n) && leb (clean_from t n) s) || counts_home t p s n

-- at one of these overflow places
counts_listed : List (ℕ × ℕ) → ℕ → ℕ → Bool
counts_listed [] p s = false
counts_listed (spot ∷ spots) p s = (eqb spot.0 p && leb spot.1 s) || counts_listed spots p s

pub counts_clean : Tables → ℕ → ℕ → Bool
counts_clean t p s = ltb s 256
    && (counts_home t p s (length t.places.current)
    || (counts_listed t.overflow.in_use p s
    || (eqb p t.status.place && leb t.status.first s)))

-- ---- it is so exactly where they do

or_cases : (a b : Bool) → (a || b) ≡ true → (a ≡ true) ⊎ (b ≡ true)
or_cases true b is = inl refl
or_cases false b is = inr is

home_counted : (t : Tables) (p s n : ℕ) → counts_home t p s n ≡ true
    → (u : ℕ) × (u < n) × (p ≡ slice_index t.places.current u) × (clean_from t u ≤ s)
unfolding counts_home
home_counted t p s zero is = absurd cc
home_counted t p s (suc n) is = elim (or_cases _ _ is) [
  | inl last ↦ let both = and_parts _ _ last in (n, omega arith, eqb-true _ _ both.0, leb-true _ _ both.1)
  | inr before ↦ let (u, low, at, from) = home_counted t p s n before in (u, omega (arith, low), at, from)
]

counted_home : (t : Tables) (p s n u : ℕ) → u < n → p ≡ slice_index t.places.current u → clean_from t u ≤ s
    → counts_home t p s n ≡ true
unfolding counts_home
counted_home t p s zero u low at from = absurd (omega (arith, low))
counted_home t p s (suc n) u low at from = elim (cases_eq u n) [
  | inl same ↦
      let here : p ≡ slice_index t.places.current n = rw same at at in
      let above : clean_from t n ≤ s = rw same at from in
      or_left _ _ (and_from _ _ (eq-eqb _ _ here) (le-leb _ _ above))
  | inr other ↦ or_right _ _ (counted_home t p s n u (omega (arith, low, other)) at from)
]

listed_counted : (l : List (ℕ × ℕ)) (p s : ℕ) → counts_listed l p s ≡ true
    → (first : ℕ) × Contains l (p, first) × (first ≤ s)
unfolding counts_listed
listed_counted [] p s is = absurd cc
listed_counted ((q, first) ∷ l) p s is = elim (or_cases _ _ is) [
  | inl here ↦
      let both = and_parts _ _ here in
      let at : q ≡ p = eqb-true _ _ both.0 in (first, (0, omega arith, rw at refl), leb-true _ _ both.1)
  | inr later ↦
      let (found, (k, within, is_it), above) = listed_counted l p s later in
      (found, (suc k, omega (arith, within), is_it), above)
]

counted_listed : (l : List (ℕ × ℕ)) (p s first k : ℕ) → k < length l
    → get_or l k (p, first) ≡ (p, first) → first ≤ s → counts_listed l p s ≡ true
unfolding counts_listed
counted_listed [] p s first k within is above = absurd (omega (arith, within))
counted_listed ((q, n) ∷ l) p s first zero within is above =
    let at : q ≡ p = ap (λ (z : ℕ × ℕ). z.0) is in
    let from : n ≡ first = ap (λ (z : ℕ × ℕ). z.1) is in
    or_left _ _ (and_from _ _ (eq-eqb _ _ at) (le-leb _ _ (omega (arith, from, above))))
counted_listed ((q, n) ∷ l) p s first (suc k) within is above =
    or_right _ _ (counted_listed l p s first k (omega (arith, within)) is above)

pub counts_as_counted : (t : Tables) (p s : ℕ) → counts_clean t p s ≡ true → IsCountedClean t p s
unfolding counts_clean
counts_as_counted t p s is =
    let both = and_parts _ _ is in
    let small : s < 256 = ltb-true _ _ both.0 in
    elim (or_cases _ _ both.1) [
      | inl home ↦ (small, inl (home_counted t p s (length t.places.current) home))
      | inr other ↦ elim (or_cases _ _ other) [
        | inl listed ↦ (small, inr (inl (listed_counted t.overflow.in_use p s listed)))
        | inr status ↦
            let at = and_parts _ _ status in (small, inr (inr (eqb-true _ _ at.0, leb-true _ _ at.1)))
      ]
    ]

pub counted_counts : (t : Tables) (p s : ℕ) → IsCountedClean t p s → counts_clean t p s ≡ true
unfolding counts_clean
counted_counts t p s (small, inl (u, low, at, from)) =
    and_from _ _ (lt-ltb _ _ small) (or_left _ _ (counted_home t p s (length t.places.current) u low at from))
counted_counts t p s (small, inr (inl (first, (k, within, is), above))) =
    and_from _ _ (lt-ltb _ _ small) (or_right _ _ (or_left _ _ (counted_listed t.overflow.in_use p s first k within is above)))
counted_counts t p s (small, inr (inr (at, above))) =
    and_from _ _ (lt-ltb _ _ small)
    (or_right _ _ (or_right _ _ (and_from _ _ (eq-eqb _ _ at) (le-leb _ _ above))))
