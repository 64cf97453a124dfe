-- What a search among rising numbers answers, and what is made of the numbers then.
use Rattle.std.proofs.Common.{◌≡◌, ◌↔◌, ℕ, ◌<◌, ◌≤◌, Bool, List, length, get_or, Result, Ok, Err, IsTrue, inl, inr, refl, sym, ◌∙◌, ap, subst, arith, is_ok}
use Rattle.std.specs.List.{Contains, insert}
use Rattle.std.specs.List.Sorted.{IsBinarySearchResult}
use Rattle.std.specs.Ordering.{nat_cmp}
use Rattle.std.specs.Result.{MatchResult}
use Rattle.std.proofs.lemmas.Bool.{cases_lt, cases_eq}
use Rattle.std.proofs.lemmas.List.{get_or_default}
use Rattle.std.proofs.lemmas.List.Elements.{Contains-get_or}
use Rattle.std.proofs.lemmas.List.Sorted.{searched}
use Rattle.number_set.specs.Numbers.{with_number, AreRising}
use Rattle.number_set.proofs.NumberLemmas.{inserted_is, there_already}

-- where the number stands, or is to stand
abbrev IsPlaceOf : List ℕ → ℕ → Result ℕ ℕ → Type 0
IsPlaceOf xs n r = MatchResult r
    (λ i. (i < length xs) × (get_or xs i 0 ≡ n))
    (λ i. (i ≤ length xs) × ((k : ℕ) → k < i → get_or xs k 0 < n) ×
    ((k : ℕ) → i ≤ k → k < length xs → n < get_or xs k 0))

rise_weakly : (xs : List ℕ) → AreRising xs → (i j : ℕ) → i ≤ j → j < length xs
    → get_or xs i 0 ≤ get_or xs j 0
rise_weakly xs rise i j before within = elim (cases_eq i j) [
  | inl same ↦ omega (arith, ap (λ (k : ℕ). get_or xs k 0) same)
  | inr other ↦ let less : get_or xs i 0 < get_or xs j 0 =
      rise i j 0 (omega (arith, before, other)) within in omega arith
]

-- the list that was searched is that of the set
place_found : (xs ys : List ℕ) (n : ℕ) (r : Result ℕ ℕ) → ys ≡ xs → AreRising xs
    → IsBinarySearchResult (λ y. nat_cmp y n) ys r → IsPlaceOf xs n r
place_found xs ys n r same rise says =
    searched xs n r (subst (λ (zs : List ℕ). IsBinarySearchResult
    (λ y. nat_cmp y n) zs r) same says) (rise_weakly xs rise)

there_where_found : (xs : List ℕ) (n : ℕ) (r : Result ℕ ℕ) → IsPlaceOf xs n r
    → IsTrue (is_ok r) ↔ Contains xs n
there_where_found xs n (Ok i) (within, is) =
    (λ told. subst (Contains xs) is (Contains-get_or xs i 0 within), λ has. refl)
there_where_found xs n (Err at) (most, low, high) =
    (λ told. absurd (cc told), λ has. absurd (elsewhere has))
  where
    elsewhere : Contains xs n → ⊥
    elsewhere (k, within, is) =
        let here : get_or xs k 0 ≡ n = get_or_default xs k 0 n within ∙ is in
        elim (cases_lt k at) [
          | inl less ↦ omega (arith, low k less, here)
          | inr more ↦
              omega (arith, high k more within, here)
        ]

-- the search tells whether the number is there
pub found_iff : (xs ys : List ℕ) (n : ℕ) (r : Result ℕ ℕ) (b : Bool) → ys ≡ xs → AreRising xs
    → IsBinarySearchResult (λ y. nat_cmp y n) ys r → b ≡ is_ok r
    → IsTrue b ↔ Contains xs n
found_iff xs ys n r b same rise says is =
    subst (λ (a : Bool). IsTrue a ↔ Contains xs n) (sym is)
    (there_where_found xs n r (place_found xs ys n r same rise says))

-- where it is found, nothing changes
pub found_same : (xs ys : List ℕ) (n i : ℕ) → ys ≡ xs → AreRising xs
    → IsBinarySearchResult (λ y. nat_cmp y n) ys (Ok i) → xs ≡ with_number n xs
found_same xs ys n i same rise says =
    let (within, is) = place_found xs ys n (Ok i) same rise says in
    sym (there_already n xs rise (subst (Contains xs) is (Contains-get_or xs i 0 within)))

-- where it isn't, it is put in at the place that is answered
pub missed : (xs ys : List ℕ) (n at : ℕ) → ys ≡ xs → AreRising xs
    → IsBinarySearchResult (λ y. nat_cmp y n) ys (Err at) → insert xs at n ≡ with_number n xs
missed xs ys n at same rise says =
    let (within, low, high) = place_found xs ys n (Err at) same rise says in
    inserted_is n xs at within low high
