-- Pages' numbers in rising order, each with a key.
use Rattle.std.proofs.Common.{◌≡◌, ◌≢◌, ℕ, zero, suc, ◌<◌, ◌≤◌, eqb, List, [], ◌∷◌, length, get_or, Some, None, Contains, Result, Ok, Err, IfOk, IfErr, inl, inr, refl, sym, ◌∙◌, ap, subst, arith}
use Rattle.std.specs.List.{insert, remove}
use Rattle.std.specs.List.Sorted.{IsSearchInRange, IsBinarySearchResult, IsNonDecreasingBy}
use Rattle.std.specs.Ordering.{nat_cmp, ordering_index}
use Rattle.std.proofs.lemmas.Bool.{cases_Bool, cases_eq, cases_lt, eqb-true, eq-eqb, ne_eqb, false≢true}
use Rattle.std.proofs.lemmas.Bool.Decides.{nat_tests}
use Rattle.std.proofs.lemmas.Cmp.{ranked}
use Rattle.std.proofs.lemmas.List.{get_or-map, length-map}
use Rattle.std.proofs.lemmas.List.Sorted.{IsNonDecreasingBy-from_default}
use Rattle.slab.proofs.SlabLemmas.{Contains-cons, Contains-cons_cases}
use Rattle.buffer_pool.specs.Index.{key_of, with_key, numbers_of, EachIsAboveTheLast, AreNumbersAbove, NumbersRise, number_at, HasNumberAt, IsGapFor}

pub some_is : {X : Type 0} (x y : X) → Some x ≡ Some y → x ≡ y
some_is x y same = cc same

pub no_some : {X : Type 0} (x : X) → None ≡ Some x → ⊥
no_some x none = absurd (cc none)

-- ---- order

above_at : (low : ℕ) (l : List (ℕ × ℕ)) (k : ℕ) → AreNumbersAbove low l → k < length l → low < number_at l k
above_at low [] k above within = absurd (omega (arith, within))
above_at low ((n, key) ∷ rest) zero above within = above.0
above_at low ((n, key) ∷ rest) (suc k) above within =
    above_at low rest k above.1 (omega (arith, within))

above_from : (low : ℕ) (l : List (ℕ × ℕ)) → ((k : ℕ) → k < length l → low < number_at l k)
    → AreNumbersAbove low l
above_from low [] each = tt
above_from low ((n, key) ∷ rest) each =
    (each 0 (omega arith), above_from low rest (λ k within. each (suc k) (omega (arith, within))))

rising_at : (l : List (ℕ × ℕ)) (i j : ℕ) → NumbersRise l → i < j → j < length l
    → number_at l i < number_at l j
rising_at [] i j rise less within = absurd (omega (arith, within))
rising_at ((n, key) ∷ rest) zero zero rise less within = absurd (omega (arith, less))
rising_at ((n, key) ∷ rest) zero (suc j) rise less within =
    above_at n rest j rise.0 (omega (arith, within))
rising_at ((n, key) ∷ rest) (suc i) zero rise less within = absurd (omega (arith, less))
rising_at ((n, key) ∷ rest) (suc i) (suc j) rise less within =
    rising_at rest i j rise.1 (omega (arith, less)) (omega (arith, within))

rising_weakly : (l : List (ℕ × ℕ)) (i j : ℕ) → NumbersRise l → i ≤ j → j < length l
    → number_at l i ≤ number_at l j
rising_weakly l i j rise before within = elim (cases_eq i j) [
  | inl same ↦ omega (arith, ap (number_at l) same)
  | inr other ↦
      let less : number_at l i < number_at l j =
      rising_at l i j rise (omega (arith, before, other)) within in
      omega (arith, less)
]

above_insert : (low : ℕ) (l : List (ℕ × ℕ)) (at number key : ℕ) → AreNumbersAbove low l → low < number
    → AreNumbersAbove low (insert l at (number, key))
above_insert low [] zero number key above less = (less, tt)
above_insert low [] (suc at) number key above less = (less, tt)
above_insert low ((n, k) ∷ rest) zero number key above less = (less, above)
above_insert low ((n, k) ∷ rest) (suc at) number key above less =
    (above.0, above_insert low rest at number key above.1 less)

pub rising_insert : (l : List (ℕ × ℕ)) (at number key : ℕ) → NumbersRise l → IsGapFor l number at
    → NumbersRise (insert l at (number, key))
rising_insert l zero number key rise gap =
    (above_from number l (λ k within. gap.above k (omega arith) within), rise)
rising_insert [] (suc at) number key rise gap = absurd (let w = gap.within in omega (arith, w))
rising_insert ((n, k) ∷ rest) (suc at) number key rise gap =
    let w = gap.within in
    let first : n < number = gap.below 0 (omega arith) in
    let later : IsGapFor rest number at = record {
      within = omega (arith, w);
      below = λ i less. gap.below (suc i) (omega (arith, less));
      above = λ i from within. gap.above (suc i) (omega (arith, from)) (omega (arith, within));
    } in
    (above_insert n rest at number key rise.0 first, rising_insert rest at number key rise.1 later)

above_remove : (low : ℕ) (l : List (ℕ × ℕ)) (at : ℕ) → AreNumbersAbove low l → AreNumbersAbove low (remove l at)
above_remove low [] zero above = tt
above_remove low [] (suc at) above = tt
above_remove low ((n, k) ∷ rest) zero above = above.1
above_remove low ((n, k) ∷ rest) (suc at) above = (above.0, above_remove low rest at above.1)

pub rising_remove : (l : List (ℕ × ℕ)) (at : ℕ) → NumbersRise l → NumbersRise (remove l at)
rising_remove [] zero rise = tt
rising_remove [] (suc at) rise = tt
rising_remove ((n, k) ∷ rest) zero rise = rise.1
rising_remove ((n, k) ∷ rest) (suc at) rise = (above_remove n rest at rise.0, rising_remove rest at rise.1)

-- ---- keys

key_none : (l : List (ℕ × ℕ)) (number : ℕ)
    → ((k : ℕ) → k < length l → number_at l k ≢ number) → key_of l number ≡ None
key_none [] number differ = refl
key_none ((n, key) ∷ rest) number differ =
    rw (ne_eqb n number (differ 0 (omega arith)))
    (key_none rest number (λ k within. differ (suc k) (omega (arith, within))))

key_above : (l : List (ℕ × ℕ)) (number : ℕ) → AreNumbersAbove number l → key_of l number ≡ None
key_above l number above = key_none l number (λ k within same.
    let less : number < number_at l k = above_at number l k above within in
    absurd (omega (arith, less, same)))

pub key_at : (l : List (ℕ × ℕ)) (at number : ℕ) → NumbersRise l → HasNumberAt l number at
    → key_of l number ≡ Some (get_or l at (0, 0)).1
key_at [] at number rise is = absurd (let w = is.within in omega (arith, w))
key_at ((n, key) ∷ rest) zero number rise is = rw (eq-eqb n number is.number_is) refl
key_at ((n, key) ∷ rest) (suc at) number rise is =
    let w = is.within in
    let later : HasNumberAt rest number at = record { within = omega (arith, w); number_is = is.number_is } in
    let less : n < number_at rest at = above_at n rest at rise.0 later.within in
    let here : number_at rest at ≡ number = is.number_is in
    rw (ne_eqb n number (λ same. absurd (omega (arith, less, here, same))))
    (key_at rest at number rise.1 later)

pub key_gap : (l : List (ℕ × ℕ)) (at number : ℕ) → IsGapFor l number at → key_of l number ≡ None
key_gap l at number gap = key_none l number (λ k within same. elim (cases_lt k at) [
  | inl before ↦ let less = gap.below k before in absurd (omega (arith, less, same))
  | inr behind ↦ let more = gap.above k behind within in absurd (omega (arith, more, same))
])

pub key_insert : (l : List (ℕ × ℕ)) (at number key : ℕ) → at ≤ length l
    → ((k : ℕ) → k < at → number_at l k < number)
    → (n : ℕ) → key_of (insert l at (number, key)) n ≡ with_key (key_of l) number (Some key) n
key_insert l zero number key within low n = refl
key_insert [] (suc at) number key within low n = absurd (omega (arith, within))
key_insert ((m, k) ∷ rest) (suc at) number key within low n =
    let less : m < number = low 0 (omega arith) in
    let later = key_insert rest at number key (omega (arith, within))
    (λ i before. low (suc i) (omega (arith, before))) n in
    elim (cases_Bool (eqb m n)) [
      | inl same ↦
          let other : number ≢ n = λ is. absurd (omega (arith, less, eqb-true m n same, is)) in
          rw (same, ne_eqb number n other) refl
      | inr differs ↦ rw differs later
    ]

pub key_remove : (l : List (ℕ × ℕ)) (at number : ℕ) → NumbersRise l → HasNumberAt l number at
    → (n : ℕ) → key_of (remove l at) n ≡ with_key (key_of l) number None n
key_remove [] at number rise is n = absurd (let w = is.within in omega (arith, w))
key_remove ((m, k) ∷ rest) zero number rise is n =
    let here : m ≡ number = is.number_is in
    elim (cases_Bool (eqb number n)) [
      | inl same ↦
          let above : AreNumbersAbove n rest =
          subst (λ (b : ℕ). AreNumbersAbove b rest) (here ∙ eqb-true number n same) rise.0 in
          rw same (key_above rest n above)
      | inr differs ↦ rw (differs, ap (λ (x : ℕ). eqb x n) here ∙ differs) refl
    ]
key_remove ((m, k) ∷ rest) (suc at) number rise is n =
    let w = is.within in
    let later : HasNumberAt rest number at = record { within = omega (arith, w); number_is = is.number_is } in
    let less : m < number_at rest at = above_at m rest at rise.0 later.within in
    let here : number_at rest at ≡ number = is.number_is in
    elim (cases_Bool (eqb m n)) [
      | inl same ↦
          let other : number ≢ n =
          λ differs. absurd (omega (arith, less, here, eqb-true m n same, differs)) in
          rw (same, ne_eqb number n other) refl
      | inr differs ↦ rw differs (key_remove rest at number rise.1 later n)
    ]

-- ---- the numbers, in their order

pub numbers_at : (l : List (ℕ × ℕ)) (i : ℕ) → i < length l → get_or (numbers_of l) i 0 ≡ number_at l i
numbers_at l i within = get_or-map (λ (e : ℕ × ℕ). e.0) l i (0, 0) 0 within

pub length-numbers : (l : List (ℕ × ℕ)) → length (numbers_of l) ≡ length l
length-numbers l = length-map l (λ (e : ℕ × ℕ). e.0)

pub numbers_rise : (l : List (ℕ × ℕ)) → NumbersRise l → EachIsAboveTheLast (numbers_of l)
numbers_rise l rise i j less within =
    let inside : j < length l = omega (arith, within, length-numbers l) in
    let more : number_at l i < number_at l j = rising_at l i j rise less inside in
    omega (arith, more, numbers_at l i (omega (arith, less, inside)), numbers_at l j inside)

-- those in the order have keys, and no others
pub ordered_key : (l : List (ℕ × ℕ)) (n : ℕ) → Contains (numbers_of l) n
    → (key : ℕ) × (key_of l n ≡ Some key)
ordered_key [] n has = absurd (omega (arith, has.1))
ordered_key ((m, key) ∷ rest) n has = elim (cases_Bool (eqb m n)) [
  | inl same ↦ (key, rw same refl)
  | inr differs ↦ elim (Contains-cons_cases m n (numbers_of rest) has) [
    | inl here ↦ absurd (false≢true (sym differs ∙ eq-eqb m n here))
    | inr later ↦ let (k, is) = ordered_key rest n later in (k, rw differs is)
  ]
]

pub key_ordered : (l : List (ℕ × ℕ)) (n key : ℕ) → key_of l n ≡ Some key
    → Contains (numbers_of l) n
key_ordered [] n key is = absurd (no_some key is)
key_ordered ((m, k) ∷ rest) n key is = elim (cases_Bool (eqb m n)) [
  | inl same ↦ (0, omega arith, eqb-true m n same)
  | inr differs ↦
      Contains-cons m n (numbers_of rest) (key_ordered rest n key (rw differs at is))
]

-- the number at a place has the key there
pub key_there : (l : List (ℕ × ℕ)) (i : ℕ) → NumbersRise l → i < length l
    → key_of l (number_at l i) ≡ Some (get_or l i (0, 0)).1
key_there l i rise within =
    key_at l i (number_at l i) rise (record { within = within; number_is = refl })

-- ---- a search

module _ (l : List (ℕ × ℕ)) (rise : NumbersRise l) (number : ℕ) where
  compares_rise : IsNonDecreasingBy (λ e. ordering_index (nat_cmp e.0 number)) l
  compares_rise = IsNonDecreasingBy-from_default (λ e. ordering_index (nat_cmp e.0 number)) l (0, 0)
      (λ i j before within.
      let rises : number_at l i ≤ number_at l j = rising_weakly l i j rise before within in
      grind (arith, nat_tests))

  -- it ends at the number, or at the gap for it
  pub searched : (r : Result ℕ ℕ) → IsSearchInRange r (length l)
      → IsBinarySearchResult (λ e. nat_cmp e.0 number) l r
      → record { found : IfOk r (HasNumberAt l number); absent : IfErr r (IsGapFor l number) }
  searched (Ok at) within equal = record {
    found = record { within = within; number_is = ranked _ number _ (sym (equal (0, 0))) };
    absent = tt;
  }
  searched (Err at) within parted = record {
    found = tt;
    absent = record {
      within = within;
      below = λ k less.
          ranked _ number _ (sym ((parted compares_rise).0 k (0, 0) (omega arith) less));
      above = λ k from inside. ranked _ number _ (sym ((parted compares_rise).1 k (0, 0) from inside));
    };
  }
