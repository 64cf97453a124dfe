-- Numbers that have a flag.
use Rattle.std.proofs.Common.{◌≡◌, ◌↔◌, ℕ, zero, suc, ◌<◌, ◌≤◌, ◌+◌, Bool, true, false, nat_lt, List, [], ◌∷◌, ◌++◌, length, get_or, take, inl, inr, refl, sym, ◌∙◌, ap, subst, arith, eqb, IsTrue, if◌then◌else◌}
use Rattle.std.specs.Prelude.{◌||◌, ◌==◌}
use Rattle.std.specs.List.{Contains, All}
use Rattle.std.proofs.lemmas.Bool.{cases_Bool, cases_eq, eq-eqb, ne_eqb, lt-ltb, le-ltb}
use Rattle.std.proofs.lemmas.List.Elements.{All-weaker, All-contains, All-contains_itself}
use Rattle.std.proofs.lemmas.List.Kept.{AllPairs-cons}
use Rattle.number_set.specs.Numbers.{with_number, IsLess, AreRising}
use Rattle.number_set.specs.Flags.{has_flag, flagged_from}
use Rattle.number_set.proofs.NumberLemmas.{contains_cons, contains_here, contains_there, rise_tail, rise_head}

-- where the same ranks from the k-th on have one, the same numbers do
pub same_flags : (f g : ℕ → Bool) (k : ℕ) (l : List ℕ) → ((j : ℕ) → k ≤ j → g j ≡ f j)
    → flagged_from g k l ≡ flagged_from f k l
same_flags f g k [] same = refl
same_flags f g k (n ∷ l) same =
    let rest : flagged_from g (k + 1) l ≡ flagged_from f (k + 1) l =
    same_flags f g (k + 1) l (λ j low. same j (omega (arith, low))) in
    elim (cases_Bool (f k)) [
      | inl is ↦ rw (same k (omega arith) ∙ is, is) (ap (λ (xs : List ℕ). n ∷ xs) rest)
      | inr none ↦ rw (same k (omega arith) ∙ none, none) rest
    ]

-- where none has, no number does
pub none_flagged : (f : ℕ → Bool) (k : ℕ) (l : List ℕ) → ((j : ℕ) → f j ≡ false)
    → flagged_from f k l ≡ []
none_flagged f k [] none = refl
none_flagged f k (n ∷ l) none = rw (none k) (none_flagged f (k + 1) l none)

-- they are some of the numbers
pub flagged_there : (f : ℕ → Bool) (k : ℕ) (l : List ℕ) (n : ℕ) → Contains (flagged_from f k l) n
    → Contains l n
flagged_there f k [] n has = has
flagged_there f k (m ∷ l) n has = elim (cases_Bool (f k)) [
  | inl is ↦ elim (contains_cons m (flagged_from f (k + 1) l) n (rw is at has)) [
    | inl same ↦ subst (Contains (m ∷ l)) same (contains_here m l)
    | inr later ↦ contains_there m l n (flagged_there f (k + 1) l n later)
  ]
  | inr none ↦ contains_there m l n (flagged_there f (k + 1) l n (rw none at has))
]

above_all : (f : ℕ → Bool) (k n : ℕ) (l : List ℕ) → All (IsLess n) l → All (IsLess n) (flagged_from f k l)
above_all f k n l all = All-weaker (Contains (flagged_from f k l)) (IsLess n)
    (λ x has. All-contains (IsLess n) l x all (flagged_there f k l x has))
    (flagged_from f k l) (All-contains_itself (flagged_from f k l))

-- they rise as the numbers do
pub flagged_rise : (f : ℕ → Bool) (k : ℕ) (l : List ℕ) → AreRising l → AreRising (flagged_from f k l)
flagged_rise f k [] rise = rise
flagged_rise f k (n ∷ l) rise = elim (cases_Bool (f k)) [
  | inl is ↦ rw is (AllPairs-cons IsLess n (flagged_from f (k + 1) l)
      (above_all f (k + 1) n l (rise_head n l rise)) (flagged_rise f (k + 1) l (rise_tail n l rise)))
  | inr none ↦ rw none (flagged_rise f (k + 1) l (rise_tail n l rise))
]

-- a number that is below all is put before them
put_first : (n : ℕ) (l : List ℕ) → All (IsLess n) l → with_number n l ≡ n ∷ l
put_first n [] all = refl
put_first n (k ∷ l) all =
    let less : n < k = All-contains (IsLess n) (k ∷ l) k all (contains_here k l) in
    rw (lt-ltb n k less) refl

-- Another flag, at the rank of a number: that number is one more of them.
pub flagged_more : (f g : ℕ → Bool) (k i at n : ℕ) (l : List ℕ) → AreRising l → i < length l
    → get_or l i 0 ≡ n → at ≡ k + i → ((j : ℕ) → g j ≡ ((j == at) || f j))
    → flagged_from g k l ≡ with_number n (flagged_from f k l)
flagged_more f g k i at n [] rise within is here more = absurd (omega (arith, within))
flagged_more f g k zero at n (m ∷ l) rise within is here more =
    let first : m ≡ n = is in
    let own : g k ≡ true = more k ∙ ap (λ (b : Bool). b || f k) (eq-eqb k at (omega (arith, here))) in
    let rest : flagged_from g (k + 1) l ≡ flagged_from f (k + 1) l =
    same_flags f g (k + 1) l (λ j low. more j
    ∙ ap (λ (b : Bool). b || f j) (ne_eqb j at (λ same. absurd (omega (arith, low, here, same))))) in
    elim (cases_Bool (f k)) [
      | inl was ↦
          let no_less : nat_lt n m ≡ false = le-ltb n m (omega (arith, first)) in
          let equal : eqb n m ≡ true = eq-eqb n m (sym first) in
          rw (own, was, no_less, equal) (ap (λ (xs : List ℕ). m ∷ xs) rest)
      | inr new ↦
          let all : All (IsLess n) (flagged_from f (k + 1) l) =
          above_all f (k + 1) n l (subst (λ (x : ℕ). All (IsLess x) l) first (rise_head m l rise)) in
          rw (own, new) (ap (λ (xs : List ℕ). m ∷ xs) rest
          ∙ ap (λ (x : ℕ). x ∷ flagged_from f (k + 1) l) first
          ∙ sym (put_first n (flagged_from f (k + 1) l) all))
    ]
flagged_more f g k (suc i) at n (m ∷ l) rise within is here more =
    let low : m < n = subst (λ (x : ℕ). m < x) is (rise 0 (suc i) 0 (omega arith) within) in
    let same : g k ≡ f k = more k
    ∙ ap (λ (b : Bool). b || f k) (ne_eqb k at (λ equal. absurd (omega (arith, here, equal)))) in
    let rest : flagged_from g (k + 1) l ≡ with_number n (flagged_from f (k + 1) l) =
    flagged_more f g (k + 1) i at n l (rise_tail m l rise) (omega (arith, within)) is
    (omega (arith, here)) more in
    elim (cases_Bool (f k)) [
      | inl was ↦
          let no_less : nat_lt n m ≡ false = le-ltb n m (omega (arith, low)) in
          let other : eqb n m ≡ false = ne_eqb n m (λ equal. absurd (omega (arith, low, equal))) in
          rw (same ∙ was, was, no_less, other) (ap (λ (xs : List ℕ). m ∷ xs) rest)
      | inr none ↦ rw (same ∙ none, none) rest
    ]

-- the rank of a number has a flag exactly where the number is one of those
pub flagged_has : (f : ℕ → Bool) (k i at n : ℕ) (l : List ℕ) → AreRising l → i < length l
    → get_or l i 0 ≡ n → at ≡ k + i → IsTrue (f at) ↔ Contains (flagged_from f k l) n
flagged_has f k i at n [] rise within is here = absurd (omega (arith, within))
flagged_has f k zero at n (m ∷ l) rise within is here =
    let first : m ≡ n = is in
    let here_is : at ≡ k = omega (arith, here) in
    elim (cases_Bool (f k)) [
      | inl was ↦ rw was (
        (λ told. subst (Contains (m ∷ flagged_from f (k + 1) l)) first
            (contains_here m (flagged_from f (k + 1) l))),
        (λ has. subst (λ (j : ℕ). IsTrue (f j)) (sym here_is) (was)),
      )
      | inr none ↦ rw none (
        (λ told. absurd (let e : true ≡ false = sym told ∙ ap f here_is ∙ none in cc e)),
        (λ has. absurd (let less : m < n = All-contains (IsLess m) l n (rise_head m l rise)
            (flagged_there f (k + 1) l n has) in omega (arith, first, less))),
      )
    ]
flagged_has f k (suc i) at n (m ∷ l) rise within is here =
    let low : m < n = subst (λ (x : ℕ). m < x) is (rise 0 (suc i) 0 (omega arith) within) in
    let rest : IsTrue (f at) ↔ Contains (flagged_from f (k + 1) l) n =
    flagged_has f (k + 1) i at n l (rise_tail m l rise) (omega (arith, within)) is
    (omega (arith, here)) in
    elim (cases_Bool (f k)) [
      | inl was ↦ rw was (
        (λ told. contains_there m (flagged_from f (k + 1) l) n (rest.0 told)),
        (λ has. elim (contains_cons m (flagged_from f (k + 1) l) n has) [
          | inl same ↦ absurd (omega (arith, low, same))
          | inr later ↦ rest.1 later
        ]),
      )
      | inr none ↦ rw none rest
    ]

-- one number more is looked at
pub flagged_next : (f : ℕ → Bool) (k i at : ℕ) (l : List ℕ) → i < length l → at ≡ k + i
    → flagged_from f k (take (i + 1) l)
    ≡ flagged_from f k (take i l) ++ (if f at then get_or l i 0 ∷ [] else [])
flagged_next f k i at [] within here = absurd (omega (arith, within))
flagged_next f k zero at (m ∷ l) within here =
    let here_is : at ≡ k = omega (arith, here) in
    elim (cases_Bool (f k)) [
      | inl was ↦ rw (was, ap f here_is ∙ was) refl
      | inr none ↦ rw (none, ap f here_is ∙ none) refl
    ]
flagged_next f k (suc i) at (m ∷ l) within here =
    let rest : flagged_from f (k + 1) (take (i + 1) l)
    ≡ flagged_from f (k + 1) (take i l) ++ (if f at then get_or l i 0 ∷ [] else []) =
    flagged_next f (k + 1) i at l (omega (arith, within)) (omega (arith, here)) in
    subst (λ (n : ℕ). flagged_from f k (take n (m ∷ l))
    ≡ flagged_from f k (m ∷ take i l) ++ (if f at then get_or l i 0 ∷ [] else []))
    (later i) (elim (cases_Bool (f k)) [
      | inl was ↦ rw was (ap (λ (xs : List ℕ). m ∷ xs) rest)
      | inr none ↦ rw none rest
    ])
  where
    later : (i : ℕ) → suc (i + 1) ≡ suc i + 1
    later i = omega arith

-- they are no more than the numbers
pub flagged_few : (f : ℕ → Bool) (k : ℕ) (l : List ℕ) → length (flagged_from f k l) ≤ length l
flagged_few f k [] = omega arith
flagged_few f k (n ∷ l) = elim (cases_Bool (f k)) [
  | inl is ↦ rw is (omega (arith, flagged_few f (k + 1) l))
  | inr none ↦ rw none (omega (arith, flagged_few f (k + 1) l))
]

-- what all numbers are, they are
pub flagged_all : (P : ℕ → Type 0) (f : ℕ → Bool) (k : ℕ) (l : List ℕ) → All P l → All P (flagged_from f k l)
flagged_all P f k l all = All-weaker (Contains (flagged_from f k l)) P
    (λ x has. All-contains P l x all (flagged_there f k l x has))
    (flagged_from f k l) (All-contains_itself (flagged_from f k l))

-- where none has one, they are none
pub none_length : (bytes numbers : List ℕ) (n : ℕ) → ((i : ℕ) → has_flag bytes i ≡ false)
    → length (flagged_from (has_flag bytes) 0 numbers) ≤ n
none_length bytes numbers n none =
    omega (arith, ap (λ (l : List ℕ). length l) (none_flagged (has_flag bytes) 0 numbers none))

-- with another flag they are at most one more
pub one_more : (f g : ℕ → Bool) (k at : ℕ) (l : List ℕ) → ((j : ℕ) → g j ≡ ((j == at) || f j))
    → length (flagged_from g k l) ≤ length (flagged_from f k l) + 1
one_more f g k at [] more = omega arith
one_more f g k at (n ∷ l) more = elim (cases_eq k at) [
  | inl here ↦
      let own : g k ≡ true = more k ∙ ap (λ (b : Bool). b || f k) (eq-eqb k at here) in
      let rest : flagged_from g (k + 1) l ≡ flagged_from f (k + 1) l =
      same_flags f g (k + 1) l (λ j low. more j
      ∙ ap (λ (b : Bool). b || f j) (ne_eqb j at (λ same. absurd (omega (arith, low, here, same))))) in
      elim (cases_Bool (f k)) [
        | inl was ↦ rw (own, was) (omega (arith, ap (λ (xs : List ℕ). length xs) rest))
        | inr none ↦ rw (own, none) (omega (arith, ap (λ (xs : List ℕ). length xs) rest))
      ]
  | inr other ↦
      let same : g k ≡ f k = more k ∙ ap (λ (b : Bool). b || f k) (ne_eqb k at other) in
      let rest = one_more f g (k + 1) at l more in
      elim (cases_Bool (f k)) [
        | inl was ↦ rw (same ∙ was, was) (omega (arith, rest))
        | inr none ↦ rw (same ∙ none, none) rest
      ]
]
