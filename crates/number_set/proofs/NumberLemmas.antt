-- Numbers in rising order.
use Rattle.std.proofs.Common.{◌≡◌, ◌≢◌, ◌⊎◌, ◌↔◌, ℕ, zero, suc, ◌<◌, ◌≤◌, ◌+◌, true, false, nat_lt, List, [], ◌∷◌, length, get_or, inl, inr, refl, sym, ap, subst, arith, eqb}
use Rattle.std.specs.List.{Contains, All, insert}
use Rattle.std.proofs.lemmas.Bool.{cases_Bool, eqb-true, ltb-true, ltb-false, eq-eqb, ne_eqb, lt-ltb, le-ltb}
use Rattle.std.proofs.lemmas.List.Elements.{All-cons, All-nil, All-weaker, All-contains, All-contains_itself}
use Rattle.std.proofs.lemmas.List.Kept.{AllPairs-cons}
use Rattle.number_set.specs.Numbers.{with_number, with_numbers, IsLess, AreRising}

pub contains_cons : {X : Type 0} (x : X) (xs : List X) (y : X) → Contains (x ∷ xs) y
    → (x ≡ y) ⊎ Contains xs y
contains_cons x xs y (zero, _, is) = inl is
contains_cons x xs y (suc k, within, is) = inr (k, omega (arith, within), is)

pub contains_here : {X : Type 0} (x : X) (xs : List X) → Contains (x ∷ xs) x
contains_here x xs = (0, omega arith, refl)

pub contains_there : {X : Type 0} (x : X) (xs : List X) (y : X) → Contains xs y
    → Contains (x ∷ xs) y
contains_there x xs y (k, within, is) = (suc k, omega (arith, within), is)

-- ---- which numbers there are

pub with_number_has : (n : ℕ) (l : List ℕ) → Contains (with_number n l) n
with_number_has n [] = contains_here n []
with_number_has n (k ∷ l) = elim (cases_Bool (nat_lt n k)) [
  | inl less ↦ rw less (contains_here n (k ∷ l))
  | inr more ↦ elim (cases_Bool (eqb n k)) [
    | inl same ↦ rw (more, same)
        (subst (Contains (k ∷ l)) (sym (eqb-true n k same)) (contains_here k l))
    | inr other ↦ rw (more, other) (contains_there k (with_number n l) n (with_number_has n l))
  ]
]

pub with_number_keeps : (n : ℕ) (l : List ℕ) (x : ℕ) → Contains l x → Contains (with_number n l) x
with_number_keeps n [] x is = contains_there n [] x is
with_number_keeps n (k ∷ l) x is = elim (cases_Bool (nat_lt n k)) [
  | inl less ↦ rw less (contains_there n (k ∷ l) x is)
  | inr more ↦ elim (cases_Bool (eqb n k)) [
    | inl same ↦ rw (more, same) is
    | inr other ↦ rw (more, other) (elim (contains_cons k l x is) [
      | inl first ↦ subst (Contains (k ∷ with_number n l)) first (contains_here k (with_number n l))
      | inr later ↦ contains_there k (with_number n l) x (with_number_keeps n l x later)
    ])
  ]
]

pub with_number_from : (n : ℕ) (l : List ℕ) (x : ℕ) → Contains (with_number n l) x
    → (n ≡ x) ⊎ Contains l x
with_number_from n [] x is = contains_cons n [] x is
with_number_from n (k ∷ l) x is = elim (cases_Bool (nat_lt n k)) [
  | inl less ↦ contains_cons n (k ∷ l) x (rw less at is)
  | inr more ↦ elim (cases_Bool (eqb n k)) [
    | inl same ↦ inr (rw (more, same) at is)
    | inr other ↦ elim (contains_cons k (with_number n l) x (rw (more, other) at is)) [
      | inl first ↦ inr (subst (Contains (k ∷ l)) first (contains_here k l))
      | inr later ↦ elim (with_number_from n l x later) [
        | inl this ↦ inl this
        | inr before ↦
            inr (contains_there k l x before)
      ]
    ]
  ]
]

pub numbers_are_a_union : (more numbers : List ℕ) (n : ℕ)
    → Contains (with_numbers more numbers) n ↔ (Contains more n ⊎ Contains numbers n)
numbers_are_a_union more numbers n = (there more numbers, back more numbers)
  where
    there : (more numbers : List ℕ) → Contains (with_numbers more numbers) n
        → Contains more n ⊎ Contains numbers n
    there [] numbers is = inr is
    there (k ∷ more) numbers is = elim (there more (with_number k numbers) is) [
      | inl later ↦ inl (contains_there k more n later)
      | inr has ↦ elim (with_number_from k numbers n has) [
        | inl same ↦ inl (subst (Contains (k ∷ more)) same (contains_here k more))
        | inr before ↦ inr before
      ]
    ]

    back : (more numbers : List ℕ) → Contains more n ⊎ Contains numbers n
        → Contains (with_numbers more numbers) n
    back [] numbers (inl none) = absurd (let within = none.1 in omega (arith, within))
    back [] numbers (inr has) = has
    back (k ∷ more) numbers (inl is) =
        back more (with_number k numbers) (elim (contains_cons k more n is) [
          | inl same ↦ inr (subst (Contains (with_number k numbers)) same (with_number_has k numbers))
          | inr later ↦ inl later
        ])
    back (k ∷ more) numbers (inr has) =
        back more (with_number k numbers) (inr (with_number_keeps k numbers n has))

-- ---- how many

pub length_with_number : (n : ℕ) (l : List ℕ) → length (with_number n l) ≤ length l + 1
length_with_number n [] = omega arith
length_with_number n (k ∷ l) = elim (cases_Bool (nat_lt n k)) [
  | inl less ↦ rw less (omega arith)
  | inr more ↦ elim (cases_Bool (eqb n k)) [
    | inl same ↦ rw (more, same) (omega arith)
    | inr other ↦ rw (more, other) (omega (arith, length_with_number n l))
  ]
]

pub length_with_numbers : (more l : List ℕ) → length (with_numbers more l) ≤ length l + length more
length_with_numbers [] l = omega arith
length_with_numbers (n ∷ more) l =
    omega (arith, length_with_number n l, length_with_numbers more (with_number n l))

-- a number that isn't there makes one more
pub one_more_with : (n : ℕ) (l : List ℕ) → (Contains l n → ⊥) → length l < length (with_number n l)
one_more_with n [] apart = omega arith
one_more_with n (k ∷ l) apart = elim (cases_Bool (nat_lt n k)) [
  | inl less ↦ rw less (omega arith)
  | inr more ↦ elim (cases_Bool (eqb n k)) [
    | inl same ↦ absurd (apart (subst (Contains (k ∷ l)) (sym (eqb-true n k same)) (contains_here k l)))
    | inr other ↦
        rw (more, other) (omega (arith, one_more_with n l (λ is. apart (contains_there k l n is))))
  ]
]

with_number_grows : (n : ℕ) (l : List ℕ) → length l ≤ length (with_number n l)
with_number_grows n [] = omega arith
with_number_grows n (k ∷ l) = elim (cases_Bool (nat_lt n k)) [
  | inl less ↦ rw less (omega arith)
  | inr more ↦ elim (cases_Bool (eqb n k)) [
    | inl same ↦ rw (more, same) (omega arith)
    | inr other ↦ rw (more, other) (omega (arith, with_number_grows n l))
  ]
]

pub with_numbers_grow : (more l : List ℕ) → length l ≤ length (with_numbers more l)
with_numbers_grow [] l = omega arith
with_numbers_grow (n ∷ more) l =
    omega (arith, with_number_grows n l, with_numbers_grow more (with_number n l))

-- ---- their order

pub rise_tail : (k : ℕ) (l : List ℕ) → AreRising (k ∷ l) → AreRising l
rise_tail k l rise = λ i j d less within. rise (suc i) (suc j) d (omega (arith, less))
    (omega (arith, within))

pub rise_head : (k : ℕ) (l : List ℕ) → AreRising (k ∷ l) → All (IsLess k) l
rise_head k l rise = λ i d within. rise 0 (suc i) d (omega arith) (omega (arith, within))

still_above : (k n : ℕ) (l : List ℕ) → k < n → All (IsLess k) l → All (IsLess k) (with_number n l)
still_above k n l less all = All-weaker (Contains (with_number n l)) (IsLess k)
    (λ x has. elim (with_number_from n l x has) [
      | inl same ↦
          subst (IsLess k) same less
      | inr before ↦ All-contains (IsLess k) l x all before
    ])
    (with_number n l) (All-contains_itself (with_number n l))

pub rising_with_number : (n : ℕ) (l : List ℕ) → AreRising l → AreRising (with_number n l)
rising_with_number n [] rise =
    AllPairs-cons IsLess n [] (All-nil (IsLess n))
    (λ i j d less within. absurd (omega (arith, within)))
rising_with_number n (k ∷ l) rise = elim (cases_Bool (nat_lt n k)) [
  | inl less ↦
      let low : n < k = ltb-true n k less in
      rw less (AllPairs-cons IsLess n (k ∷ l)
      (All-cons (IsLess n) k l low
      (All-weaker (IsLess k) (IsLess n) (λ x more. above k n x low more) l
      (rise_head k l rise))) rise)
  | inr more ↦ elim (cases_Bool (eqb n k)) [
    | inl same ↦ rw (more, same) rise
    | inr other ↦
        let high : k < n = omega (arith, ltb-false n k more, not_same n k other) in
        rw (more, other) (AllPairs-cons IsLess k (with_number n l)
        (still_above k n l high (rise_head k l rise))
        (rising_with_number n l (rise_tail k l rise)))
  ]
]
  where
    above : (k n x : ℕ) → n < k → k < x → n < x
    above k n x low more = omega arith

    not_same : (n k : ℕ) → eqb n k ≡ false → n ≢ k
    not_same n k other same = let e : eqb n k ≡ true = eq-eqb n k same in cc

pub rising_with_numbers : (more l : List ℕ) → AreRising l → AreRising (with_numbers more l)
rising_with_numbers [] l rise = rise
rising_with_numbers (n ∷ more) l rise =
    rising_with_numbers more (with_number n l) (rising_with_number n l rise)

-- ---- rising lists of the same numbers

-- of two such lists the first numbers are no different
same_first : (j k : ℕ) (a b : List ℕ) → AreRising (j ∷ a) → AreRising (k ∷ b) → Contains (k ∷ b) j
    → Contains (j ∷ a) k → j ≡ k
same_first j k a b rise_a rise_b there back = elim (contains_cons k b j there) [
  | inl same ↦ sym same
  | inr later ↦ elim (contains_cons j a k back) [
    | inl same ↦ same
    | inr after ↦ absurd (
        let more : k < j = All-contains (IsLess k) b j (rise_head k b rise_b) later in
        let less : j < k = All-contains (IsLess j) a k (rise_head j a rise_a) after in omega arith
        )
  ]
]

-- and what stands behind the first of the one stands behind that of the other
rest_there : (j k : ℕ) (a b : List ℕ) → AreRising (j ∷ a) → j ≡ k
    → ((n : ℕ) → Contains (j ∷ a) n → Contains (k ∷ b) n)
    → (n : ℕ) → Contains a n → Contains b n
rest_there j k a b rise same there n has =
    elim (contains_cons k b n (there n (contains_there j a n has))) [
      | inl first ↦ absurd (let less : j < n =
          All-contains (IsLess j) a n (rise_head j a rise) has in omega (arith, same, first))
      | inr later ↦ later
    ]

pub rising_lists_are_one : (a b : List ℕ) → AreRising a → AreRising b
    → ((n : ℕ) → Contains a n ↔ Contains b n) → a ≡ b
rising_lists_are_one a b rise_a rise_b same =
    one a b rise_a rise_b (λ n. (same n).0) (λ n. (same n).1)
  where
    one : (a b : List ℕ) → AreRising a → AreRising b → ((n : ℕ) → Contains a n → Contains b n)
        → ((n : ℕ) → Contains b n → Contains a n) → a ≡ b
    one [] [] rise_a rise_b there back = refl
    one [] (k ∷ b) rise_a rise_b there back =
        absurd (let none = (back k (contains_here k b)).1 in omega (arith, none))
    one (j ∷ a) [] rise_a rise_b there back =
        absurd (let none = (there j (contains_here j a)).1 in omega (arith, none))
    one (j ∷ a) (k ∷ b) rise_a rise_b there back =
        let first : j ≡ k = same_first j k a b rise_a rise_b (there j (contains_here j a))
        (back k (contains_here k b)) in
        let rest : a ≡ b = one a b (rise_tail j a rise_a) (rise_tail k b rise_b)
        (rest_there j k a b rise_a first there) (rest_there k j b a rise_b (sym first) back) in
        cc

-- ---- a number put in at its place

-- where those before are below it, and those behind are above
pub inserted_is : (n : ℕ) (l : List ℕ) (at : ℕ) → at ≤ length l
    → ((k : ℕ) → k < at → get_or l k 0 < n) → ((k : ℕ) → at ≤ k → k < length l → n < get_or l k 0)
    → insert l at n ≡ with_number n l
inserted_is n [] zero within low high = refl
inserted_is n [] (suc at) within low high = absurd (omega (arith, within))
inserted_is n (k ∷ l) zero within low high =
    let less : n < k = high 0 (omega arith) (omega arith) in
    rw (lt-ltb n k less) refl
inserted_is n (k ∷ l) (suc at) within low high =
    let less : k < n = low 0 (omega arith) in
    let rest : insert l at n ≡ with_number n l =
    inserted_is n l at (omega (arith, within)) (λ i before. low (suc i) (omega (arith, before)))
    (λ i after inside. high (suc i) (omega (arith, after)) (omega (arith, inside))) in
    let no_less : nat_lt n k ≡ false = le-ltb n k (omega arith) in
    let other : eqb n k ≡ false = ne_eqb n k (λ same. absurd (omega arith)) in
    rw (no_less, other) (ap (λ (xs : List ℕ). k ∷ xs) rest)

-- one that is there already
pub there_already : (n : ℕ) (l : List ℕ) → AreRising l → Contains l n → with_number n l ≡ l
there_already n [] rise is = absurd (let within = is.1 in omega (arith, within))
there_already n (k ∷ l) rise is = elim (contains_cons k l n is) [
  | inl same ↦
      let no_less : nat_lt n k ≡ false = le-ltb n k (omega (arith, same)) in
      let equal : eqb n k ≡ true = eq-eqb n k (sym same) in
      rw (no_less, equal) refl
  | inr later ↦
      let less : k < n = All-contains (IsLess k) l n (rise_head k l rise) later in
      let no_less : nat_lt n k ≡ false = le-ltb n k (omega arith) in
      let other : eqb n k ≡ false = ne_eqb n k (λ same. absurd (omega arith)) in
      rw (no_less, other) (ap (λ (xs : List ℕ). k ∷ xs)
      (there_already n l (rise_tail k l rise) later))
]
