-- What is there below a number: in lists, and counted.
use Rattle.std.proofs.Common.{ℕ, zero, suc, ◌≡◌, ◌≢◌, ◌⊎◌, inl, inr, ◌+◌, ◌<◌, ◌≤◌, Bool, true, false, cond, eqb, List, [], ◌∷◌, ◌++◌, length, max, Option, Some, None, refl, sym, ◌∙◌, ap, subst, arith, All}
use Rattle.std.specs.Bool.{Decides}
use Rattle.std.specs.List.{list_any, count_by, Contains, AllPairs}
use Rattle.std.proofs.Math.Nat.{le-max_left, le-max_right}
use Rattle.std.proofs.lemmas.Bool.{cases_eq, cases_lt, cases_Bool, eqb-true, eq-eqb, or_parts, or_cases}
use Rattle.std.proofs.lemmas.Cmp.{nat_eq_equiv}
use Rattle.std.proofs.lemmas.List.{length_push}
use Rattle.std.proofs.lemmas.List.Elements.{All-weaker, All-contains_itself, Contains-append_left, Contains-append_right, Contains-append_cases, Contains-push, Contains-push_cases}
use Rattle.std.proofs.lemmas.List.Quantifiers.{all_pairs_push}
use Rattle.std.proofs.lemmas.List.Folds.{list_any-append}
use Rattle.std.proofs.lemmas.List.Sums.{sum_by-append}
use Rattle.std.proofs.lemmas.Map.Made.{length-le_from_is_member, is_member-Decides, IsDistinct-from_AllPairs}
use Rattle.std.proofs.lemmas.Option.{same_Some}
use Rattle.ipl_meaning.specs.First.{passes, all_below, with_one, joined_below, greatest_below, greatest_of, count_below}

-- ---- lists of those that are there

any_split : {A : Type 0} (test : A → Bool) (xs : List A) (o : Option A) → list_any test (with_one xs o) ≡ false
    → (list_any test xs ≡ false) × ((a : A) → o ≡ Some a → test a ≡ false)
any_split test xs None e = (e, λ a is. cc)
any_split test xs (Some x) e =
    let parts : (list_any test xs ≡ false) × (list_any test (x ∷ []) ≡ false) = or_parts _ _ (sym (list_any-append test xs (x ∷ [])) ∙ e) in
    (parts.0, λ a is. ap test (sym (same_Some _ _ is)) ∙ (or_parts _ _ parts.1).0)

any_join : {A : Type 0} (test : A → Bool) (xs : List A) (o : Option A) → list_any test xs ≡ false → ((a : A) → o ≡ Some a → test a ≡ false)
    → list_any test (with_one xs o) ≡ false
any_join test xs None e each = e
any_join test xs (Some x) e each = rw (list_any-append test xs (x ∷ []), e, each x refl) refl

-- none of a list passes a test
pub none_any : {A : Type 0} (f : ℕ → Option A) (test : A → Bool) (n : ℕ) → list_any test (all_below f n) ≡ false
    → (j : ℕ) (a : A) → j < n → f j ≡ Some a → test a ≡ false
none_any f test zero e j a below is = absurd (omega arith)
none_any f test (suc n) e j a below is = elim (cases_eq j n) [
  | inl same ↦ (any_split test (all_below f n) (f n) e).1 a (ap f (sym same) ∙ is)
  | inr other ↦ none_any f test n (any_split test (all_below f n) (f n) e).0 j a (omega arith) is
]

pub any_none : {A : Type 0} (f : ℕ → Option A) (test : A → Bool) (n : ℕ) → ((j : ℕ) (a : A) → j < n → f j ≡ Some a → test a ≡ false)
    → list_any test (all_below f n) ≡ false
any_none f test zero each = refl
any_none f test (suc n) each =
    any_join test (all_below f n) (f n) (any_none f test n (λ j a below is. each j a (omega arith) is)) (λ a is. each n a (omega arith) is)

-- one that passes
pub record IsThere {A : Type 0} (f : ℕ → Option A) (test : A → Bool) (n : ℕ) : Type 0 where
  pub number : ℕ
  pub value : A
  pub within : number < n
  pub here : f number ≡ Some value
  pub passes : test value ≡ true

one_more : {A : Type 0} (f : ℕ → Option A) (test : A → Bool) (n : ℕ) → IsThere f test n → IsThere f test (suc n)
one_more f test n it = record { number = it.number; value = it.value; within = omega (arith, it.within); here = it.here; passes = it.passes }

any_last : {A : Type 0} (f : ℕ → Option A) (test : A → Bool) (n : ℕ) (o : Option A) → f n ≡ o → list_any test (with_one (all_below f n) o) ≡ true
    → (list_any test (all_below f n) ≡ true → IsThere f test n) → IsThere f test (suc n)
any_last f test n None here is before = one_more f test n (before is)
any_last f test n (Some x) here is before = elim (or_cases _ _ (sym (list_any-append test (all_below f n) (x ∷ [])) ∙ is)) [
  | inl earlier ↦ one_more f test n (before earlier)
  | inr last ↦ elim (or_cases _ _ last) [
    | inl passes ↦ record { number = n; value = x; within = omega arith; here = here; passes = passes }
    | inr after ↦ absurd (cc after)
  ]
]

pub any_there : {A : Type 0} (f : ℕ → Option A) (test : A → Bool) (n : ℕ) → list_any test (all_below f n) ≡ true → IsThere f test n
any_there f test zero is = absurd (cc is)
any_there f test (suc n) is = any_last f test n (f n) refl is (any_there f test n)

pub any_some : {A : Type 0} (f : ℕ → Option A) (test : A → Bool) (n j : ℕ) (a : A) → j < n → f j ≡ Some a → test a ≡ true
    → list_any test (all_below f n) ≡ true
any_some f test n j a below is passes = elim (cases_Bool (list_any test (all_below f n))) [
  | inl some ↦ some
  | inr none ↦ absurd (let no : test a ≡ false = none_any f test n none j a below is in let both : true ≡ false = sym passes ∙ no in cc both)
]

kept_with : {A : Type 0} (xs : List A) (o : Option A) (a : A) → Contains xs a → Contains (with_one xs o) a
kept_with xs None a has = has
kept_with xs (Some x) a has = Contains-append_left xs (x ∷ []) a has

one_or_before : {A : Type 0} (xs : List A) (o : Option A) (a : A) → Contains (with_one xs o) a → (o ≡ Some a) ⊎ Contains xs a
one_or_before xs None a has = inr has
one_or_before xs (Some x) a has = elim (Contains-push_cases xs x a has) [
  | inl before ↦ inr before
  | inr same ↦ inl (ap Some same)
]

-- the list has what is there, and nothing else
pub all_has : {A : Type 0} (f : ℕ → Option A) (n k : ℕ) (a : A) → k < n → f k ≡ Some a → Contains (all_below f n) a
all_has f zero k a low is = absurd (omega arith)
all_has {A} f (suc n) k a low is = elim (cases_eq k n) [
  | inl same ↦ subst (λ (o : Option A). Contains (with_one (all_below f n) o) a) (sym (ap f (sym same) ∙ is)) (Contains-push (all_below f n) a)
  | inr other ↦ kept_with (all_below f n) (f n) a (all_has f n k a (omega arith) is)
]

pub all_from : {A : Type 0} (f : ℕ → Option A) (n : ℕ) (a : A) → Contains (all_below f n) a → (k : ℕ) × (k < n) × (f k ≡ Some a)
all_from f zero a (i, within, is) = absurd (omega (arith, within))
all_from f (suc n) a has = elim (one_or_before (all_below f n) (f n) a has) [
  | inl last ↦ (n, omega arith, last)
  | inr before ↦ let it = all_from f n a before in (it.0, omega (arith, it.1), it.2)
]

-- ---- counted

count_push : {A : Type 0} (test : A → Bool) (xs : List A) (x : A) → count_by test (xs ++ x ∷ []) ≡ count_by test xs + cond (test x) 1 0
count_push {A} test xs x = let joined = sum_by-append (λ (y : A). cond (test y) 1 0) xs (x ∷ []) in omega (arith, joined)

count_one : {A : Type 0} (test : A → Bool) (xs : List A) (o : Option A) → count_by test (with_one xs o) ≡ count_by test xs + cond (passes test o) 1 0
count_one test xs None = omega arith
count_one test xs (Some x) = count_push test xs x

pub count_all : {A : Type 0} (f : ℕ → Option A) (test : A → Bool) (n : ℕ) → count_by test (all_below f n) ≡ count_below (λ k. passes test (f k)) n
count_all f test zero = refl
count_all f test (suc n) = count_one test (all_below f n) (f n) ∙ ap (λ (m : ℕ). m + cond (passes test (f n)) 1 0) (count_all f test n)

-- the numbers below n that pass
abbrev pub passing : (ℕ → Bool) → ℕ → List ℕ
passing test zero = []
passing test (suc n) = cond (test n) (passing test n ++ n ∷ []) (passing test n)

passing_yes : (test : ℕ → Bool) (n : ℕ) → test n ≡ true → passing test (suc n) ≡ passing test n ++ n ∷ []
passing_yes test n is = rw is refl

passing_no : (test : ℕ → Bool) (n : ℕ) → test n ≡ false → passing test (suc n) ≡ passing test n
passing_no test n is = rw is refl

pub passing_has : (test : ℕ → Bool) (n k : ℕ) → k < n → test k ≡ true → Contains (passing test n) k
passing_has test zero k low is = absurd (omega arith)
passing_has test (suc n) k low is = elim (cases_eq k n) [
  | inl same ↦ subst (λ (xs : List ℕ). Contains xs k) (sym (passing_yes test n (ap test (sym same) ∙ is)))
      (subst (Contains (passing test n ++ n ∷ [])) (sym same) (Contains-push (passing test n) n))
  | inr other ↦
      let before : Contains (passing test n) k = passing_has test n k (omega arith) is in
      elim (cases_Bool (test n)) [
        | inl last ↦ subst (λ (xs : List ℕ). Contains xs k) (sym (passing_yes test n last)) (Contains-append_left (passing test n) (n ∷ []) k before)
        | inr none ↦ subst (λ (xs : List ℕ). Contains xs k) (sym (passing_no test n none)) before
      ]
]

-- it has no others
pub record IsPassing (test : ℕ → Bool) (n k : ℕ) : Type 0 where
  pub low : k < n
  pub is : test k ≡ true

pub passing_from : (test : ℕ → Bool) (n k : ℕ) → Contains (passing test n) k → IsPassing test n k
passing_from test zero k (i, within, is) = absurd (omega (arith, within))
passing_from test (suc n) k has = elim (cases_Bool (test n)) [
  | inl last ↦ elim (Contains-push_cases (passing test n) n k (subst (λ (xs : List ℕ). Contains xs k) (passing_yes test n last) has)) [
    | inl before ↦ let it = passing_from test n k before in record { low = omega (arith, it.low); is = it.is }
    | inr same ↦ record { low = omega (arith, same); is = ap test (sym same) ∙ last }
  ]
  | inr none ↦ let it = passing_from test n k (subst (λ (xs : List ℕ). Contains xs k) (passing_no test n none) has) in record { low = omega (arith, it.low); is = it.is }
]

pub passing_count : (test : ℕ → Bool) (n : ℕ) → length (passing test n) ≡ count_below test n
passing_count test zero = refl
passing_count test (suc n) = let before = passing_count test n in elim (cases_Bool (test n)) [
  | inl last ↦ rw last (length_push (passing test n) n ∙ ap (λ (m : ℕ). m + 1) before)
  | inr none ↦ rw none (before ∙ omega arith)
]

passing_low : (test : ℕ → Bool) (n : ℕ) → All (λ k. k < n) (passing test n)
passing_low test n = All-weaker (Contains (passing test n)) (λ k. k < n) (λ k has. (passing_from test n k has).low) (passing test n) (All-contains_itself (passing test n))

passing_apart : (test : ℕ → Bool) (n : ℕ) → AllPairs (λ x y. x ≢ y) (passing test n)
passing_apart test zero = λ i j d less within. absurd (omega (arith, within))
passing_apart test (suc n) = elim (cases_Bool (test n)) [
  | inl last ↦ subst (AllPairs (λ x y. x ≢ y)) (sym (passing_yes test n last))
      (all_pairs_push (λ x y. x ≢ y) (passing test n) n (passing_apart test n) (λ k d within same. let low = passing_low test n k d within in omega (arith, low, same)))
  | inr none ↦ subst (AllPairs (λ x y. x ≢ y)) (sym (passing_no test n none)) (passing_apart test n)
]

same_number : (a b : ℕ) → Decides (eqb a b) (a ≡ b)
same_number a b = (λ is. eqb-true a b is, λ is. eq-eqb a b is)

-- where a list has all that pass, it is no shorter than they are many
pub count_within : (test : ℕ → Bool) (n : ℕ) (xs : List ℕ) → ((k : ℕ) → k < n → test k ≡ true → Contains xs k) → count_below test n ≤ length xs
count_within test n xs all =
    let less : length (passing test n) ≤ length xs = length-le_from_is_member nat_eq_equiv (passing test n) xs
    (IsDistinct-from_AllPairs same_number (passing test n) (passing_apart test n))
    (λ q is. let it = passing_from test n q ((is_member-Decides same_number (passing test n) q).0 is) in
    (is_member-Decides same_number xs q).1 (all q it.low it.is)) in
    omega (arith, less, passing_count test n)

-- ---- joined lists

pub joined_has : {A : Type 0} (f : ℕ → List A) (n k : ℕ) (a : A) → k < n → Contains (f k) a → Contains (joined_below f n) a
joined_has f zero k a low has = absurd (omega arith)
joined_has f (suc n) k a low has = elim (cases_eq k n) [
  | inl same ↦ Contains-append_right (joined_below f n) (f n) a (subst (λ (m : ℕ). Contains (f m) a) same has)
  | inr other ↦ Contains-append_left (joined_below f n) (f n) a (joined_has f n k a (omega arith) has)
]

pub joined_from : {A : Type 0} (f : ℕ → List A) (n : ℕ) (a : A) → Contains (joined_below f n) a → (k : ℕ) × (k < n) × Contains (f k) a
joined_from f zero a (i, within, is) = absurd (omega (arith, within))
joined_from f (suc n) a has = elim (Contains-append_cases (joined_below f n) (f n) a has) [
  | inl before ↦ let it = joined_from f n a before in (it.0, omega (arith, it.1), it.2)
  | inr last ↦ (n, omega arith, last)
]

-- ---- the greatest

pub least-le : (least : ℕ) (f : ℕ → ℕ) (n : ℕ) → least ≤ greatest_below least f n
least-le least f zero = omega arith
least-le least f (suc n) = let before = least-le least f n in omega (arith, before, le-max_left (greatest_below least f n) (f n))

pub each-le : (least : ℕ) (f : ℕ → ℕ) (n k : ℕ) → k < n → f k ≤ greatest_below least f n
each-le least f zero k low = absurd (omega arith)
each-le least f (suc n) k low = elim (cases_eq k n) [
  | inl same ↦ let is : f k ≡ f n = ap f same in omega (arith, is, le-max_right (greatest_below least f n) (f n))
  | inr other ↦ let before = each-le least f n k (omega arith) in omega (arith, before, le-max_left (greatest_below least f n) (f n))
]

pub max_cases : (a b : ℕ) → (max a b ≡ a) ⊎ (max a b ≡ b)
max_cases a b = elim (cases_lt a b) [
  | inl less ↦ inr (omega arith)
  | inr more ↦ inl (omega arith)
]

-- the greatest is one of them, or the least
pub greatest_from : (least : ℕ) (f : ℕ → ℕ) (n : ℕ) → (greatest_below least f n ≡ least) ⊎ ((k : ℕ) × (k < n) × (greatest_below least f n ≡ f k))
greatest_from least f zero = inl refl
greatest_from least f (suc n) = elim (max_cases (greatest_below least f n) (f n)) [
  | inl before ↦ elim (greatest_from least f n) [
    | inl is ↦ inl (before ∙ is)
    | inr it ↦ inr (it.0, omega (arith, it.1), before ∙ it.2)
  ]
  | inr last ↦ inr (n, omega arith, last)
]

pub greatest_of-least : (least : ℕ) (xs : List ℕ) → least ≤ greatest_of least xs
greatest_of-least least [] = omega arith
greatest_of-least least (x ∷ xs) = let rest = greatest_of-least (max least x) xs in omega (arith, rest, le-max_left least x)

pub greatest_of-each : (least : ℕ) (xs : List ℕ) (n : ℕ) → Contains xs n → n ≤ greatest_of least xs
greatest_of-each least [] n (i, within, is) = absurd (omega (arith, within))
greatest_of-each least (x ∷ xs) n (zero, within, is) = let rest = greatest_of-least (max least x) xs in omega (arith, is, rest, le-max_right least x)
greatest_of-each least (x ∷ xs) n (suc i, within, is) = greatest_of-each (max least x) xs n (i, omega (arith, within), is)

first_or_later : (x : ℕ) (xs : List ℕ) (n : ℕ) → Contains xs n → Contains (x ∷ xs) n
first_or_later x xs n (i, within, is) = (suc i, omega (arith, within), is)

pub greatest_of_from : (least : ℕ) (xs : List ℕ) → (greatest_of least xs ≡ least) ⊎ Contains xs (greatest_of least xs)
greatest_of_from least [] = inl refl
greatest_of_from least (x ∷ xs) = elim (greatest_of_from (max least x) xs) [
  | inr later ↦ inr (first_or_later x xs (greatest_of (max least x) xs) later)
  | inl is ↦ elim (max_cases least x) [
    | inl before ↦ inl (is ∙ before)
    | inr first ↦ inr (0, omega arith, sym (is ∙ first))
  ]
]

-- the greatest of a list with one more
pub greatest_of-push : (least : ℕ) (xs : List ℕ) (n : ℕ) → greatest_of least (xs ++ n ∷ []) ≡ max (greatest_of least xs) n
greatest_of-push least [] n = refl
greatest_of-push least (x ∷ xs) n = greatest_of-push (max least x) xs n
