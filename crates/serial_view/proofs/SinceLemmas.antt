-- Numbers that pass a test, up to one; and those that pass since the last that begins.
use Rattle.std.proofs.Common.{◌≡◌, ℕ, zero, suc, ◌+◌, ◌<◌, nat_lt, Bool, true, false, cond, not, ◌&&◌, ◌||◌, List, [], ◌∷◌, ◌++◌, refl, sym, ◌∙◌, ap, arith}
use Rattle.std.specs.Prelude.{filter}
use Rattle.std.specs.List.{range_with_len, list_any}
use Rattle.std.proofs.lemmas.Bool.{and_left, and_right, lt-ltb, le-ltb}
use Rattle.std.proofs.lemmas.List.{append-nil}
use Rattle.std.proofs.lemmas.List.Elements.{filter-append}
use Rattle.std.proofs.lemmas.List.Folds.{list_any-append}

-- ---- numbers up to one

pub range_more : (a n : ℕ) → range_with_len a (suc n) ≡ range_with_len a n ++ (a + n) ∷ []
range_more a zero = let e : a ≡ a + 0 = omega arith in ap (λ (k : ℕ). k ∷ []) e
range_more a (suc n) =
    let e : (a + 1) + n ≡ a + suc n = omega arith in
    ap (λ (l : List ℕ). a ∷ l) (range_more (a + 1) n ∙ ap (λ (k : ℕ). range_with_len (a + 1) n ++ k ∷ []) e)

pub upto_more : (n : ℕ) → range_with_len 0 (suc n) ≡ range_with_len 0 n ++ n ∷ []
upto_more n =
    let e : 0 + n ≡ n = omega arith in
    range_more 0 n ∙ ap (λ (k : ℕ). range_with_len 0 n ++ k ∷ []) e

filter-upto : (p : ℕ → Bool) (n : ℕ)
    → filter p (range_with_len 0 (suc n)) ≡ filter p (range_with_len 0 n) ++ cond (p n) (n ∷ []) []
filter-upto p n = ap (filter p) (upto_more n) ∙ filter-append p (range_with_len 0 n) (n ∷ [])

filter_same : (p q : ℕ → Bool) (n : ℕ) → ((j : ℕ) → j < n → p j ≡ q j)
    → filter p (range_with_len 0 n) ≡ filter q (range_with_len 0 n)
filter_same p q zero same = refl
filter_same p q (suc n) same =
    filter-upto p n
    ∙ ap (λ (l : List ℕ). l ++ cond (p n) (n ∷ []) []) (filter_same p q n (λ j l. same j (omega arith)))
    ∙ ap (λ (b : Bool). filter q (range_with_len 0 n) ++ cond b (n ∷ []) []) (same n (omega arith))
    ∙ sym (filter-upto q n)

filter_none : (p : ℕ → Bool) (n : ℕ) → ((j : ℕ) → j < n → p j ≡ false) → filter p (range_with_len 0 n) ≡ []
filter_none p zero none = refl
filter_none p (suc n) none =
    filter-upto p n
    ∙ ap (λ (l : List ℕ). l ++ cond (p n) (n ∷ []) []) (filter_none p n (λ j l. none j (omega arith)))
    ∙ ap (λ (b : Bool). cond b (n ∷ []) []) (none n (omega arith))

list_any-upto : (p : ℕ → Bool) (n : ℕ)
    → list_any p (range_with_len 0 (suc n)) ≡ (list_any p (range_with_len 0 n) || (p n || false))
list_any-upto p n = ap (list_any p) (upto_more n) ∙ list_any-append p (range_with_len 0 n) (n ∷ [])

none_of : (p : ℕ → Bool) (n : ℕ) → ((j : ℕ) → j < n → p j ≡ false) → list_any p (range_with_len 0 n) ≡ false
none_of p zero none = refl
none_of p (suc n) none =
    list_any-upto p n
    ∙ ap (λ (b : Bool). b || (p n || false)) (none_of p n (λ j l. none j (omega arith)))
    ∙ ap (λ (b : Bool). b || false) (none n (omega arith))

-- ---- turns since the last that begins

module _ (turn begin : ℕ → Bool) where
  -- one begins after j, and before n
  abbrev after_it : ℕ → ℕ → Bool
  after_it j n = list_any (λ i. nat_lt j i && begin i) (range_with_len 0 n)

  abbrev since : ℕ → List ℕ
  since n = filter (λ j. turn j && not (after_it j n)) (range_with_len 0 n)

  after_more : (j n : ℕ) → after_it j (suc n) ≡ (after_it j n || ((nat_lt j n && begin n) || false))
  after_more j n = list_any-upto (λ i. nat_lt j i && begin i) n

  none_after : (n : ℕ) → after_it n (suc n) ≡ false
  none_after n = none_of (λ i. nat_lt n i && begin i) (suc n) (λ i l. and_left _ _ (le-ltb n i (omega arith)))

  last_one : (n : ℕ) (b : Bool) → turn n ≡ b → (turn n && not (after_it n (suc n))) ≡ b
  last_one n true e = ap (λ (a : Bool). turn n && not a) (none_after n) ∙ ap (λ (a : Bool). a && true) e
  last_one n false e = ap (λ (a : Bool). a && not (after_it n (suc n))) e

  since_more : (n : ℕ) (b : Bool) → turn n ≡ b → since (suc n)
      ≡ filter (λ j. turn j && not (after_it j (suc n))) (range_with_len 0 n) ++ cond b (n ∷ []) []
  since_more n b t =
      filter-upto (λ j. turn j && not (after_it j (suc n))) n
      ∙ ap (λ (a : Bool). filter (λ j. turn j && not (after_it j (suc n))) (range_with_len 0 n) ++ cond a (n ∷ []) [])
      (last_one n b t)

  pub since_begun : (n : ℕ) → begin n ≡ true → turn n ≡ true → since (suc n) ≡ n ∷ []
  since_begun n b t =
      since_more n true t
      ∙ ap (λ (l : List ℕ). l ++ n ∷ []) (filter_none _ n (λ j l. and_right _ _ (ended j l)))
    where
      or_true : (a : Bool) → (a || true) ≡ true
      or_true true = refl
      or_true false = refl

      ended : (j : ℕ) → j < n → not (after_it j (suc n)) ≡ false
      ended j l = ap not (
          after_more j n
          ∙ ap (λ (a : Bool). after_it j n || ((a && begin n) || false)) (lt-ltb j n l)
          ∙ ap (λ (a : Bool). after_it j n || (a || false)) b
          ∙ or_true (after_it j n))

  kept : (n : ℕ) → begin n ≡ false → (j : ℕ) → j < n
      → (turn j && not (after_it j (suc n))) ≡ (turn j && not (after_it j n))
  kept n b j l = ap (λ (a : Bool). turn j && not a) (
      after_more j n
      ∙ ap (λ (a : Bool). after_it j n || ((nat_lt j n && a) || false)) b
      ∙ or_false (after_it j n) (nat_lt j n))
    where
      or_false : (a c : Bool) → (a || ((c && false) || false)) ≡ a
      or_false true c = refl
      or_false false true = refl
      or_false false false = refl

  goes_on : (n : ℕ) (b : Bool) → begin n ≡ false → turn n ≡ b → since (suc n) ≡ since n ++ cond b (n ∷ []) []
  goes_on n b calm t =
      since_more n b t
      ∙ ap (λ (l : List ℕ). l ++ cond b (n ∷ []) []) (filter_same _ _ n (kept n calm))

  pub since_on : (n : ℕ) → begin n ≡ false → turn n ≡ true → since (suc n) ≡ since n ++ n ∷ []
  since_on n calm t = goes_on n true calm t

  pub since_same : (n : ℕ) → begin n ≡ false → turn n ≡ false → since (suc n) ≡ since n
  since_same n calm t = goes_on n false calm t ∙ append-nil (since n)
