-- Elements of lists, and places that are apart.
use Rattle.std.proofs.Common.{◌≡◌, ◌⊎◌, ℕ, zero, suc, ◌<◌, Bool, true, false, cond, nat_le, List, [], ◌∷◌, length, map, inl, inr, refl, sym, ◌∙◌, ap, subst, arith, get_or}
use Rattle.std.specs.List.{Contains, AllPairs, filter}
use Rattle.std.proofs.lemmas.Bool.{cases_Bool, cases_lt, cases_eq, le-leb}
use Rattle.std.proofs.lemmas.List.{length-map, get_or-map, get_or_default}
use Rattle.ipl_meaning.specs.Tables.{place_of}
use Rattle.ipl_meaning.specs.Mirrors.{AreApart}

pub contains_cons : {X : Type 0} (x : X) (xs : List X) (y : X) → Contains (x ∷ xs) y
    → (x ≡ y) ⊎ Contains xs y
contains_cons x xs y (zero, _, is) = inl is
contains_cons x xs y (suc k, within, is) = inr (k, omega (arith, within), is)

pub contains_here : {X : Type 0} (x : X) (xs : List X) → Contains (x ∷ xs) x
contains_here x xs = (0, omega arith, refl)

pub contains_there : {X : Type 0} (x : X) (xs : List X) (y : X) → Contains xs y
    → Contains (x ∷ xs) y
contains_there x xs y (k, within, is) = (suc k, omega (arith, within), is)

pub contains_nil : {X : Type 0} (y : X) → Contains [] y → ⊥
contains_nil y (k, within, _) = omega (arith, within)

-- what a filter keeps stood in the list, and passes
pub contains_filter : {X : Type 0} (p : X → Bool) (xs : List X) (y : X) → Contains (filter p xs) y
    → Contains xs y × (p y ≡ true)
contains_filter p [] y is = absurd (contains_nil y is)
contains_filter p (x ∷ xs) y is = elim (cases_Bool (p x)) [
  | inl passes ↦ elim (contains_cons x (filter p xs) y
      (subst (λ b. Contains (cond b (x ∷ filter p xs) (filter p xs)) y) passes is)) [
        | inl same ↦ (
          subst (Contains (x ∷ xs)) same (contains_here x xs),
          subst (λ z. p z ≡ true) same passes,
        )
        | inr more ↦ let rest = contains_filter p xs y more in (contains_there x xs y rest.0, rest.1)
      ]
  | inr fails ↦
      let rest = contains_filter p xs y
      (subst (λ b. Contains (cond b (x ∷ filter p xs) (filter p xs)) y) fails is) in
      (contains_there x xs y rest.0, rest.1)
]

-- and all that passes is kept
pub filter_contains : {X : Type 0} (p : X → Bool) (xs : List X) (y : X) → Contains xs y
    → p y ≡ true → Contains (filter p xs) y
filter_contains p [] y is pass = absurd (contains_nil y is)
filter_contains p (x ∷ xs) y is pass = elim (cases_Bool (p x)) [
  | inl passes ↦ subst (λ b. Contains (cond b (x ∷ filter p xs) (filter p xs)) y) (sym passes)
      (elim (contains_cons x xs y is) [
        | inl same ↦ subst (Contains (x ∷ filter p xs)) same (contains_here x (filter p xs))
        | inr more ↦ contains_there x (filter p xs) y (filter_contains p xs y more pass)
      ])
  | inr fails ↦ subst (λ b. Contains (cond b (x ∷ filter p xs) (filter p xs)) y) (sym fails)
      (elim (contains_cons x xs y is) [
        | inl same ↦ absurd (let yes : p x ≡ true = subst (λ z. p z ≡ true) (sym same) pass in cc)
        | inr more ↦ filter_contains p xs y more pass
      ])
]

-- a place has one, where places are apart
pub one_spot : (l : List (ℕ × ℕ)) (p a b : ℕ) → AllPairs AreApart (map place_of l)
    → Contains l (p, a) → Contains l (p, b) → a ≡ b
one_spot l p a b apart (i, in_i, is) (j, in_j, is_too) = elim (cases_eq i j) [
  | inl same ↦
      let both : ◌≡◌ {A = ℕ × ℕ} (p, a) (p, b) = sym is ∙ get_or_default l i (p, a) (p, b) in_i
      ∙ ap (λ (k : ℕ). get_or l k (p, b)) same ∙ is_too in
      ap (λ (z : ℕ × ℕ). z.1) both
  | inr other ↦ absurd (elim (cases_lt i j) [
    | inl less ↦ apart i j p less (omega (arith, in_j, length-map l place_of))
        (at_p i a in_i is ∙ sym (at_p j b in_j is_too))
    | inr more ↦ apart j i p (omega (arith, more, other))
        (omega (arith, in_i, length-map l place_of)) (at_p j b in_j is_too ∙ sym (at_p i a in_i is))
  ])
]
  where
    at_p : (k n : ℕ) → k < length l → get_or l k (p, n) ≡ (p, n) → get_or (map place_of l) k p ≡ p
    at_p k n within is = get_or-map place_of l k (p, n) p within ∙ ap place_of is

pub leb_false : {a b : ℕ} → nat_le a b ≡ false → b < a
leb_false {a} {b} fails = elim (cases_lt b a) [
  | inl less ↦ less
  | inr more ↦ absurd (let yes : nat_le a b ≡ true = le-leb a b more in cc)
]
