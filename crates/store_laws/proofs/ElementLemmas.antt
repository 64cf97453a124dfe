-- Elements of lists.
use Rattle.std.proofs.Common.{Bool, List, [], map, ap, arith, false, inl, inr, refl, subst, suc, sym, true, zero, ◌∙◌, ◌∷◌, ◌≡◌, ◌⊎◌}
use Rattle.std.proofs.Math.ListN.{get_or-map}
use Rattle.std.proofs.lemmas.List.{length-map}
use Rattle.std.specs.List.{All, Contains, filter, list_any}
use Rattle.std.proofs.lemmas.Bool.{cases_Bool}
use Rattle.std.proofs.lemmas.List.Elements.{All-contains, All-contains_itself, All-filter, All-weaker, filter_passes}
use Rattle.std.proofs.lemmas.List.Folds.{list_any_at}

pub contains_cons : {X : Type 0} (x : X) (xs : List X) (y : X) → Contains (x ∷ xs) y → (x ≡ y) ⊎ Contains xs y
contains_cons x xs y (zero, _, is) = inl is
contains_cons x xs y (suc k, within, is) = inr (k, omega (arith, within), is)

pub contains_here : {X : Type 0} (x : X) (xs : List X) → Contains (x ∷ xs) x
contains_here x xs = (0, omega arith, refl)

pub contains_there : {X : Type 0} (x : X) (xs : List X) (y : X) → Contains xs y → Contains (x ∷ xs) y
contains_there x xs y (k, within, is) = (suc k, omega (arith, within), is)

pub contains_nil : {X : Type 0} (y : X) → Contains [] y → ⊥
contains_nil y (k, within, _) = omega (arith, within)

-- what a filter keeps stood in the list, and passes
pub contains_filter : {X : Type 0} (p : X → Bool) (xs : List X) (y : X) → Contains (filter p xs) y
    → Contains xs y × (p y ≡ true)
contains_filter p xs y is = (
  All-contains (Contains xs) (filter p xs) y (All-filter p (Contains xs) xs (All-contains_itself xs)) is,
  All-contains (λ x. p x ≡ true) (filter p xs) y (filter_passes p xs) is,
)

-- and what passes is kept
pub contains_kept : {X : Type 0} (p : X → Bool) (xs : List X) (y : X) → Contains xs y → p y ≡ true
    → Contains (filter p xs) y
contains_kept p [] y is passes = absurd (contains_nil y is)
contains_kept p (x ∷ xs) y is passes = elim (cases_Bool (p x)) [
  | inl kept ↦ rw kept (elim (contains_cons x xs y is) [
    | inl same ↦ subst (Contains (x ∷ filter p xs)) same (contains_here x (filter p xs))
    | inr later ↦ contains_there x (filter p xs) y (contains_kept p xs y later passes)
  ])
  | inr dropped ↦ elim (contains_cons x xs y is) [
    | inl same ↦ absurd (let clash : true ≡ false = sym passes ∙ ap p (sym same) ∙ dropped in cc clash)
    | inr later ↦ rw dropped (contains_kept p xs y later passes)
  ]
]

pub contains_map : {X Y : Type 0} (f : X → Y) (xs : List X) (x : X) → Contains xs x → Contains (map f xs) (f x)
contains_map f xs x (k, within, is) =
    (k, omega (arith, within, length-map xs f), get_or-map f xs k x ∙ ap f is)

-- where one passes, some do
pub any_there : {X : Type 0} (test : X → Bool) (xs : List X) (y : X) → Contains xs y → test y ≡ true
    → list_any test xs ≡ true
any_there test xs y (k, within, is) passes = list_any_at test xs k y within (ap test is ∙ passes)

-- where all hold of it, each does
pub all_listed : {X : Type 0} (P : X → Type 0) (xs : List X) → ((x : X) → Contains xs x → P x) → All P xs
all_listed P xs each = All-weaker (Contains xs) P each xs (All-contains_itself xs)
