-- A list of one unit's in place of the list of all.
use Rattle.std.proofs.Common.{◌≡◌, inl, inr, ℕ, Bool, false, cond, List, [], ◌∷◌, refl, ap, arith}
use Rattle.std.specs.List.{list_any, count_by, filter}
use Rattle.std.proofs.lemmas.Bool.{cases_Bool}
use Rattle.std.proofs.lemmas.List.Sums.{sum_by-append}

-- a test that passes none of the others is the same on that unit's
pub any_filter : {A : Type 0} (test keep : A → Bool) → ((x : A) → keep x ≡ false → test x ≡ false) → (xs : List A)
    → list_any test (filter keep xs) ≡ list_any test xs
any_filter test keep only [] = refl
any_filter test keep only (x ∷ xs) = elim (cases_Bool (keep x)) [
  | inl kept ↦ rw (kept, any_filter test keep only xs) refl
  | inr other ↦ rw (other, only x other, any_filter test keep only xs) refl
]

-- and it passes as many
pub count_filter : {A : Type 0} (test keep : A → Bool) → ((x : A) → keep x ≡ false → test x ≡ false) → (xs : List A)
    → count_by test (filter keep xs) ≡ count_by test xs
count_filter test keep only [] = refl
count_filter {A} test keep only (x ∷ xs) =
    let each : A → ℕ = λ y. cond (test y) 1 0 in
    let rest = count_filter test keep only xs in
    let whole = sum_by-append each (x ∷ []) xs in
    elim (cases_Bool (keep x)) [
      | inl kept ↦ let part = sum_by-append each (x ∷ []) (filter keep xs) in rw kept (omega (arith, rest, whole, part))
      | inr other ↦ let none : test x ≡ false = only x other in rw other (omega (arith, rest, whole, ap (λ (b : Bool). let n : ℕ = cond b 1 0 in n) none))
    ]
