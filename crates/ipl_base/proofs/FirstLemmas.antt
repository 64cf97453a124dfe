-- The first of several by rising number.
use Rattle.std.proofs.Common.{ℕ, zero, suc, ◌≡◌, inl, inr, ◌+◌, ◌-◌, ◌<◌, Option, Some, None, refl, ◌∙◌, ap, subst, arith, add-one}
use Rattle.std.specs.Option.{option_or}
use Rattle.std.proofs.lemmas.Bool.{cases_eq}
use Rattle.ipl_base.specs.First.{first_below}

pub first_step : {A : Type 0} (f : ℕ → Option A) (n : ℕ) → first_below f (n + 1) ≡ option_or (first_below f n) (f n)
first_step f n = rw add-one refl

-- one more that isn't there
pub first_more : {A : Type 0} (f : ℕ → Option A) (n : ℕ) → first_below f n ≡ None → f n ≡ None → first_below f (n + 1) ≡ None
first_more f n none here = rw (first_step f n, none) here

-- what is found stays found
first_kept : {A : Type 0} (f : ℕ → Option A) (k m n : ℕ) (a : A) → n ≡ m + k → first_below f k ≡ Some a → first_below f n ≡ Some a
first_kept f k zero n a e found = let same : k ≡ n = omega arith in subst (λ (i : ℕ). first_below f i ≡ Some a) same found
first_kept f k (suc m) zero a e found = absurd (omega arith)
first_kept f k (suc m) (suc n) a e found = rw (first_kept f k m n a (omega arith) found) refl

-- none before it, and here it is
pub first_found : {A : Type 0} (f : ℕ → Option A) (k n : ℕ) (a : A) → k < n → first_below f k ≡ None → f k ≡ Some a → first_below f n ≡ Some a
first_found f k n a below none here = first_kept f (k + 1) (n - (k + 1)) n a (omega arith) (rw (first_step f k, none) here)

-- none of them
pub first_none : {A : Type 0} (f : ℕ → Option A) (n : ℕ) → ((k : ℕ) → k < n → f k ≡ None) → first_below f n ≡ None
first_none f zero each = refl
first_none f (suc n) each = rw (first_none f n (λ k below. each k (omega arith)), each n (omega arith)) refl

-- only what stands below n counts
pub first_alike : {A : Type 0} (f g : ℕ → Option A) (n : ℕ) → ((k : ℕ) → k < n → f k ≡ g k) → first_below f n ≡ first_below g n
first_alike f g zero same = refl
first_alike f g (suc n) same = rw (first_alike f g n (λ k below. same k (omega arith)), same n (omega arith)) refl

pub or_none : {A : Type 0} (x y : Option A) → option_or x y ≡ None → (x ≡ None) × (y ≡ None)
or_none None y e = (refl, e)
or_none (Some x) y e = cc

pub none_before : {A : Type 0} (f : ℕ → Option A) (n : ℕ) → first_below f n ≡ None → (k : ℕ) → k < n → f k ≡ None
none_before f zero e k below = absurd (omega arith)
none_before f (suc n) e k below = elim (cases_eq k n) [
  | inl same ↦ ap f same ∙ (or_none _ _ e).1
  | inr other ↦ none_before f n (or_none _ _ e).0 k (omega arith)
]
