-- The units that a mark has, one after another.
use Rattle.std.proofs.Common.{◌≡◌, ◌+◌, ◌==◌, ◌||◌, ◌&&◌, ℕ, Bool, true, false, List, nat_lt, inl, inr, refl, ◌∙◌, ap, arith}
use Rattle.std.proofs.lemmas.Bool.{cases_eq, eq-eqb, ne_eqb}
use Rattle.std.proofs.lemmas.Bool.Decides.{nat_tests}
use Rattle.ipl_format.specs.Mark.{has_unit}

-- the payload has exactly the known ones of the first n units
abbrev pub HasKnown : (ℕ → Bool) → ℕ → List ℕ → Type 0
HasKnown known n payload = (u : ℕ) → has_unit payload u ≡ (nat_lt u n && known u)

-- one more of them is known
pub one_more_known : (known : ℕ → Bool) (n u : ℕ) (payload : List ℕ) → HasKnown known n payload → known n ≡ true
    → ((u == n) || has_unit payload u) ≡ (nat_lt u (n + 1) && known u)
one_more_known known n u payload has is = ap (λ (b : Bool). (u == n) || b) (has u) ∙ elim (cases_eq u n) [
  | inl here ↦ rw (here, eq-eqb n n refl, is) grind (arith, nat_tests)
  | inr other ↦
      let below : nat_lt u (n + 1) ≡ nat_lt u n = grind (arith, nat_tests) in rw (ne_eqb u n other, below) refl
]

-- or it isn't
pub one_more_unknown : (known : ℕ → Bool) (n u : ℕ) → known n ≡ false
    → (nat_lt u n && known u) ≡ (nat_lt u (n + 1) && known u)
one_more_unknown known n u is = elim (cases_eq u n) [
  | inl here ↦ rw (here, is) grind (arith, nat_tests)
  | inr other ↦
      let below : nat_lt u (n + 1) ≡ nat_lt u n = grind (arith, nat_tests) in rw below refl
]
