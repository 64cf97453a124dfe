-- What the next free place is, that there is one where one is counted, and that it is one alone.
use Rattle.std.proofs.Common.{◌≡◌, ℕ, ◌<◌, ◌≤◌, Bool, true, false, not, cond, suc, List, [], ◌∷◌, slice_index, Option, IfSome, IfNone, inl, inr, refl, arith}
use Rattle.std.specs.List.{count_by}
use Rattle.std.specs.Prelude.{◌⊎◌, slice_index_or}
use Rattle.std.proofs.lemmas.List.Sums.{sum_by-cons}
use Rattle.ipl_meaning.specs.Tables.{Places, IsFree}
use Rattle.unit_directory.specs.Free.{free_count, IsNextFree}

-- where one is counted, one stands
counted_stands : (xs : List Bool) → 0 < count_by not xs → ((p : ℕ) → slice_index_or xs p true ≡ false → ⊥) → ⊥
counted_stands [] some none = absurd (omega arith)
counted_stands (true ∷ xs) some none =
    let rest : 0 < count_by not xs = omega (arith, some, sum_by-cons (λ x. cond (not x) 1 0) true xs) in
    counted_stands xs rest (λ p free. none (suc p) free)
counted_stands (false ∷ xs) some none = none 0 refl

-- where a free place is counted, one is free
pub counted_is_found : (it : Places) → 0 < free_count it.in_use → ((p : ℕ) → ¬ IsFree it p) → ⊥
counted_is_found it some none = counted_stands it.in_use some none

-- one place alone is the next
pub one_is_next : (it : Places) (p q : ℕ) → IsNextFree it p → IsNextFree it q → p ≡ q
one_is_next it p q one other =
    elim (one.least q other.free) [
      | inl less ↦ elim (other.least p one.free) [
        | inl more ↦ absurd (omega (arith, less, more))
        | inr same ↦ absurd (omega (arith, less, same.0))
      ]
      | inr same ↦ elim (other.least p one.free) [
        | inl more ↦ absurd (omega (arith, same.0, more))
        | inr again ↦ omega (arith, same.1, again.1)
      ]
    ]

-- ---- the search for it

-- the next of the free places below the n-th
pub record IsNextBelow (it : Places) (n p : ℕ) : Type 0 where
  pub free : IsFree it p
  pub below : p < n
  pub least : (q : ℕ) → q < n → IsFree it q
      → (slice_index it.erases p < slice_index it.erases q)
      ⊎ ((slice_index it.erases p ≡ slice_index it.erases q) × (p ≤ q))

-- the next of them, where there is one
pub record IsFoundBelow (it : Places) (n : ℕ) (next : Option ℕ) : Type 0 where
  pub some : IfSome next (IsNextBelow it n)
  pub none : IfNone next ((q : ℕ) → q < n → ¬ IsFree it q)

-- what is known of the next free place
pub ruleset next_place = (counted_is_found)
