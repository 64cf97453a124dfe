-- A map that has these values, built name by name.
use Rattle.std.proofs.Common.{◌≡◌, ℕ, zero, suc, ◌<◌, ◌≤◌, Bool, true, false, cond, List, Option, Some, None, inl, inr, refl, sym, ◌∙◌, ap, arith}
use Rattle.std.specs.FinMap.{get, insert, empty, get-empty, get-insert}
use Rattle.std.specs.Ordering.{nat_cmp, eq_by_cmp}
use Rattle.std.specs.Cmp.{nat_cmp_total}
use Rattle.std.proofs.lemmas.Bool.Decides.{nat_tests}
use Rattle.std.proofs.lemmas.Bool.{cases_eq}
use Rattle.ipl_model.specs.State.{Map}

inserted_here : (m : Map) (n : ℕ) (value : List ℕ) → get (insert m n value) n ≡ Some value
inserted_here m n value =
    let same : eq_by_cmp nat_cmp n n ≡ true = grind (arith, nat_tests) in
    get-insert nat_cmp_total m n value n ∙ ap (λ (b : Bool). cond b (Some value) (get m n)) same

inserted_other : (m : Map) (n k : ℕ) (value : List ℕ) → (k ≡ n → ⊥) → get (insert m n value) k ≡ get m k
inserted_other m n k value other =
    let apart : eq_by_cmp nat_cmp k n ≡ false = grind (arith, nat_tests) in
    get-insert nat_cmp_total m n value k ∙ ap (λ (b : Bool). cond b (Some value) (get m k)) apart

-- the names below a number have their values, and no others
pub record Built (f : ℕ → Option (List ℕ)) (n : ℕ) : Type 0 where
  pub map : Map
  pub has : (k : ℕ) → k < n → get map k ≡ f k
  pub none : (k : ℕ) → n ≤ k → get map k ≡ None

one_more : (f : ℕ → Option (List ℕ)) (n : ℕ) → Built f n → (v : Option (List ℕ)) → f n ≡ v → Built f (suc n)
one_more f n before None is = record {
  map = before.map;
  has = λ k less. elim (cases_eq k n) [
    | inl same ↦ rw same (before.none n (omega arith) ∙ sym is)
    | inr other ↦ before.has k (omega (arith, less, other))
  ];
  none = λ k high. before.none k (omega (arith, high));
}
one_more f n before (Some value) is = record {
  map = insert before.map n value;
  has = λ k less. elim (cases_eq k n) [
    | inl same ↦ rw same (inserted_here before.map n value ∙ sym is)
    | inr other ↦ inserted_other before.map n k value other ∙ before.has k (omega (arith, less, other))
  ];
  none = λ k high.
      inserted_other before.map n k value (λ same. omega (arith, high, same))
      ∙ before.none k (omega (arith, high));
}

pub build : (f : ℕ → Option (List ℕ)) (n : ℕ) → Built f n
build f zero = record {
  map = empty;
  has = λ k less. absurd (omega (arith, less));
  none = λ k high. get-empty nat_cmp k;
}
build f (suc n) = one_more f n (build f n) (f n) refl
