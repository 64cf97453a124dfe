-- Which numbers a test tells.
use Rattle.std.proofs.Common.{◌≡◌, ◌⊎◌, ◌↔◌, ◌==◌, ℕ, Bool, true, false, IsTrue, List, [], ◌∷◌, inl, inr, refl, sym, subst, eqb}
use Rattle.std.specs.List.{Contains}
use Rattle.std.proofs.lemmas.Bool.{cases_Bool, eqb-true, eq-eqb}
use Rattle.std.proofs.lemmas.List.Folds.{list_any_at}
use Rattle.number_set.specs.Numbers.{with_numbers, among, also}
use Rattle.number_set.specs.Laws.{AddsToTest}
use Rattle.number_set.proofs.NumberLemmas.{contains_here, contains_there, numbers_are_a_union}

pub among_is_contains : (numbers : List ℕ) (n : ℕ) → IsTrue (among numbers n) ↔ Contains numbers n
among_is_contains numbers n = (told numbers, has numbers)
  where
    told : (l : List ℕ) → IsTrue (among l n) → Contains l n
    told [] is = absurd (cc)
    told (k ∷ l) is = elim (cases_Bool (eqb k n)) [
      | inl same ↦ subst (Contains (k ∷ l)) (eqb-true k n same) (contains_here k l)
      | inr other ↦ contains_there k l n (told l (rw other at is))
    ]

    has : (l : List ℕ) → Contains l n → IsTrue (among l n)
    has l (k, within, is) = list_any_at (λ (x : ℕ). x == n) l k n within (eq-eqb _ n is)

-- two tests that pass the same are the same
same_truth : (a b : Bool) → (IsTrue a → IsTrue b) → (IsTrue b → IsTrue a) → a ≡ b
same_truth true b there back = sym (there refl)
same_truth false true there back = back refl
same_truth false false there back = refl

-- a test that says which numbers are there is `among`
pub among_from : (numbers : List ℕ) (n : ℕ) (b : Bool) → IsTrue b ↔ Contains numbers n
    → b ≡ among numbers n
among_from numbers n b (told, has) =
    let (is, are) = among_is_contains numbers n in
    same_truth b (among numbers n) (λ yes_it. are (told yes_it)) (λ yes_it. has (is yes_it))

also_is_either : (more : List ℕ) (passes : ℕ → Bool) (n : ℕ)
    → IsTrue (also passes more n) ↔ (IsTrue (passes n) ⊎ Contains more n)
also_is_either more passes n =
    (told, λ one. elim one [ inl passed ↦ rw passed refl | inr there ↦ by_these there ])
  where
    told : IsTrue (also passes more n) → IsTrue (passes n) ⊎ Contains more n
    told is = elim (cases_Bool (passes n)) [
      | inl passed ↦ inl passed
      | inr other ↦ inr ((among_is_contains more n).0 (rw other at is))
    ]

    by_these : Contains more n → IsTrue (also passes more n)
    by_these there = elim (cases_Bool (passes n)) [
      | inl passed ↦ rw passed refl
      | inr other ↦ rw other ((among_is_contains more n).1 there)
    ]

pub also_is_a_union : (more numbers : List ℕ) (passes : ℕ → Bool) (n : ℕ)
    → AddsToTest more numbers passes n
also_is_a_union more numbers passes n = record {
  either = also_is_either more passes n;
  numbers_too =
      let (told, is) = also_is_either more (among numbers) n in
      let (from, back) = numbers_are_a_union more numbers n in
      let (tells, there) = among_is_contains numbers n in
      among_from (with_numbers more numbers) n (also (among numbers) more n) (
        λ yes_it. back (elim (told yes_it) [ inl old ↦ inr (tells old) | inr new ↦ inl new ]),
        λ has. is (elim (from has) [ inl new ↦ inr new | inr old ↦ inl (there old) ]),
      );
}
