-- Places in rising order, with one more.
use Rattle.std.proofs.Common.{◌≡◌, ◌<◌, ◌≤◌, ◌+◌, ◌==◌, ℕ, nat_lt, if◌then◌else◌, eqb, List, [], ◌∷◌, length, get_or, Ok, Err, inl, inr, refl, sym, ◌∙◌, ap, subst, arith}
use Rattle.std.specs.Prelude.{◌⊎◌}
use Rattle.std.specs.List.{AllPairs, Contains, insert}
use Rattle.std.specs.List.Sorted.{IsBinarySearchResult}
use Rattle.std.specs.Ordering.{nat_cmp}
use Rattle.std.proofs.lemmas.Bool.{cases_Bool, cases_eq, eqb-true}
use Rattle.std.proofs.lemmas.List.Elements.{All-weaker, All-contains, All-contains_itself, Contains-get_or}
use Rattle.std.proofs.lemmas.List.Sorted.{searched}
use Rattle.ipl_base.specs.declared.limits.TheConstants.{VERSION}
use Rattle.ipl_base.specs.Places.{KeepsUnits}
use Rattle.ipl_format.specs.Header.{AreRetired, IsLower, IsWithin}
use Rattle.ipl_meaning.specs.Tables.{Places, inserted, with_retired}
use Rattle.number_set.specs.Numbers.{with_number}
use Rattle.number_set.proofs.NumberLemmas.{contains_here, contains_there, with_number_has, with_number_keeps, with_number_from, length_with_number, rising_with_number, inserted_is, there_already}
use Rattle.unit_directory.specs.Free.{spares_of}
use Rattle.unit_directory.specs.Directory.{IsSoundDirectory}

-- they are the numbers of a set with one more
pub inserted_same : (p : ℕ) (l : List ℕ) → inserted p l ≡ with_number p l
inserted_same p [] = refl
inserted_same p (q ∷ l) =
    ap (λ (xs : List ℕ). if nat_lt p q then p ∷ (q ∷ l) else if p == q then q ∷ l else q ∷ xs)
    (inserted_same p l)

pub inserted_has : (p : ℕ) (l : List ℕ) → Contains (inserted p l) p
inserted_has p l =
    subst (λ (xs : List ℕ). Contains xs p) (sym (inserted_same p l)) (with_number_has p l)

pub inserted_keeps : (p : ℕ) (l : List ℕ) (q : ℕ) → Contains l q → Contains (inserted p l) q
inserted_keeps p l q has =
    subst (λ (xs : List ℕ). Contains xs q) (sym (inserted_same p l)) (with_number_keeps p l q has)

pub inserted_from : (p : ℕ) (l : List ℕ) (q : ℕ) → Contains (inserted p l) q
    → (p ≡ q) ⊎ Contains l q
inserted_from p l q has =
    with_number_from p l q (subst (λ (xs : List ℕ). Contains xs q) (inserted_same p l) has)

-- a new one is one more
pub length_inserted : (p : ℕ) (l : List ℕ) → ¬ Contains l p
    → length (inserted p l) ≡ length l + 1
length_inserted p [] new = refl
length_inserted p (q ∷ l) new = elim (cases_Bool (nat_lt p q)) [
  | inl less ↦ rw less (omega arith)
  | inr more ↦ elim (cases_Bool (eqb p q)) [
    | inl same ↦ absurd (new (subst (Contains (q ∷ l)) (sym (eqb-true p q same)) (contains_here q l)))
    | inr other ↦
        let rest = length_inserted p l (λ has. new (contains_there q l p has)) in
        rw (more, other) (omega (arith, rest))
  ]
]

-- and where fewer are retired than are spare, one more may be
pub one_more_retired : (places units p : ℕ) (l : List ℕ) → KeepsUnits places units
    → AreRetired VERSION places units l → p < places → length l + units + 4 < places
    → AreRetired VERSION places units (inserted p l)
one_more_retired places units p l keeps are within few =
    let same = inserted_same p l in
    let longer : length (inserted p l) ≤ length l + 1 =
    subst (λ (xs : List ℕ). length xs ≤ length l + 1) (sym same) (length_with_number p l) in record {
      rising = subst (AllPairs IsLower) (sym same) (rising_with_number p l are.rising);
      within = All-weaker (Contains (inserted p l)) (IsWithin places)
          (λ q has. elim (inserted_from p l q has) [
            | inl this ↦ subst (λ (r : ℕ). r < places) this within
            | inr before ↦ All-contains (IsWithin places) l q are.within before
          ]) (inserted p l) (All-contains_itself (inserted p l));
      few = omega (arith, longer, few, keeps.2);
      spare = omega (arith, longer, few);
      none = λ old. absurd (omega (arith, old));
    }

-- ---- where it is put in

rise_weakly : (xs : List ℕ) → AllPairs IsLower xs → (i j : ℕ) → i ≤ j → j < length xs
    → get_or xs i 0 ≤ get_or xs j 0
rise_weakly xs rise i j before within = elim (cases_eq i j) [
  | inl same ↦ omega (arith, ap (λ (k : ℕ). get_or xs k 0) same)
  | inr other ↦ let less : get_or xs i 0 < get_or xs j 0 =
      rise i j 0 (omega (arith, before, other)) within in omega arith
]

-- one that a search finds changes nothing
pub found_there : (xs : List ℕ) (p i : ℕ) → AllPairs IsLower xs
    → IsBinarySearchResult (λ y. nat_cmp y p) xs (Ok i) → xs ≡ inserted p xs
found_there xs p i rise says =
    let (within, is) = searched xs p (Ok i) says (rise_weakly xs rise) in
    sym (inserted_same p xs
    ∙ there_already p xs rise (subst (Contains xs) is (Contains-get_or xs i 0 within)))

-- and one that it misses is put in where it says
pub missed_there : (xs : List ℕ) (p at : ℕ) → AllPairs IsLower xs
    → IsBinarySearchResult (λ y. nat_cmp y p) xs (Err at) → insert xs at p ≡ inserted p xs
missed_there xs p at rise says =
    let (within, low, high) = searched xs p (Err at) says (rise_weakly xs rise) in
    inserted_is p xs at within low high ∙ sym (inserted_same p xs)

-- ---- the directory

-- with one more retired it is as it must be
pub retired_soundly : (it : Places) (p : ℕ) → IsSoundDirectory it → p < length it.in_use
    → length it.retired < spares_of it → IsSoundDirectory (with_retired it p)
retired_soundly it p sound within few = record {
  places = sound.places;
  counts = sound.counts;
  units = sound.units;
  retired = one_more_retired (length it.in_use) (length it.current) p it.retired sound.units
      sound.retired within (omega (arith, few));
  logs = sound.logs;
  within = sound.within;
  few = sound.few;
  heads = sound.heads;
  masks = sound.masks;
  sectors = sound.sectors;
}
