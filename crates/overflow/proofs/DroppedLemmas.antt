-- A unit's spots are dropped.
use Rattle.std.proofs.Common.{◌≡◌, ℕ, ◌==◌, Bool, true, not, List, [], ◌∷◌, length, map, inl, inr, refl, sym, ap, subst, arith, get_or}
use Rattle.std.specs.List.{Contains, AllPairs, filter}
use Rattle.std.proofs.lemmas.Bool.{cases_Bool, cases_lt, eq-eqb}
use Rattle.std.proofs.lemmas.List.{get_or_past, get_or-set_other}
use Rattle.std.proofs.lemmas.List.Elements.{All-filter, All-contains_itself}
use Rattle.std.proofs.lemmas.List.Kept.{AllPairs-filter}
use Rattle.std.proofs.lemmas.List.Folds.{list_any_at}
use Rattle.std.proofs.lemmas.List.Sums.{length-filter, count_by-le-length}
use Rattle.ipl_meaning.specs.Tables.{OverflowLists, place_of}
use Rattle.ipl_meaning.specs.Mirrors.{AreApart}
use Rattle.overflow.specs.Lists.{after_drop, names_place, is_named, is_kept, is_left, without_unit}
use Rattle.overflow.specs.Laws.{OverflowMoves}
use Rattle.overflow.proofs.ElementLemmas.{contains_nil, contains_filter, filter_contains}

-- a spot of a list names its place
spot_names : (l : List (ℕ × ℕ)) (p s : ℕ) → Contains l (p, s) → names_place p l ≡ true
spot_names l p s (k, within, is) =
    list_any_at (λ (spot : ℕ × ℕ). spot.0 == p) l k (p, s) within
    (eq-eqb _ p (ap (λ (z : ℕ × ℕ). z.0) is))

-- and a unit's
unit_names : (spots : List (List (ℕ × ℕ))) (v p s : ℕ) → Contains (get_or spots v []) (p, s)
    → is_named spots p ≡ true
unit_names spots v p s there = elim (cases_lt v (length spots)) [
  | inl low ↦ list_any_at (names_place p) spots v [] low (spot_names (get_or spots v []) p s there)
  | inr past ↦ absurd (contains_nil (p, s)
      (subst (λ (l : List (ℕ × ℕ)). Contains l (p, s)) (get_or_past spots v [] past) there))
]

-- the places of those that are kept are those that are named
places_kept : (spots : List (List (ℕ × ℕ))) (l : List (ℕ × ℕ))
    → map place_of (filter (is_kept spots) l) ≡ filter (is_named spots) (map place_of l)
places_kept spots [] = refl
places_kept spots (o ∷ l) = elim (cases_Bool (is_named spots o.0)) [
  | inl named ↦ rw named (ap (λ (k : List ℕ). o.0 ∷ k) (places_kept spots l))
  | inr none ↦ rw none (places_kept spots l)
]

pub drops_move : (it : OverflowLists) (u : ℕ) → OverflowMoves it (after_drop it u) u
drops_move it u =
    let rest = without_unit it u in
    let places : map place_of (after_drop it u).in_use ≡ filter (is_named rest)
    (map place_of it.in_use) = places_kept rest it.in_use in
    record {
      sized = refl;
      some = All-filter (is_kept rest) (Contains it.in_use) it.in_use
          (All-contains_itself it.in_use);
      fewer = omega (
        arith,
        length-filter (is_kept rest) it.in_use,
        count_by-le-length (is_kept rest) it.in_use,
      );
      apart = λ apart. subst (AllPairs AreApart) (sym places)
          (AllPairs-filter AreApart (is_named rest) (map place_of it.in_use) apart);
      named = λ v q s other there in_overflow. subst (λ (l : List ℕ). Contains l q) (sym places)
          (filter_contains (is_named rest) (map place_of it.in_use) q in_overflow
          (unit_names rest v q s
          (subst (λ (l : List (ℕ × ℕ)). Contains l (q, s))
          (sym (get_or-set_other it.spots u v [] [] other)) there)));
      left = λ q there.
          let (was, unnamed) = contains_filter (is_left rest) (map place_of it.in_use) q there in (
            was,
            λ still.
                let named : is_named rest q ≡ true =
                (contains_filter (is_named rest) (map place_of it.in_use) q
                (subst (λ (l : List ℕ). Contains l q) places still)).1 in
                let no : not true ≡ true =
                subst (λ (b : Bool). not b ≡ true) named unnamed in absurd (cc),
          );
      all_left = λ q was gone. filter_contains (is_left rest) (map place_of it.in_use) q was
          (elim (cases_Bool (is_named rest q)) [
            | inl named ↦ absurd (gone
                (subst (λ (l : List ℕ). Contains l q) (sym places)
                (filter_contains (is_named rest) (map place_of it.in_use) q was named)))
            | inr none ↦ rw none refl
          ]);
    }
