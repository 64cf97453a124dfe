-- A spot is added.
use Rattle.std.proofs.Common.{◌≡◌, ℕ, ◌<◌, ◌+◌, max, List, [], ◌∷◌, ◌++◌, map, inl, inr, refl, ap, subst, arith, eqb, set}
use Rattle.std.specs.List.{Contains, AllPairs}
use Rattle.std.proofs.lemmas.Bool.{cases_Bool, eqb-true}
use Rattle.ipl_meaning.specs.Tables.{OverflowLists, Tables, overflow_places}
use Rattle.ipl_meaning.specs.Mirrors.{AreApart}
use Rattle.ipl_meaning.specs.TableSteps.{with_next_spot, after_overflow_log}
use Rattle.overflow.specs.Lists.{clean_behind, after_add, spots_in, masks_at}
use Rattle.overflow.proofs.ElementLemmas.{contains_here, contains_there, one_spot}

-- the places that have it as their first are those that are behind it then
same_firsts : (p s : ℕ) (l : List (ℕ × ℕ)) → ((first : ℕ) → Contains l (p, first) → first ≡ s)
    → map (clean_behind p s) l ≡ map (with_next_spot p) l
same_firsts p s [] all = refl
same_firsts p s (o ∷ l) all =
    let rest : map (clean_behind p s) l ≡ map (with_next_spot p) l =
    same_firsts p s l (λ first there. all first (contains_there o l (p, first) there)) in
    elim (cases_Bool (eqb o.0 p)) [
      | inl here ↦
          let at : o.0 ≡ p = eqb-true o.0 p here in
          let first : o.1 ≡ s =
          all o.1 (subst (λ (q : ℕ). Contains (o ∷ l) (q, o.1)) at (contains_here o l)) in
          let next : max o.1 (s + 1) ≡ o.1 + 1 = omega (arith, first) in
          rw here (cc)
      | inr apart ↦ rw apart (ap (λ (k : List (ℕ × ℕ)). o ∷ k) rest)
    ]

pub first_spots_are_added : (t : Tables) (u p s mask next : ℕ) → AllPairs AreApart (overflow_places t)
    → Contains t.overflow.in_use (p, s)
    → after_add t.overflow u p s mask ≡ (after_overflow_log t u p s mask next).overflow
first_spots_are_added t u p s mask next apart there =
    ap (λ (l : List (ℕ × ℕ)). record {
      places = t.overflow.places;
      spots = set t.overflow.spots u (spots_in t.overflow u ++ (p, s) ∷ []);
      masks = set t.overflow.masks u (masks_at t.overflow u ++ mask ∷ []);
      in_use = l;
    })
    (same_firsts p s t.overflow.in_use
    (λ first other. one_spot t.overflow.in_use p first s apart other there))

untouched : (p s : ℕ) (l : List (ℕ × ℕ)) → ((first : ℕ) → Contains l (p, first) → s < first)
    → map (clean_behind p s) l ≡ l
untouched p s [] above = refl
untouched p s (o ∷ l) above =
    let rest : map (clean_behind p s) l ≡ l =
    untouched p s l (λ first there. above first (contains_there o l (p, first) there)) in
    elim (cases_Bool (eqb o.0 p)) [
      | inl here ↦
          let at : o.0 ≡ p = eqb-true o.0 p here in
          let low : s < o.1 = above o.1
          (subst (λ (q : ℕ). Contains (o ∷ l) (q, o.1)) at (contains_here o l)) in
          let next : max o.1 (s + 1) ≡ o.1 = omega (arith, low) in
          let this : ◌≡◌ {A = ℕ × ℕ} (o.0, max o.1 (s + 1)) o = ap (λ (n : ℕ). (o.0, n)) next in
          rw here (cc)
      | inr apart ↦ rw apart (ap (λ (k : List (ℕ × ℕ)). o ∷ k) rest)
    ]

pub found_spots_are_added : (it : OverflowLists) (u p s mask : ℕ)
    → ((first : ℕ) → Contains it.in_use (p, first) → s < first)
    → (after_add it u p s mask).in_use ≡ it.in_use
found_spots_are_added it u p s mask above = untouched p s it.in_use above
