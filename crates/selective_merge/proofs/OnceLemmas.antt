-- What a merge reads of a unit is listed once, where its spots in overflow places are apart.
use Rattle.std.proofs.Common.{◌≡◌, ◌≢◌, ◌<◌, ◌≤◌, ◌+◌, ◌&&◌, eqb, ℕ, zero, suc, true, List, [], ◌∷◌, ◌++◌, slice_index, inl, inr, refl, sym, ◌∙◌, subst, arith}
use Rattle.std.specs.List.{AllPairs, Contains}
use Rattle.std.proofs.lemmas.Bool.{and_parts, cases_Bool, cases_eq, eqb-true}
use Rattle.number_set.proofs.NumberLemmas.{contains_here, contains_there}
use Rattle.ipl_meaning.specs.Mirrors.{AreApart}
use Rattle.overflow.specs.Lists.{spots_in}
use Rattle.unit_log.specs.Live.{spots_from}
use Rattle.unit_log.specs.Often.{times}
use Rattle.unit_log.proofs.OftenLemmas.{from_joined, times_joined}
use Rattle.selective_merge.specs.Laws.{MergesReadOnce}

-- ---- the sectors of a place

-- a sector below them isn't one
from_below : (p s n q t : ℕ) → t < s → times (spots_from p s n) q t ≡ 0
from_below p s zero q t less = refl
from_below p s (suc n) q t less = elim (cases_Bool (eqb p q && eqb s t)) [
  | inl is ↦
      let here : s ≡ t = eqb-true s t (and_parts (eqb p q) (eqb s t) is).1 in absurd (omega (arith, here, less))
  | inr not ↦ rw not (from_below p (s + 1) n q t (omega (arith, less)))
]

-- nor one of another place
from_elsewhere : (p s n q t : ℕ) → p ≢ q → times (spots_from p s n) q t ≡ 0
from_elsewhere p s zero q t apart = refl
from_elsewhere p s (suc n) q t apart = elim (cases_Bool (eqb p q && eqb s t)) [
  | inl is ↦ absurd (apart (eqb-true p q (and_parts (eqb p q) (eqb s t) is).0))
  | inr not ↦ rw not (from_elsewhere p (s + 1) n q t apart)
]

from_once : (p s n q t : ℕ) → times (spots_from p s n) q t ≤ 1
from_once p s zero q t = omega arith
from_once p s (suc n) q t = elim (cases_Bool (eqb p q && eqb s t)) [
  | inl is ↦
      let here : s ≡ t = eqb-true s t (and_parts (eqb p q) (eqb s t) is).1 in
      let rest = from_below p (s + 1) n q t (omega (arith, here)) in rw is (omega (arith, rest))
  | inr not ↦ rw not (from_once p (s + 1) n q t)
]

-- ---- spots

same_spot : (q r p s : ℕ) → (eqb q p && eqb r s) ≡ true → ◌≡◌ {A = ℕ × ℕ} (q, r) (p, s)
same_spot q r p s is =
    let parts = and_parts (eqb q p) (eqb r s) is in
    let first : ◌≡◌ {A = ℕ × ℕ} (q, r) (p, r) = rw (eqb-true q p parts.0) refl in
    let second : ◌≡◌ {A = ℕ × ℕ} (p, r) (p, s) = rw (eqb-true r s parts.1) refl in first ∙ second

listed_has : (l : List (ℕ × ℕ)) (p s : ℕ) → 1 ≤ times l p s → Contains l (p, s)
listed_has [] p s some = absurd (omega (arith, some))
listed_has ((q, r) ∷ l) p s some = elim (cases_Bool (eqb q p && eqb r s)) [
  | inl is ↦ subst (Contains ((q, r) ∷ l)) (same_spot q r p s is) (contains_here (q, r) l)
  | inr not ↦ contains_there (q, r) l (p, s) (listed_has l p s (rw not at some))
]

-- those that are apart are listed once
apart_once : (l : List (ℕ × ℕ)) → AllPairs AreApart l → (p s : ℕ) → times l p s ≤ 1
apart_once [] apart p s = omega arith
apart_once ((q, r) ∷ l) apart p s = elim (cases_Bool (eqb q p && eqb r s)) [
  | inl is ↦ rw is (no_more (times l p s) refl (same_spot q r p s is))
  | inr not ↦ rw not (apart_once l (λ i j d less within.
      apart (suc i) (suc j) d (omega (arith, less)) (omega (arith, within))) p s)
]
  where
    no_more : (n : ℕ) → times l p s ≡ n → ◌≡◌ {A = ℕ × ℕ} (q, r) (p, s) → suc (times l p s) ≤ 1
    no_more zero none here = omega (arith, none)
    no_more (suc n) more here =
        let (k, within, at) = listed_has l p s (omega (arith, more)) in
        absurd (apart 0 (suc k) (p, s) (omega arith) (omega (arith, within)) (here ∙ sym at))

-- ---- a unit

-- the header, the first n sectors behind it and the m behind these, and spots elsewhere
unit_once : (home n m : ℕ) (spots : List (ℕ × ℕ)) → AllPairs AreApart spots
    → ((q r : ℕ) → Contains spots (q, r) → q ≢ home) → (p s : ℕ)
    → times (((home, 0) ∷ (spots_from home (1 + n) m ++ spots)) ++ spots_from home 1 n) p s ≤ 1
unit_once home n m spots apart elsewhere p s =
    let all = times_joined ((home, 0) ∷ (spots_from home (1 + n) m ++ spots)) (spots_from home 1 n) p s in
    let first = times_joined ((home, 0) ∷ []) (spots_from home (1 + n) m ++ spots) p s in
    let second = times_joined (spots_from home (1 + n) m) spots p s in
    let whole = from_joined home 0 1 (n + m) p s in
    let behind = from_joined home 1 n m p s in
    let once = from_once home 0 (1 + (n + m)) p s in
    elim (cases_eq p home) [
      | inl here ↦
          let none : times spots p s ≡ 0 = nowhere (times spots p s) refl here in
          omega (arith, all, first, second, whole, behind, once, none)
      | inr there ↦
          let other : home ≢ p = λ same. there (sym same) in
          let none = from_elsewhere home 0 (1 + (n + m)) p s other in
          let few = apart_once spots apart p s in
          omega (arith, all, first, second, whole, behind, none, few)
    ]
  where
    nowhere : (k : ℕ) → times spots p s ≡ k → p ≡ home → times spots p s ≡ 0
    nowhere zero none here = none
    nowhere (suc k) some here = absurd (elsewhere p s (listed_has spots p s (omega (arith, some))) here)

pub merges_read_once : MergesReadOnce
merges_read_once places c it t u mirrors low =
    unit_once (slice_index t.places.current u) 240 15 (spots_in t.overflow u) (mirrors.overflow.once u low)
    (λ q r has same. (mirrors.overflow.only u q r low has).0 (same ∙ mirrors.directory.current u low))
