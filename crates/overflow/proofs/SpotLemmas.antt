-- The spot that is offered.
use Rattle.std.proofs.Common.{◌≡◌, ◌⊎◌, ℕ, ◌<◌, ◌≤◌, Bool, cond, nat_le, List, [], ◌∷◌, Option, Some, None, inl, inr, refl, sym, ◌∙◌, ap, subst, arith}
use Rattle.std.specs.List.{Contains, All}
use Rattle.std.proofs.lemmas.Bool.{cases_Bool, leb-true}
use Rattle.std.proofs.lemmas.List.Elements.{All-contains}
use Rattle.std.specs.Option.{option_map, IfSome, IfNone}
use Rattle.ipl_base.specs.declared.spot.Spot.{Spot}
use Rattle.overflow.specs.Lists.{pair_of, IsFirstClean, lower_spot, first_spot, IsPlaceOf}
use Rattle.overflow.specs.Laws.{OffersSpots}
use Rattle.overflow.proofs.ElementLemmas.{contains_cons, contains_here, contains_there, contains_nil, leb_false}

-- a better spot is the one from before, or the place's
lower_spot_cases : (best : Option (ℕ × ℕ)) (place spot : ℕ × ℕ) → lower_spot best place ≡ Some spot
    → (best ≡ Some spot) ⊎ ((place ≡ spot) × (spot.1 < 256))
lower_spot_cases None place spot is = elim (cases_Bool (nat_le 256 place.1)) [
  | inl full ↦ let none : None ≡ Some spot =
      subst (λ (b : Bool). cond b None (Some place) ≡ Some spot) full is in absurd (cc)
  | inr some ↦
      let same : Some place ≡ Some spot =
      subst (λ (b : Bool). cond b None (Some place) ≡ Some spot) some is in
      let it : place ≡ spot = cc in
      inr (it, subst (λ (z : ℕ × ℕ). z.1 < 256) it (leb_false some))
]
lower_spot_cases (Some best) place spot is = elim (cases_Bool (nat_le 256 place.1)) [
  | inl full ↦ inl (subst (λ (b : Bool). cond b (Some best)
      (cond (nat_le best.0 place.0) (Some best) (Some place)) ≡ Some spot) full is)
  | inr some ↦
      let rest : cond (nat_le best.0 place.0) (Some best) (Some place) ≡ Some spot =
      subst (λ (b : Bool). cond b (Some best)
      (cond (nat_le best.0 place.0) (Some best) (Some place)) ≡ Some spot) some is in
      elim (cases_Bool (nat_le best.0 place.0)) [
        | inl lower_one ↦ inl (subst
            (λ (b : Bool). cond b (Some best) (Some place) ≡ Some spot) lower_one rest)
        | inr other ↦
            let same : Some place ≡ Some spot =
            subst (λ (b : Bool). cond b (Some best) (Some place) ≡ Some spot) other rest in
            let it : place ≡ spot = cc in
            inr (it, subst (λ (z : ℕ × ℕ). z.1 < 256) it (leb_false some))
      ]
]

lower_spot_none : (best : Option (ℕ × ℕ)) (place : ℕ × ℕ) → lower_spot best place ≡ None
    → (best ≡ None) × (256 ≤ place.1)
lower_spot_none None place is = elim (cases_Bool (nat_le 256 place.1)) [
  | inl full ↦ (refl, leb-true _ _ full)
  | inr some ↦ let none : Some place ≡ None =
      subst (λ (b : Bool). cond b None (Some place) ≡ None) some is in absurd (cc)
]
lower_spot_none (Some best) place is = elim (cases_Bool (nat_le 256 place.1)) [
  | inl full ↦ let none : Some best ≡ None =
      subst (λ (b : Bool). cond b (Some best)
      (cond (nat_le best.0 place.0) (Some best) (Some place)) ≡ None) full is in absurd (cc)
  | inr some ↦
      let rest : cond (nat_le best.0 place.0) (Some best) (Some place) ≡ None =
      subst (λ (b : Bool). cond b (Some best)
      (cond (nat_le best.0 place.0) (Some best) (Some place)) ≡ None) some is in
      elim (cases_Bool (nat_le best.0 place.0)) [
        | inl lower_one ↦ let none : Some best ≡ None =
            subst (λ (b : Bool). cond b (Some best) (Some place) ≡ None) lower_one rest in
            absurd (cc)
        | inr other ↦ let none : Some place ≡ None =
            subst (λ (b : Bool). cond b (Some best) (Some place) ≡ None) other rest in absurd (cc)
      ]
]

first_some : (best : Option (ℕ × ℕ)) (places : List (ℕ × ℕ)) (spot : ℕ × ℕ)
    → first_spot best places ≡ Some spot
    → (best ≡ Some spot) ⊎ (Contains places spot × (spot.1 < 256))
first_some best [] spot is = inl is
first_some best (place ∷ places) spot is =
    elim (first_some (lower_spot best place) places spot is) [
      | inr (there, low) ↦ inr (contains_there place places spot there, low)
      | inl before ↦ elim (lower_spot_cases best place spot before) [
        | inl was ↦ inl was
        | inr (same, low) ↦ inr (
          subst (Contains (place ∷ places)) same (contains_here place places),
          low,
        )
      ]
    ]

first_none : (best : Option (ℕ × ℕ)) (places : List (ℕ × ℕ)) → first_spot best places ≡ None
    → (best ≡ None) × ((p first : ℕ) → Contains places (p, first) → 256 ≤ first)
first_none best [] is = (is, λ p first there. absurd (contains_nil _ there))
first_none best (place ∷ places) is =
    let (before, rest) = first_none (lower_spot best place) places is in
    let (none, full) = lower_spot_none best place before in (
      none,
      λ p first there. elim (contains_cons place places (p, first) there) [
        | inl same ↦ subst (λ (z : ℕ × ℕ). 256 ≤ z.1) same full
        | inr more ↦ rest p first more
      ],
    )

-- what is no higher than the lower spot is no higher than either
lower_spot_below : (best : Option (ℕ × ℕ)) (place : ℕ × ℕ) (p : ℕ)
    → ((b : ℕ × ℕ) → lower_spot best place ≡ Some b → p ≤ b.0)
    → ((b : ℕ × ℕ) → best ≡ Some b → p ≤ b.0) × (place.1 < 256 → p ≤ place.0)
lower_spot_below None place p below = elim (cases_Bool (nat_le 256 place.1)) [
  | inl full ↦ (λ b none. absurd (cc), λ low. absurd (let high = leb-true _ _ full in omega arith))
  | inr some ↦ (λ b none. absurd (cc), λ low. below place (rw some refl))
]
lower_spot_below (Some best) place p below = elim (cases_Bool (nat_le 256 place.1)) [
  | inl full ↦ (
    λ b same. below b (rw full same),
    λ low. absurd (let high = leb-true _ _ full in omega arith),
  )
  | inr some ↦ elim (cases_Bool (nat_le best.0 place.0)) [
    | inl first ↦
        let low : p ≤ best.0 = below best (rw (some, first) refl) in
        let most = leb-true best.0 place.0 first in
        (λ b same. from_best b same low, λ _. omega arith)
    | inr later ↦
        let low : p ≤ place.0 = below place (rw (some, later) refl) in
        let less : place.0 < best.0 = leb_false later in
        (λ b same. from_best b same (omega arith), λ _. low)
  ]
]
  where
    from_best : (b : ℕ × ℕ) → Some best ≡ Some b → p ≤ best.0 → p ≤ b.0
    from_best b same low = let it : best ≡ b = cc in subst (λ (z : ℕ × ℕ). p ≤ z.0) it low

first_lowest : (best : Option (ℕ × ℕ)) (places : List (ℕ × ℕ)) (p s : ℕ)
    → first_spot best places ≡ Some (p, s)
    → ((b : ℕ × ℕ) → best ≡ Some b → p ≤ b.0)
    × ((q first : ℕ) → Contains places (q, first) → first < 256 → p ≤ q)
first_lowest best [] p s is = (
  λ b was. same_place b (was_it b was),
  λ q first there. absurd (contains_nil _ there),
)
  where
    was_it : (b : ℕ × ℕ) → best ≡ Some b → b ≡ (p, s)
    was_it b was = let both : Some b ≡ Some (p, s) = sym was ∙ is in cc

    same_place : (b : ℕ × ℕ) → b ≡ (p, s) → p ≤ b.0
    same_place b same = omega (arith, ap (λ (z : ℕ × ℕ). z.0) same)
first_lowest best (place ∷ places) p s is =
    let (before, rest) = first_lowest (lower_spot best place) places p s is in
    let (old, this) = lower_spot_below best place p before in (
      old,
      λ q first there clean. elim (contains_cons place places (q, first) there) [
        | inl same ↦
            let low : place.1 < 256 = subst (λ (z : ℕ × ℕ). z.1 < 256) (sym same) clean in
            subst (λ (z : ℕ × ℕ). p ≤ z.0) same (this low)
        | inr more ↦ rest q first more clean
      ],
    )

pub spots_are_clean_ones : (places : List (ℕ × ℕ)) → OffersSpots places
spots_are_clean_ones places = record {
  some = λ p s is. elim (first_some None places (p, s) is) [
    | inl none ↦ absurd (cc)
    | inr there ↦ there
  ];
  lowest = λ p s is. (first_lowest None places p s is).1;
  none = λ is. (first_none None places is).1;
}

-- ---- what is known of the spot that is offered

pub spot_stands : (places : List (ℕ × ℕ)) (r : Option Spot)
    → option_map pair_of r ≡ first_spot None places
    → IfSome r (λ spot. Contains places (pair_of spot))
spot_stands places None is = tt
spot_stands places (Some spot) is =
    ((spots_are_clean_ones places).some spot.place spot.sector (sym is)).0

pub spot_in_range : (places : List (ℕ × ℕ)) (r : Option Spot) → All IsFirstClean places
    → option_map pair_of r ≡ first_spot None places
    → IfSome r (λ spot. (1 ≤ spot.sector) × (spot.sector < 256))
spot_in_range places None firsts is = tt
spot_in_range places (Some spot) firsts is =
    let (there, low) = (spots_are_clean_ones places).some spot.place spot.sector (sym is) in
    ((All-contains IsFirstClean places (spot.place, spot.sector) firsts there).0, low)

pub spot_placed : (places : List (ℕ × ℕ)) (all : ℕ) (r : Option Spot) → All (IsPlaceOf all) places
    → option_map pair_of r ≡ first_spot None places
    → IfSome r (λ spot. spot.place < all)
spot_placed places all None placed is = tt
spot_placed places all (Some spot) placed is =
    let (there, low) = (spots_are_clean_ones places).some spot.place spot.sector (sym is) in
    All-contains (IsPlaceOf all) places (spot.place, spot.sector) placed there

pub spot_lowest : (places : List (ℕ × ℕ)) (r : Option Spot)
    → option_map pair_of r ≡ first_spot None places
    → IfSome r (λ spot. (p first : ℕ) → Contains places (p, first) → first < 256 → spot.place ≤ p)
spot_lowest places None is = tt
spot_lowest places (Some spot) is =
    (spots_are_clean_ones places).lowest spot.place spot.sector (sym is)

pub spot_none : (places : List (ℕ × ℕ)) (r : Option Spot)
    → option_map pair_of r ≡ first_spot None places
    → IfNone r ((p first : ℕ) → Contains places (p, first) → 256 ≤ first)
spot_none places None is = (spots_are_clean_ones places).none (sym is)
spot_none places (Some spot) is = tt
