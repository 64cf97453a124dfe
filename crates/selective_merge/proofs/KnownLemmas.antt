-- The places that the tables know, once a place is taken and a unit has moved.
use Rattle.std.proofs.Common.{◌≡◌, ◌≢◌, ◌⊎◌, ◌<◌, ℕ, zero, suc, true, false, List, [], ◌∷◌, length, map, get_or, slice_index, slice_set, inl, inr, refl, sym, ◌∙◌, ap, subst, arith}
use Rattle.std.specs.List.{All, AllPairs, Contains}
use Rattle.std.proofs.lemmas.Bool.{cases_eq, cases_lt}
use Rattle.std.proofs.lemmas.List.{get_or-set_same, get_or-set_other, get_or_past, get_or-map, length-set, length-map}
use Rattle.std.proofs.lemmas.List.Elements.{Contains-get_or}
use Rattle.ipl_base.specs.Places.{KeepsUnits}
use Rattle.ipl_meaning.specs.Mirrors.{AreApart, NoneIsLost}
use Rattle.ipl_meaning.specs.Tables.{IsFree, StatusTable, Tables, overflow_places, place_of}
use Rattle.ipl_meaning.specs.TableSteps.{IsMoved, taken, with_next, without_worn}
use Rattle.unit_directory.proofs.AsideLemmas.{free_but, free_still}
use Rattle.unit_directory.proofs.RetiredLemmas.{inserted_from, inserted_has, inserted_keeps}
use Rattle.selective_merge.specs.Known.{IsNamed, KnowsPlaces}
use Rattle.selective_merge.specs.KnownLaws.{KnownPlacesMayBeAside, KnownPlacesMove}

-- ---- a place that was taken

pub taken_is_used : (t : Tables) (p : ℕ) → ¬ IsFree (taken t p).places p
taken_is_used t p free = elim (cases_lt p (length t.places.in_use)) [
  | inl there ↦
      let e : true ≡ false = sym (get_or-set_same t.places.in_use p true true there) ∙ free in cc
  | inr past ↦
      let e : true ≡ false =
      sym (get_or_past (slice_set t.places.in_use p true) p true
      (omega (arith, past, length-set t.places.in_use p true))) ∙ free in cc
]

-- what is free then was free, and is another place
pub free_before : (t : Tables) (p q : ℕ) → IsFree (taken t p).places q → (q ≢ p) × IsFree t.places q
free_before t p q free =
    let apart : q ≢ p = λ same.
    taken_is_used t p (subst (λ (k : ℕ). IsFree (taken t p).places k) same free) in
    (apart, sym (get_or-set_other t.places.in_use p q true true apart) ∙ free)

-- ---- a place that was found worn

module _ (places : ℕ) (t : Tables) (p : ℕ) (known : KnowsPlaces places t)
    (free : IsFree t.places p) where
  abbrev aside_then : Tables
  aside_then = without_worn t p

  not_lost : NoneIsLost places aside_then
  not_lost q less used = elim (cases_eq q p) [
    | inl same ↦ inr (inr (inr (subst (Contains aside_then.places.retired) (sym same)
        (inserted_has p t.places.retired))))
    | inr other ↦ elim (known.none_lost q less
        (λ was. used (free_still t.places p q other was))) [
          | inl home ↦ inl home
          | inr (inl status) ↦ inr (inl status)
          | inr (inr (inl over)) ↦ inr (inr (inl over))
          | inr (inr (inr retired)) ↦
              inr (inr (inr (inserted_keeps p t.places.retired q retired)))
        ]
  ]

  -- the tables know each place with it retired
  knows_aside : KnowsPlaces places aside_then
  knows_aside = record {
    suits = record {
      all = length-set t.places.in_use p true ∙ known.suits.all;
      units = known.suits.units;
      overflow = known.suits.overflow;
      sized = known.suits.sized;
    };
    none_lost = not_lost;
    used = λ q named is. known.used q named (free_but t.places p q is).1;
    retired_apart = λ q has. elim (inserted_from p t.places.retired q has) [
      | inl this ↦ (
        λ named. known.used p (subst (IsNamed t) (sym this) named) free,
        λ is. (free_but t.places p q is).0 (sym this),
      )
      | inr before ↦ let was = known.retired_apart q before in
          (was.0, λ is. was.1 (free_but t.places p q is).1)
    ];
    homes_apart = known.homes_apart;
    overflows_apart = known.overflows_apart;
    no_home = known.no_home;
    status_apart = known.status_apart;
    two = known.two;
    status_placed = known.status_placed;
  }

pub known_places_may_be_aside : KnownPlacesMayBeAside
known_places_may_be_aside places t [] known next = known
known_places_may_be_aside places t (p ∷ worn) known next =
    known_places_may_be_aside places (without_worn t p) worn
    (knows_aside places t p known next.0.free) next.1

-- ---- a unit moves

-- an element of a list with another one at u
set_has : (l : List ℕ) (u p q : ℕ) → Contains (slice_set l u p) q
    → (q ≡ p) ⊎ ((i : ℕ) × (i < length l) × (i ≢ u) × (get_or l i q ≡ q))
set_has l u p q (i, within, is) =
    let low : i < length l = omega (arith, within, length-set l u p) in
    elim (cases_eq i u) [
      | inl same ↦ inl (sym is ∙ (ap (λ k. get_or (slice_set l u p) k q) same
          ∙ get_or-set_same l u p q (omega (arith, low, same))))
      | inr other ↦ inr (i, low, other, sym (get_or-set_other l u i p q other) ∙ is)
    ]

other_apart : (l : List ℕ) (u i q : ℕ) → AllPairs AreApart l → u < length l → i < length l
    → i ≢ u → get_or l i q ≡ q → get_or l u q ≡ q → ⊥
other_apart l u i q apart low within other is same = elim (cases_lt i u) [
  | inl less ↦ apart i u q less low (is ∙ sym same)
  | inr more ↦ apart u i q (omega (arith, more, other)) within (same ∙ sym is)
]

apart_set : (l : List ℕ) (u p : ℕ) → u < length l → (Contains l p → ⊥) → AllPairs AreApart l
    → AllPairs AreApart (slice_set l u p)
apart_set l u p low none apart = λ i j d less within same.
    let high : j < length l = omega (arith, within, length-set l u p) in
    elim (cases_eq i u) [
      | inl first ↦ none (there j d high
          (sym (get_or-set_other l u j p d (λ is. omega (arith, is, first, less))) ∙ sym same
          ∙ at_u i d first))
      | inr other ↦ elim (cases_eq j u) [
        | inl second ↦ none (there i d (omega (arith, less, high))
            (sym (get_or-set_other l u i p d other) ∙ same ∙ at_u j d second))
        | inr neither ↦ apart i j d less high
            (sym (get_or-set_other l u i p d other) ∙ same ∙ get_or-set_other l u j p d neither)
      ]
    ]
  where
    at_u : (i d : ℕ) → i ≡ u → get_or (slice_set l u p) i d ≡ p
    at_u i d is = ap (λ k. get_or (slice_set l u p) k d) is ∙ get_or-set_same l u p d low

    there : (i d : ℕ) → i < length l → get_or l i d ≡ p → Contains l p
    there i d within is = subst (Contains l) is (Contains-get_or l i d within)

-- a place of overflow places that stay was one before
places_stay : (l k : List (ℕ × ℕ)) (q : ℕ) → All (Contains l) k → Contains (map place_of k) q
    → Contains (map place_of l) q
places_stay l k q all (i, within, is) =
    let low : i < length k = omega (arith, within, length-map k place_of) in
    let (j, less, same) = all i (0, 0) low in (
      j,
      omega (arith, less, length-map l place_of),
      get_or-map place_of l j _ q less
          ∙ (ap place_of same ∙ (sym (get_or-map place_of k i (0, 0) q low) ∙ is)),
    )

module _ (places : ℕ) (t after : Tables) (u p used next : ℕ) (known : KnowsPlaces places t)
    (low : u < length t.places.current) (free : IsFree t.places p)
    (moved : IsMoved (with_next (taken t p) next) after u p used) where
  abbrev home : ℕ
  home = slice_index t.places.current u

  is_home : Contains t.places.current home
  is_home = Contains-get_or t.places.current u 0 low

  not_named : ¬ IsNamed t p
  not_named named = known.used p named free

  home_then : (q : ℕ) → Contains after.places.current q
      → (q ≡ p) ⊎ ((i : ℕ) × (i < length t.places.current) × (i ≢ u)
      × (get_or t.places.current i q ≡ q))
  home_then q has =
      set_has t.places.current u p q (subst (λ (l : List ℕ). Contains l q) moved.current has)

  status_then : after.status.place ≡ t.status.place
  status_then = ap (λ (s : StatusTable). s.place) moved.status

  overflow_then : (q : ℕ) → Contains (overflow_places after) q → Contains (overflow_places t) q
  overflow_then q has = places_stay t.overflow.in_use after.overflow.in_use q moved.some has

  -- what was free and isn't the place
  free_then : (q : ℕ) → q ≢ p → IsFree t.places q → ¬ IsNamed after q
  free_then q apart was (inl has) = elim (home_then q has) [
    | inl same ↦ apart same
    | inr (i, within, other, is) ↦ known.used q (inl (i, within, is)) was
  ]
  free_then q apart was (inr (inl is)) = known.used q (inr (inl (is ∙ status_then))) was
  free_then q apart was (inr (inr has)) = known.used q (inr (inr (overflow_then q has))) was

  -- where the unit stood
  left_then : (q : ℕ) → q ≡ home → ¬ IsNamed after q
  left_then q at (inl has) = elim (home_then q has) [
    | inl same ↦ not_named (inl (subst (Contains t.places.current) (sym at ∙ same) is_home))
    | inr (i, within, other, is) ↦
        let same : get_or t.places.current u q ≡ q =
        default_apart t.places.current u q 0 low ∙ sym at in
        other_apart t.places.current u i q known.homes_apart low within other is same
  ]
    where
      default_apart : (l : List ℕ) (i d e : ℕ) → i < length l → get_or l i d ≡ get_or l i e
      default_apart [] i d e within = absurd (omega (arith, within))
      default_apart (x ∷ l) zero d e within = refl
      default_apart (x ∷ l) (suc i) d e within = default_apart l i d e (omega (arith, within))
  left_then q at (inr (inl is)) =
      known.status_apart.0
      (subst (Contains t.places.current) (sym at ∙ (is ∙ status_then)) is_home)
  left_then q at (inr (inr has)) =
      known.no_home q (overflow_then q has) (subst (Contains t.places.current) (sym at) is_home)

  -- an overflow place that no list names any more
  gone_then : (q : ℕ) → Contains (overflow_places t) q → ¬ Contains (overflow_places after) q
      → ¬ IsNamed after q
  gone_then q was gone (inl has) = elim (home_then q has) [
    | inl same ↦ not_named (inr (inr (subst (Contains (overflow_places t)) same was)))
    | inr (i, within, other, is) ↦ known.no_home q was (i, within, is)
  ]
  gone_then q was gone (inr (inl is)) =
      known.status_apart.1 (subst (Contains (overflow_places t)) (is ∙ status_then) was)
  gone_then q was gone (inr (inr has)) = gone has

  used_then : (q : ℕ) → IsNamed after q → ¬ IsFree after.places q
  used_then q named is = elim (moved.free q is) [
    | inl was ↦ let before = free_before t p q was in free_then q before.0 before.1 named
    | inr (inl at) ↦ left_then q at named
    | inr (inr (was, gone)) ↦ gone_then q was gone named
  ]

  retired_then : (q : ℕ) → Contains after.places.retired q
      → (¬ IsNamed after q) × (¬ IsFree after.places q)
  retired_then q has =
      let (not_named, not_free) = known.retired_apart q
      (subst (λ (l : List ℕ). Contains l q) moved.retired has) in (
        λ named. by_name named not_named not_free,
        λ is. elim (moved.free q is) [
          | inl was ↦ not_free (free_before t p q was).1
          | inr (inl at) ↦ not_named (inl (subst (Contains t.places.current) (sym at) is_home))
          | inr (inr (was, gone)) ↦ not_named (inr (inr was))
        ],
      )
    where
      by_name : IsNamed after q → ¬ IsNamed t q → ¬ IsFree t.places q → ⊥
      by_name (inl home) not_named not_free = elim (home_then q home) [
        | inl same ↦ not_free (subst (IsFree t.places) (sym same) free)
        | inr (i, within, other, is) ↦ not_named (inl (i, within, is))
      ]
      by_name (inr (inl is)) not_named not_free = not_named (inr (inl (is ∙ status_then)))
      by_name (inr (inr over)) not_named not_free =
          not_named (inr (inr (overflow_then q over)))

  home_apart : (q : ℕ) → Contains (overflow_places after) q → ¬ Contains after.places.current q
  home_apart q over has = elim (home_then q has) [
    | inl same ↦
        not_named (inr (inr (subst (Contains (overflow_places t)) same (overflow_then q over))))
    | inr (i, within, other, is) ↦ known.no_home q (overflow_then q over) (i, within, is)
  ]

  status_home : ¬ Contains after.places.current after.status.place
  status_home has = elim (home_then after.status.place has) [
    | inl same ↦ not_named (inr (inl (sym same ∙ status_then)))
    | inr (i, within, other, is) ↦
        known.status_apart.0 (subst (Contains t.places.current) status_then (i, within, is))
  ]

  as_many : length after.places.current ≡ length t.places.current
  as_many = ap (λ (l : List ℕ). length l) moved.current ∙ length-set t.places.current u p

  knows_then : NoneIsLost places after → KnowsPlaces places after
  knows_then lost = record {
    suits = record {
      all = moved.all ∙ (length-set t.places.in_use p true ∙ known.suits.all);
      units = subst (KeepsUnits places) (sym as_many) known.suits.units;
      overflow = ap (λ (l : List (List (ℕ × ℕ))). length l) moved.spots
          ∙ (length-set t.overflow.spots u [] ∙ (known.suits.overflow ∙ sym as_many));
      sized = moved.sized ∙ known.suits.sized;
    };
    none_lost = lost;
    used = used_then;
    retired_apart = retired_then;
    homes_apart = subst (AllPairs AreApart) (sym moved.current)
        (apart_set t.places.current u p low (λ has. not_named (inl has)) known.homes_apart);
    overflows_apart = moved.apart;
    no_home = home_apart;
    status_apart = (
      status_home,
      λ has. known.status_apart.1
          (subst (Contains (overflow_places t)) status_then (overflow_then _ has)),
    );
    two = moved.two;
    status_placed = omega (arith, status_then, known.status_placed);
  }

pub known_places_move : KnownPlacesMove
known_places_move places t after u p used next known low within free moved lost =
    knows_then places t after u p used next known low free moved lost
