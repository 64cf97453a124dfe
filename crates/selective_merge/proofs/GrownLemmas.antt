-- The places that the tables know, with a new overflow place.
use Rattle.std.proofs.Common.{◌≡◌, ◌⊎◌, ◌<◌, ℕ, zero, suc, true, List, [], ◌∷◌, ◌++◌, length, map, inl, inr, refl, sym, ◌∙◌, ap, subst, arith, length-append}
use Rattle.std.specs.List.{AllPairs, Contains}
use Rattle.std.proofs.lemmas.Bool.{cases_eq}
use Rattle.std.proofs.lemmas.List.{get_or-set_other, length-set}
use Rattle.std.proofs.lemmas.List.Elements.{Contains-get_or, Contains-append_cases, Contains-append_left, Contains-append_right}
use Rattle.std.proofs.lemmas.List.Quantifiers.{all_pairs_push}
use Rattle.ipl_meaning.specs.Mirrors.{AreApart}
use Rattle.ipl_meaning.specs.Tables.{IsFree, Tables, overflow_places, place_of}
use Rattle.ipl_meaning.specs.TableSteps.{taken, with_overflow}
use Rattle.selective_merge.specs.Known.{IsNamed, KnowsPlaces}
use Rattle.selective_merge.proofs.KnownLemmas.{free_before}
use Rattle.selective_merge.specs.KnownLaws.{KnownPlacesTakeOverflows}

map_more : (l : List (ℕ × ℕ)) (x : ℕ × ℕ)
    → map place_of (l ++ x ∷ []) ≡ map place_of l ++ x.0 ∷ []
map_more [] x = refl
map_more (y ∷ l) x = ap (λ (k : List ℕ). y.0 ∷ k) (map_more l x)

only_here : (p q : ℕ) → Contains (p ∷ []) q → q ≡ p
only_here p q (zero, within, is) = sym is
only_here p q (suc i, within, is) = absurd (omega (arith, within))

module _ (places : ℕ) (t : Tables) (p next : ℕ) (known : KnowsPlaces places t)
    (free : IsFree t.places p) where
  abbrev grown : Tables
  grown = with_overflow (taken t p) p next

  places_are : overflow_places grown ≡ overflow_places t ++ p ∷ []
  places_are = map_more t.overflow.in_use (p, 1)

  overflow_cases : (q : ℕ) → Contains (overflow_places grown) q
      → Contains (overflow_places t) q ⊎ (q ≡ p)
  overflow_cases q has = elim (Contains-append_cases (overflow_places t) (p ∷ []) q
      (subst (λ (l : List ℕ). Contains l q) places_are has)) [
        | inl before ↦ inl before
        | inr new ↦ inr (only_here p q new)
      ]

  named_before : (q : ℕ) → IsNamed grown q → IsNamed t q ⊎ (q ≡ p)
  named_before q (inl home) = inl (inl home)
  named_before q (inr (inl status)) = inl (inr (inl status))
  named_before q (inr (inr over)) = elim (overflow_cases q over) [
    | inl before ↦ inl (inr (inr before))
    | inr same ↦ inr same
  ]

  named_new : IsNamed grown p
  named_new = inr (inr (subst (λ (l : List ℕ). Contains l p) (sym places_are)
      (Contains-append_right (overflow_places t) (p ∷ []) p (0, omega arith, refl))))

  named_known : (q : ℕ) → IsNamed grown q
      → Contains t.places.current q ⊎ (q ≡ t.status.place) ⊎ Contains (overflow_places grown) q
      ⊎ Contains t.places.retired q
  named_known q (inl home) = inl home
  named_known q (inr (inl status)) = inr (inl status)
  named_known q (inr (inr over)) = inr (inr (inl over))

  known_still : (q : ℕ)
      → Contains t.places.current q ⊎ (q ≡ t.status.place) ⊎ Contains (overflow_places t) q
      ⊎ Contains t.places.retired q
      → Contains t.places.current q ⊎ (q ≡ t.status.place) ⊎ Contains (overflow_places grown) q
      ⊎ Contains t.places.retired q
  known_still q (inl home) = inl home
  known_still q (inr (inl status)) = inr (inl status)
  known_still q (inr (inr (inl over))) =
      inr (inr (inl (subst (λ (l : List ℕ). Contains l q) (sym places_are)
      (Contains-append_left (overflow_places t) (p ∷ []) q over))))
  known_still q (inr (inr (inr retired))) = inr (inr (inr retired))

  not_overflow : ¬ IsNamed t p
  not_overflow named = known.used p named free

  knows_grown : length t.overflow.in_use < 2 → KnowsPlaces places grown
  knows_grown few = record {
    suits = record {
      all = length-set t.places.in_use p true ∙ known.suits.all;
      units = known.suits.units;
      overflow = known.suits.overflow;
      sized = known.suits.sized;
    };
    none_lost = λ q less in_use. elim (cases_eq q p) [
      | inl same ↦ named_known q (subst (IsNamed grown) (sym same) named_new)
      | inr other ↦ known_still q (known.none_lost q less (λ was.
          in_use (get_or-set_other t.places.in_use p q true true other ∙ was)))
    ];
    used = λ q named is. elim (named_before q named) [
      | inl before ↦ known.used q before (free_before t p q is).1
      | inr same ↦ (free_before t p q is).0 same
    ];
    retired_apart = λ q has. let was = known.retired_apart q has in (
      λ named. elim (named_before q named) [
        | inl before ↦ was.0 before
        | inr same ↦ was.1 (subst (IsFree t.places) (sym same) free)
      ],
      λ is. was.1 (free_before t p q is).1,
    );
    homes_apart = known.homes_apart;
    overflows_apart = subst (AllPairs AreApart) (sym places_are)
        (all_pairs_push AreApart (overflow_places t) p known.overflows_apart
        (λ k d within same. not_overflow (inr (inr
        (subst (Contains (overflow_places t)) same
        (Contains-get_or (overflow_places t) k d within))))));
    no_home = λ q over home. elim (overflow_cases q over) [
      | inl before ↦ known.no_home q before home
      | inr same ↦ not_overflow (inl (subst (Contains t.places.current) same home))
    ];
    status_apart = (
      known.status_apart.0,
      λ over. elim (overflow_cases t.status.place over) [
        | inl before ↦ known.status_apart.1 before
        | inr same ↦ not_overflow (inr (inl (sym same)))
      ],
    );
    two = omega (arith, few, length-append t.overflow.in_use ((p, 1) ∷ []));
    status_placed = known.status_placed;
  }

pub known_places_take_overflows : KnownPlacesTakeOverflows
known_places_take_overflows places t p next known within free few =
    knows_grown places t p next known free few
