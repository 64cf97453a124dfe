-- What always holds of the table, after each call.
use Rattle.std.proofs.Common.{◌≡◌, ℕ, zero, suc, ◌<◌, ◌+◌, List, [], ◌∷◌, ◌++◌, length, replicate, inl, inr, refl, sym, ◌∙◌, ap, get_or, subst, arith, eqb, set}
use Rattle.std.proofs.lemmas.Bool.{cases_Bool, cases_eq, cases_lt}
use Rattle.std.proofs.lemmas.List.{length-set, length-map, length-replicate, length_push, get_or-set_same, get_or-set_other, get_or_past}
use Rattle.std.proofs.lemmas.List.Elements.{All-nil, All-push, All-replicate, All-get_or, All-set, All-map, All-filter, All-weaker}
use Rattle.std.proofs.lemmas.List.Sums.{length-filter, count_by-le-length}
use Rattle.ipl_base.specs.Places.{IsGeometry, KeepsUnits}
use Rattle.ipl_meaning.specs.Tables.{OverflowLists}
use Rattle.overflow.specs.Lists.{IsSoundOverflow, IsFirstClean, AreFew, IsSpotWithin, AreWithin, IsPlaceOf, clean_behind, as_used, all_used, empty_lists, with_place, after_add, after_drop, is_kept, spots_in, masks_at, without_unit}

first_still : (p s : ℕ) → s < 256 → (o : ℕ × ℕ) → IsFirstClean o → IsFirstClean (clean_behind p s o)
first_still p s low o (least, most) = elim (cases_Bool (eqb o.0 p)) [
  | inl here ↦ rw here (omega arith, omega arith)
  | inr apart ↦ rw apart (least, most)
]

place_still : (p s places : ℕ) (o : ℕ × ℕ) → IsPlaceOf places o → IsPlaceOf places (clean_behind p s o)
place_still p s places o low = elim (cases_Bool (eqb o.0 p)) [
  | inl here ↦ rw here low
  | inr apart ↦ rw apart low
]

pub sound_added : (it : OverflowLists) (u p s mask : ℕ) → IsSoundOverflow it → u < length it.spots
    → length (spots_in it u) < 16 → p < it.places → s < 256
    → IsSoundOverflow (after_add it u p s mask)
sound_added it u p s mask sound unit few place low = record {
  places = sound.places;
  units = subst (KeepsUnits it.places) (sym (length-set it.spots u (spots_in it u ++ (p, s) ∷ [])))
      sound.units;
  few = All-set AreFew it.spots u (spots_in it u ++ (p, s) ∷ [])
      (omega (arith, length_push (spots_in it u) (p, s))) sound.few;
  two = omega (arith, sound.two, length-map it.in_use (clean_behind p s));
  firsts = All-map IsFirstClean (clean_behind p s) it.in_use
      (All-weaker IsFirstClean (λ o. IsFirstClean (clean_behind p s o))
      (first_still p s low) it.in_use sound.firsts);
  within = All-set (AreWithin it.places) it.spots u (spots_in it u ++ (p, s) ∷ [])
      (All-push (IsSpotWithin it.places) (spots_in it u) (p, s)
      (All-get_or (AreWithin it.places) it.spots u [] unit sound.within)
      (place, low)) sound.within;
  placed = All-map (IsPlaceOf it.places) (clean_behind p s) it.in_use
      (All-weaker (IsPlaceOf it.places) (λ o. IsPlaceOf it.places (clean_behind p s o))
      (place_still p s it.places) it.in_use sound.placed);
  lists = length-set it.masks u (masks_at it u ++ mask ∷ []) ∙ sound.lists
      ∙ sym (length-set it.spots u (spots_in it u ++ (p, s) ∷ []));
  each = λ v. elim (cases_eq v u) [
    | inl same ↦ rw same (ap length (get_or-set_same it.masks u (masks_at it u ++ mask ∷ []) [] (omega (arith, unit, sound.lists)))
        ∙ length_push (masks_at it u) mask ∙ ap (λ (n : ℕ). n + 1) (sound.each u) ∙ sym (length_push (spots_in it u) (p, s))
        ∙ sym (ap length (get_or-set_same it.spots u (spots_in it u ++ (p, s) ∷ []) [] unit)))
    | inr apart ↦ ap length (get_or-set_other it.masks u v (masks_at it u ++ mask ∷ []) [] apart)
        ∙ sound.each v ∙ sym (ap length (get_or-set_other it.spots u v (spots_in it u ++ (p, s) ∷ []) [] apart))
  ];
}

pub sound_dropped : (it : OverflowLists) (u : ℕ) → IsSoundOverflow it
    → IsSoundOverflow (after_drop it u)
sound_dropped it u sound = record {
  places = sound.places;
  units = subst (KeepsUnits it.places) (sym (length-set it.spots u [])) sound.units;
  few = All-set AreFew it.spots u [] (omega arith) sound.few;
  two = omega (
    arith,
    sound.two,
    length-filter (is_kept (without_unit it u)) it.in_use,
    count_by-le-length (is_kept (without_unit it u)) it.in_use,
  );
  firsts = All-filter (is_kept (without_unit it u)) IsFirstClean it.in_use sound.firsts;
  within = All-set (AreWithin it.places) it.spots u [] (All-nil (IsSpotWithin it.places)) sound.within;
  placed = All-filter (is_kept (without_unit it u)) (IsPlaceOf it.places) it.in_use sound.placed;
  lists = length-set it.masks u [] ∙ sound.lists ∙ sym (length-set it.spots u []);
  each = λ v. elim (cases_eq v u) [
    | inl same ↦ rw same (emptied it.masks u ∙ sym (emptied it.spots u))
    | inr apart ↦ ap length (get_or-set_other it.masks u v [] [] apart) ∙ sound.each v
        ∙ sym (ap length (get_or-set_other it.spots u v [] [] apart))
  ];
}
  where
    emptied : {X : Type 0} (l : List (List X)) (u : ℕ) → length (get_or (set l u []) u []) ≡ 0
    emptied l u = elim (cases_lt u (length l)) [
      | inl low ↦ ap length (get_or-set_same l u [] [] low)
      | inr past ↦ ap length (get_or_past (set l u []) u [] (omega (arith, past, length-set l u [])))
    ]

-- ---- none, and places in use

empty_part : (X : Type 0) (n u : ℕ) → length (get_or (replicate n (let xs : List X = [] in xs)) u []) ≡ 0
empty_part X zero u = refl
empty_part X (suc n) zero = refl
empty_part X (suc n) (suc u) = empty_part X n u

pub sound_empty : (places units : ℕ) → IsGeometry places → KeepsUnits places units → IsSoundOverflow (empty_lists places units)
sound_empty places units geometry keeps = record {
  places = geometry;
  units = subst (KeepsUnits places) (sym (length-replicate units [])) keeps;
  few = All-replicate AreFew units [] (omega arith);
  two = omega arith;
  firsts = All-nil IsFirstClean;
  within = All-replicate (AreWithin places) units [] (All-nil (IsSpotWithin places));
  placed = All-nil (IsPlaceOf places);
  lists = length-replicate units [] ∙ sym (length-replicate units []);
  each = λ u. empty_part ℕ units u ∙ sym (empty_part (ℕ × ℕ) units u);
}

pub sound_placed : (it : OverflowLists) (p : ℕ) → IsSoundOverflow it → length it.in_use < 2 → p < it.places
    → IsSoundOverflow (with_place it p 1)
sound_placed it p sound few low = record {
  places = sound.places;
  units = sound.units;
  few = sound.few;
  two = omega (arith, few, length_push it.in_use (p, 1));
  firsts = All-push IsFirstClean it.in_use (p, 1) sound.firsts (omega arith, omega arith);
  within = sound.within;
  placed = All-push (IsPlaceOf it.places) it.in_use (p, 1) sound.placed low;
  lists = sound.lists;
  each = sound.each;
}

pub sound_used : (it : OverflowLists) → IsSoundOverflow it → IsSoundOverflow (all_used it)
sound_used it sound = record {
  places = sound.places;
  units = sound.units;
  few = sound.few;
  two = omega (arith, sound.two, length-map it.in_use as_used);
  firsts = All-map IsFirstClean as_used it.in_use
      (All-weaker IsFirstClean (λ o. IsFirstClean (as_used o)) (λ o is. (omega arith, omega arith)) it.in_use sound.firsts);
  within = sound.within;
  placed = All-map (IsPlaceOf it.places) as_used it.in_use
      (All-weaker (IsPlaceOf it.places) (λ o. IsPlaceOf it.places (as_used o)) (λ o is. is) it.in_use sound.placed);
  lists = sound.lists;
  each = sound.each;
}
