-- Spots are chosen by their masks, one after another.
use Rattle.std.proofs.Common.{◌≡◌, ℕ, zero, suc, ◌<◌, ◌≤◌, ◌+◌, ◌-◌, true, false, List, [], ◌∷◌, ◌++◌, append_assoc, length, map, drop, get_or, inl, inr, refl, sym, ◌∙◌, ap, subst, arith}
use Rattle.std.specs.List.{All, filter}
use Rattle.std.proofs.lemmas.List.{append-nil, drop_more, map_push}
use Rattle.std.proofs.lemmas.Bool.{cases_Bool}
use Rattle.std.proofs.lemmas.List.Elements.{All-nil, All-cons, All-head, All-tail, All-append, All-filter}
use Rattle.ipl_base.specs.declared.spot.Spot.{Spot}
use Rattle.ipl_base.specs.declared.limits.TheConstants.{VERSION}
use Rattle.ipl_format.specs.Record.{Record, IsRecord}
use Rattle.ipl_meaning.specs.Masks.{has_page, mask_after, with_page}
use Rattle.overflow.specs.Lists.{pair_of, IsSpotWithin, AreWithin}
use Rattle.unit_log.specs.Live.{spots_from}
use Rattle.unit_log.specs.Paged.{names_at_home, home_with, listed_with}
use Rattle.unit_log.proofs.GatherLemmas.{home_step}

-- those that are chosen from one sector on
abbrev pub home_rest : ℕ → ℕ → List ℕ → ℕ → List (ℕ × ℕ)
home_rest page p masks s = filter (names_at_home page masks) (spots_from p s (256 - s))

pub home_chosen : (page p s : ℕ) (masks : List ℕ) (spots : List Spot) (spot : Spot) (all : List (ℕ × ℕ)) → s < 256
    → names_at_home page masks (p, s) ≡ true → pair_of spot ≡ (p, s)
    → map pair_of spots ++ home_rest page p masks s ≡ all
    → map pair_of (spots ++ spot ∷ []) ++ home_rest page p masks (s + 1) ≡ all
home_chosen page p s masks spots spot all low is at so_far =
    ap (λ (l : List (ℕ × ℕ)). l ++ home_rest page p masks (s + 1)) (map_push pair_of spots spot)
    ∙ append_assoc (map pair_of spots) (pair_of spot ∷ []) (home_rest page p masks (s + 1))
    ∙ ap (λ (x : ℕ × ℕ). map pair_of spots ++ x ∷ home_rest page p masks (s + 1)) at
    ∙ ap (λ (l : List (ℕ × ℕ)). map pair_of spots ++ l) (sym step)
    ∙ so_far
  where
    step : home_rest page p masks s ≡ (p, s) ∷ home_rest page p masks (s + 1)
    step = rw (home_step p s 256 low, is) refl

pub home_passed : (page p s : ℕ) (masks : List ℕ) (spots : List Spot) (all : List (ℕ × ℕ)) → s < 256
    → names_at_home page masks (p, s) ≡ false
    → map pair_of spots ++ home_rest page p masks s ≡ all
    → map pair_of spots ++ home_rest page p masks (s + 1) ≡ all
home_passed page p s masks spots all low not so_far =
    ap (λ (l : List (ℕ × ℕ)). map pair_of spots ++ l) (sym step) ∙ so_far
  where
    step : home_rest page p masks s ≡ home_rest page p masks (s + 1)
    step = rw (home_step p s 256 low, not) refl

pub home_all : (page p s : ℕ) (masks : List ℕ) (spots : List Spot) (all : List (ℕ × ℕ)) → 256 ≤ s
    → map pair_of spots ++ home_rest page p masks s ≡ all → map pair_of spots ≡ all
home_all page p s masks spots all end so_far =
    sym (append-nil (map pair_of spots))
    ∙ ap (λ (l : List (ℕ × ℕ)). map pair_of spots ++ l) (sym none) ∙ so_far
  where
    none : home_rest page p masks s ≡ []
    none = let zero_left : 256 - s ≡ 0 = omega (arith, end) in rw zero_left refl

-- ---- of a list

abbrev pub listed_rest : ℕ → List Spot → List ℕ → ℕ → List (ℕ × ℕ)
listed_rest page listed masks i = listed_with page (map pair_of (drop i listed)) (drop i masks)

module _ (page i : ℕ) (listed spots : List Spot) (masks : List ℕ) (all : List (ℕ × ℕ)) (d : Spot)
    (low : i < length listed) (also : i < length masks)
    (so_far : map pair_of spots ++ listed_rest page listed masks i ≡ all) where
  pub listed_chosen : has_page (get_or masks i 0) page ≡ true
      → map pair_of (spots ++ get_or listed i d ∷ []) ++ listed_rest page listed masks (i + 1) ≡ all
  listed_chosen is =
      ap (λ (l : List (ℕ × ℕ)). l ++ listed_rest page listed masks (i + 1)) (map_push pair_of spots (get_or listed i d))
      ∙ append_assoc (map pair_of spots) (pair_of (get_or listed i d) ∷ []) (listed_rest page listed masks (i + 1))
      ∙ ap (λ (l : List (ℕ × ℕ)). map pair_of spots ++ l) (sym step)
      ∙ so_far
    where
      step : listed_rest page listed masks i ≡ pair_of (get_or listed i d) ∷ listed_rest page listed masks (i + 1)
      step = rw (drop_more listed i d low, drop_more masks i 0 also, is) refl

  pub listed_passed : has_page (get_or masks i 0) page ≡ false
      → map pair_of spots ++ listed_rest page listed masks (i + 1) ≡ all
  listed_passed not = ap (λ (l : List (ℕ × ℕ)). map pair_of spots ++ l) (sym step) ∙ so_far
    where
      step : listed_rest page listed masks i ≡ listed_rest page listed masks (i + 1)
      step = rw (drop_more listed i d low, drop_more masks i 0 also, not) refl

-- ---- all are sectors of the chip

from_within : (places p s n : ℕ) → p < places → s + n ≤ 256 → AreWithin places (spots_from p s n)
from_within places p s zero low small = All-nil (IsSpotWithin places)
from_within places p s (suc n) low small =
    All-cons (IsSpotWithin places) (p, s) (spots_from p (s + 1) n) (low, omega (arith, small))
    (from_within places p (s + 1) n low (omega (arith, small)))

listed_within_all : (places page : ℕ) (spots : List (ℕ × ℕ)) (masks : List ℕ) → AreWithin places spots
    → AreWithin places (listed_with page spots masks)
listed_within_all places page [] masks all = All-nil (IsSpotWithin places)
listed_within_all places page (x ∷ spots) [] all = All-nil (IsSpotWithin places)
listed_within_all places page (x ∷ spots) (mask ∷ masks) all =
    let rest = listed_within_all places page spots masks (All-tail (IsSpotWithin places) x spots all) in
    elim (cases_Bool (has_page mask page)) [
      | inl is ↦ rw is (All-cons (IsSpotWithin places) x (listed_with page spots masks) (All-head (IsSpotWithin places) x spots all) rest)
      | inr not ↦ rw not rest
    ]

pub spots_within : (places page p : ℕ) (own : List ℕ) (spots : List (ℕ × ℕ)) (masks : List ℕ) → p < places
    → AreWithin places spots → AreWithin places (home_with page p own ++ listed_with page spots masks)
spots_within places page p own spots masks low all =
    All-append (IsSpotWithin places) (home_with page p own) (listed_with page spots masks)
    (All-filter (names_at_home page own) (IsSpotWithin places) (spots_from p 241 15) (from_within places p 241 15 low (omega arith)))
    (listed_within_all places page spots masks all)

-- ---- the mask of records

pub later_valid : (left after : List Record) (r : Record) → All (IsRecord VERSION) left → left ≡ r ∷ after
    → All (IsRecord VERSION) after
later_valid left after r all step = λ i d within. (subst (All (IsRecord VERSION)) step all) (suc i) d (omega (arith, within))

pub first_valid : (left after : List Record) (r : Record) → All (IsRecord VERSION) left → left ≡ r ∷ after → IsRecord VERSION r
first_valid left after r all step = (subst (All (IsRecord VERSION)) step all) 0 r (omega arith)

pub mask_step : (left after : List Record) (r : Record) (mask next all : ℕ) → left ≡ r ∷ after
    → next ≡ with_page mask r.page → mask_after mask left ≡ all → mask_after next after ≡ all
mask_step left after r mask next all step is so_far =
    ap (λ (m : ℕ). mask_after m after) is ∙ sym (ap (mask_after mask) step) ∙ so_far
