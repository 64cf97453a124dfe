-- What the calls on overflow places make of the table, and what always holds of it.
use Rattle.std.specs.Prelude.{ℕ, ◌≡◌, ◌<◌, ◌≤◌, ◌+◌, ◌==◌, ◌||◌, Bool, not, max, nat_le, nat_lt, List, [], ◌∷◌, ◌++◌, map, length, slice_index_or, slice_set, replicate, Option, Some, None, All, Contains, if◌then◌else◌}
use Rattle.std.specs.List.{list_any, filter}
use Rattle.ipl_base.specs.declared.limits.TheConstants.{SECTORS, OVERFLOW_PLACES, OVERFLOW_SECTORS}
use Rattle.ipl_base.specs.Places.{IsGeometry, KeepsUnits}
use Rattle.ipl_base.specs.declared.spot.Spot.{Spot}
use Rattle.overflow.specs.declared.places.PlaceInUse.{PlaceInUse}
use Rattle.ipl_meaning.specs.Tables.{OverflowLists, place_of}

-- a spot, as its place and its sector
abbrev pub pair_of : Spot → ℕ × ℕ
pair_of spot = (spot.place, spot.sector)

-- an overflow place in use, as the place and its first clean sector
abbrev pub first_of : PlaceInUse → ℕ × ℕ
first_of it = (it.place, it.first)

-- the lists of these
abbrev pub overflow_table : ℕ → List (List (ℕ × ℕ)) → List (List ℕ) → List (ℕ × ℕ) → OverflowLists
overflow_table places spots masks in_use =
    record { places = places; spots = spots; masks = masks; in_use = in_use }

-- the unit's spots
abbrev pub spots_in : OverflowLists → ℕ → List (ℕ × ℕ)
spots_in it u = slice_index_or it.spots u []

-- which pages each of them names
abbrev pub masks_at : OverflowLists → ℕ → List ℕ
masks_at it u = slice_index_or it.masks u []

-- one of the spots stands in the place
abbrev pub names_place : ℕ → List (ℕ × ℕ) → Bool
names_place p spots = list_any (λ spot. spot.0 == p) spots

-- a spot of some unit does
abbrev pub is_named : List (List (ℕ × ℕ)) → ℕ → Bool
is_named spots p = list_any (names_place p) spots

-- ---- what the calls do

-- of a chip of so many places no unit of so many has spots, and no place is in use
abbrev pub empty_lists : ℕ → ℕ → OverflowLists
empty_lists places units =
    record { places = places; spots = replicate units []; masks = replicate units []; in_use = [] }

-- one more place is in use, clean from this sector on
abbrev pub with_place : OverflowLists → ℕ → ℕ → OverflowLists
with_place it p first = record it { in_use = it.in_use ++ (p, first) ∷ [] }

-- the place in use, of which no sector up to the spot is clean any more, where the spot is in it
abbrev pub clean_behind : ℕ → ℕ → ℕ × ℕ → ℕ × ℕ
clean_behind p s it = if it.0 == p then (it.0, max it.1 (s + 1)) else it

-- the spot is the unit's, behind its others, names these pages, and isn't clean any more
abbrev pub after_add : OverflowLists → ℕ → ℕ → ℕ → ℕ → OverflowLists
after_add it u p s mask = record {
  places = it.places;
  spots = slice_set it.spots u (spots_in it u ++ (p, s) ∷ []);
  masks = slice_set it.masks u (masks_at it u ++ mask ∷ []);
  in_use = map (clean_behind p s) it.in_use;
}

-- the sector of the place is one that isn't used yet: the place is in use, and its first clean sector no later one
abbrev pub IsUnused : List (ℕ × ℕ) → ℕ → ℕ → Type 0
IsUnused in_use p s = (first : ℕ) × Contains in_use (p, first) × (first ≤ s)

-- no sector of the place from this one on is used yet
abbrev pub AreUnused : List (ℕ × ℕ) → ℕ → ℕ → Type 0
AreUnused in_use p s = All (λ place. place.0 ≡ p → place.1 ≤ s) in_use

-- the place is in use, or may be
abbrev pub has_room_for : OverflowLists → ℕ → Bool
has_room_for it p = names_place p it.in_use || nat_lt (length it.in_use) OVERFLOW_PLACES

-- A log sector that is found is the unit's, behind its others, and its place is in use; but where that would be a third
-- one, nothing changes.
abbrev pub after_find : OverflowLists → ℕ → ℕ → ℕ → ℕ → OverflowLists
after_find it u p s mask =
    if names_place p it.in_use then after_add it u p s mask
    else if nat_lt (length it.in_use) OVERFLOW_PLACES then after_add (with_place it p 1) u p s mask
    else it

-- no sector of the place is known clean
abbrev pub as_used : ℕ × ℕ → ℕ × ℕ
as_used place = (place.0, SECTORS)

-- nor of any place in use
abbrev pub all_used : OverflowLists → OverflowLists
all_used it = record it { in_use = map as_used it.in_use }

-- the unit has no spots any more
abbrev pub without_unit : OverflowLists → ℕ → List (List (ℕ × ℕ))
without_unit it u = slice_set it.spots u []

-- the place in use is one that a spot names
abbrev pub is_kept : List (List (ℕ × ℕ)) → ℕ × ℕ → Bool
is_kept spots place = is_named spots place.0

-- the unit has no spots any more, and a place that no spot names then isn't in use any more
abbrev pub after_drop : OverflowLists → ℕ → OverflowLists
after_drop it u = record {
  places = it.places;
  spots = without_unit it u;
  masks = slice_set it.masks u [];
  in_use = filter (is_kept (without_unit it u)) it.in_use;
}

-- no spot names the place
abbrev pub is_left : List (List (ℕ × ℕ)) → ℕ → Bool
is_left spots p = not (is_named spots p)

-- the places that were in use and aren't any more, in their order
abbrev pub places_left : OverflowLists → ℕ → List ℕ
places_left it u = filter (is_left (without_unit it u)) (map place_of it.in_use)

-- the place, where none of these spots stands in it
abbrev pub left_of : List (ℕ × ℕ) → Option ℕ → Option ℕ
left_of spots None = None
left_of spots (Some p) = if names_place p spots then None else Some p

-- those of some places that are there
abbrev pub listed : List (Option ℕ) → List ℕ
listed [] = []
listed (None ∷ rest) = listed rest
listed (Some p ∷ rest) = p ∷ listed rest

-- ---- the next spot

-- the lower of two spots, by their places, where the second is clean
abbrev pub lower_spot : Option (ℕ × ℕ) → ℕ × ℕ → Option (ℕ × ℕ)
lower_spot None place = if nat_le SECTORS place.1 then None else Some place
lower_spot (Some best) place =
    if nat_le SECTORS place.1 then Some best
    else if nat_le best.0 place.0 then Some best
    else Some place

-- the first clean sector of the lowest of these places that has one, or the spot from before,
-- where that is lower
abbrev pub first_spot : Option (ℕ × ℕ) → List (ℕ × ℕ) → Option (ℕ × ℕ)
first_spot best [] = best
first_spot best (place ∷ places) = first_spot (lower_spot best place) places

-- ---- what always holds

-- a place's first clean sector is one of 1 to 255, or 256 where it has none
abbrev pub IsFirstClean : ℕ × ℕ → Type 0
IsFirstClean place = (1 ≤ place.1) × (place.1 ≤ SECTORS)

-- a unit has so few spots
abbrev pub AreFew : List (ℕ × ℕ) → Type 0
AreFew spots = length spots ≤ OVERFLOW_SECTORS

-- a sector of a chip with so many places
abbrev pub IsSpotWithin : ℕ → ℕ × ℕ → Type 0
IsSpotWithin places spot = (spot.0 < places) × (spot.1 < SECTORS)

abbrev pub AreWithin : ℕ → List (ℕ × ℕ) → Type 0
AreWithin places spots = All (IsSpotWithin places) spots

-- it is a place of a chip with so many
abbrev pub IsPlaceOf : ℕ → ℕ × ℕ → Type 0
IsPlaceOf places it = it.0 < places

-- as many units as may be kept on the chip's places have at most 16 spots each, and at most two places
-- are in use; all spots are sectors of the chip, and all places in use places of it
pub record IsSoundOverflow (it : OverflowLists) : Type 0 where
  pub places : IsGeometry it.places
  pub units : KeepsUnits it.places (length it.spots)
  pub few : All AreFew it.spots
  pub two : length it.in_use ≤ OVERFLOW_PLACES
  pub firsts : All IsFirstClean it.in_use
  pub within : All (AreWithin it.places) it.spots
  pub placed : All (IsPlaceOf it.places) it.in_use
  pub lists : length it.masks ≡ length it.spots
  pub each : (u : ℕ) → length (masks_at it u) ≡ length (spots_in it u)
