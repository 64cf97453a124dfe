-- One list of entries, parted into those of each unit, and how many may stand in it.
use Rattle.std.specs.Prelude.{ℕ, ◌≡◌, ◌≤◌, ◌+◌, ◌-◌, ◌*◌, ◌==◌, Bool, not, min, List, [], ◌∷◌, map, take, drop, length, All, if◌then◌else◌}
use Rattle.ipl_base.specs.declared.limits.TheConstants.{OVERFLOW_SECTORS}
use Rattle.ipl_meaning.specs.Tables.{OverflowLists}
use Rattle.overflow.specs.declared.entries.Entry.{Entry}
use Rattle.overflow.specs.Lists.{overflow_table, names_place}

-- where the log sector of an entry stands
abbrev pub spot_of : Entry → ℕ × ℕ
spot_of entry = (entry.place, entry.sector)

-- which pages it names
abbrev pub mask_of : Entry → ℕ
mask_of entry = entry.mask

-- one of these spots stands in the place in use
abbrev pub keeps : List (ℕ × ℕ) → ℕ × ℕ → Bool
keeps spots place = names_place place.0 spots

-- none stands in the place
abbrev pub leaves : List (ℕ × ℕ) → ℕ → Bool
leaves spots p = not (names_place p spots)

-- the sum of these
abbrev pub total : List ℕ → ℕ
total [] = 0
total (count ∷ counts) = count + total counts

-- the list, in parts of these lengths
abbrev pub parted : {X : Type 0} → List ℕ → List X → List (List X)
parted [] xs = []
parted (count ∷ counts) xs = take count xs ∷ parted counts (drop count xs)

-- the lists of these entries, of which each unit has so many
abbrev pub lists_of : ℕ → List ℕ → List Entry → List (ℕ × ℕ) → OverflowLists
lists_of places counts entries in_use = overflow_table places
    (parted counts (map spot_of entries)) (parted counts (map mask_of entries)) in_use

-- how many of these spots stand in the place
abbrev pub standing : ℕ → List (ℕ × ℕ) → ℕ
standing p [] = 0
standing p (spot ∷ spots) = (if spot.0 == p then 1 else 0) + standing p spots

-- how many sectors of the place stand before its first clean one, without the header
abbrev pub passed : ℕ → List (ℕ × ℕ) → ℕ
passed p [] = 0
passed p (place ∷ places) = (if place.0 == p then place.1 - 1 else 0) + passed p places

-- a unit has so few
abbrev pub IsFew : ℕ → Type 0
IsFew count = count ≤ OVERFLOW_SECTORS

-- Each unit has so few, all of them together are the entries, and in each place there are no more of these than
-- sectors before its first clean one. So at most 255 stand in a place in use, and none elsewhere.
pub record FitsTable (counts : List ℕ) (spots : List (ℕ × ℕ)) (in_use : List (ℕ × ℕ)) : Type 0 where
  pub all : total counts ≡ length spots
  pub few : All IsFew counts
  pub behind : (p : ℕ) → standing p spots ≤ passed p in_use

-- for so many entries there is room where so many units are kept: at most 16 a unit, and 255 in each of two places
abbrev pub most_entries : ℕ → ℕ
most_entries units = min (OVERFLOW_SECTORS * units) 510
