-- What the tables in memory say, as lists.
use Rattle.std.specs.Prelude.{ℕ, ◌≡◌, ◌⊎◌, ◌<◌, ◌≤◌, ◌+◌, ◌-◌, ◌^◌, ◌==◌, nat_lt, if◌then◌else◌, Bool, true, false, List, [], ◌∷◌, map, length, slice_index, slice_index_or, slice_set, Contains}
use Rattle.ipl_base.specs.declared.limits.TheConstants.{SECTORS, FIRST_LOG_SECTOR, LOG_SECTORS}

-- the place of each unit, whether each place is in use, how often each place was erased, which places are retired, what is known of the last 15 sectors
-- of each unit's place, the generation of each unit, and by unit which pages each of these sectors names
pub record Places : Type 0 where
  pub current : List ℕ
  pub in_use : List Bool
  pub erases : List ℕ
  pub retired : List ℕ
  pub written : List ℕ
  pub generations : List ℕ
  pub masks : List (List ℕ)

-- That is a number: so many of them were written, or so many more than 16 by a mark, while the mark counts; and it is 32
-- where nothing is known.
abbrev pub UNKNOWN_LOGS : ℕ
UNKNOWN_LOGS = 32

abbrev pub MARKED_LOGS : ℕ
MARKED_LOGS = 16

-- how many count as written: all, where nothing is known
abbrev pub counted_written : ℕ → ℕ
counted_written written =
    if nat_lt written MARKED_LOGS then written else (if nat_lt written UNKNOWN_LOGS then written - MARKED_LOGS else LOG_SECTORS)

-- the same, once no mark counts any more
abbrev pub unmarked_written : ℕ → ℕ
unmarked_written written =
    if nat_lt written MARKED_LOGS then written else (if nat_lt written UNKNOWN_LOGS then written - MARKED_LOGS else written)

-- the place is free
abbrev pub IsFree : Places → ℕ → Type 0
IsFree it p = slice_index_or it.in_use p true ≡ false

-- the place is used as told
abbrev pub with_use : Places → ℕ → Bool → Places
with_use it p used = record it { in_use = slice_set it.in_use p used }

-- one erase more, as far as 32 bits count
abbrev pub one_more : ℕ → ℕ
one_more erases = if nat_lt erases (2 ^ 32 - 1) then erases + 1 else erases

-- the place was erased once more
abbrev pub with_erased : Places → ℕ → Places
with_erased it p = record it { erases = slice_set it.erases p (one_more (slice_index it.erases p)) }

-- the place among others that rise
abbrev pub inserted : ℕ → List ℕ → List ℕ
inserted p [] = p ∷ []
inserted p (q ∷ places) =
    if nat_lt p q then p ∷ (q ∷ places) else if p == q then q ∷ places else q ∷ inserted p places

-- the place is retired: it was found worn, and is taken no more
abbrev pub with_retired : Places → ℕ → Places
with_retired it p = record it { retired = inserted p it.retired }

-- no mark counts any more: what it said is known
abbrev pub with_marks_ended : Places → Places
with_marks_ended it = record it { written = map unmarked_written it.written }

-- one more log sector of the unit is written
abbrev pub with_written : Places → ℕ → Places
with_written it u = record it { written = slice_set it.written u (slice_index it.written u + 1) }

-- by sector from 241 on, which pages the log sectors at the unit's place name
abbrev pub masks_in : Places → ℕ → List ℕ
masks_in it u = slice_index_or it.masks u []

-- the log sector at the unit's place names these pages
abbrev pub with_mask : Places → ℕ → ℕ → ℕ → Places
with_mask it u s mask = record it { masks = slice_set it.masks u (slice_set (masks_in it u) (s - FIRST_LOG_SECTOR) mask) }

-- the log sectors at the unit's place name these
abbrev pub with_masks : Places → ℕ → List ℕ → Places
with_masks it u masks = record it { masks = slice_set it.masks u masks }

-- the log sectors in overflow places
pub record OverflowLists : Type 0 where
  -- how many places the chip has
  pub places : ℕ
  -- by unit, where its log sectors in overflow places stand
  pub spots : List (List (ℕ × ℕ))
  -- and which pages each of these names
  pub masks : List (List ℕ)
  -- the overflow places in use, each with its first clean sector (256 where it has none)
  pub in_use : List (ℕ × ℕ)

-- the status place: its generation, its numbers, and how many there is room for in memory
pub record StatusTable : Type 0 where
  pub place : ℕ
  pub generation : ℕ
  pub numbers : List ℕ
  pub most : ℕ
  -- its first clean sector (256 where it has none)
  pub first : ℕ

-- all tables, the counter, and the numbers of the open sessions
pub record Tables : Type 0 where
  pub places : Places
  pub overflow : OverflowLists
  pub status : StatusTable
  pub next : ℕ
  pub active : List ℕ

-- where the unit's log sectors in overflow places stand
abbrev pub spots_of : Tables → ℕ → List (ℕ × ℕ)
spots_of t u = slice_index_or t.overflow.spots u []

-- which pages each of these names
abbrev pub masks_of : Tables → ℕ → List ℕ
masks_of t u = slice_index_or t.overflow.masks u []

-- which pages the log sector at the unit's place names
abbrev pub home_mask : Tables → ℕ → ℕ → ℕ
home_mask t u s = slice_index (masks_in t.places u) (s - FIRST_LOG_SECTOR)

-- the place of a spot
abbrev pub place_of : ℕ × ℕ → ℕ
place_of spot = spot.0

-- the overflow places in use
abbrev pub overflow_places : Tables → List ℕ
overflow_places t = map place_of t.overflow.in_use

-- what is known of the unit's last 15 sectors: so many of them count as written, and the others as clean
abbrev pub written_of : Tables → ℕ → ℕ
written_of t u = slice_index t.places.written u

-- the first log sector of the unit that is known clean and may be written (256 or more where there is none)
abbrev pub first_log : Tables → ℕ → ℕ
first_log t u = FIRST_LOG_SECTOR + written_of t u

-- the first that is known clean, also by a mark (256 where there is none)
abbrev pub clean_from : Tables → ℕ → ℕ
clean_from t u = FIRST_LOG_SECTOR + counted_written (written_of t u)

-- the tables count the sector as clean
abbrev pub IsCountedClean : Tables → ℕ → ℕ → Type 0
IsCountedClean t p s =
    (s < SECTORS)
    × (((u : ℕ) × (u < length t.places.current) × (p ≡ slice_index t.places.current u) × (clean_from t u ≤ s))
    ⊎ ((first : ℕ) × Contains t.overflow.in_use (p, first) × (first ≤ s))
    ⊎ ((p ≡ t.status.place) × (t.status.first ≤ s)))
