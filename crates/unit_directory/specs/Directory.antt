-- What the calls on a directory make of it, and what always holds.
use Rattle.std.specs.Prelude.{ℕ, ◌≡◌, ◌<◌, ◌≤◌, ◌+◌, ◌==◌, ◌&&◌, ◌||◌, Bool, true, false, not, nat_lt, List, [], length, slice_index, slice_set, replicate, Option, Some, None, if◌then◌else◌}
use Rattle.ipl_base.specs.declared.limits.TheConstants.{FIRST_LOG_SECTOR, LOG_SECTORS, VERSION}
use Rattle.ipl_base.specs.Places.{IsGeometry, KeepsUnits}
use Rattle.ipl_format.specs.Header.{AreRetired}
use Rattle.ipl_meaning.specs.Tables.{Places, with_use, masks_in, MARKED_LOGS, UNKNOWN_LOGS}

-- a place none of whose log sectors names a page
abbrev pub no_masks : List ℕ
no_masks = replicate LOG_SECTORS 0

-- the directory of these
abbrev pub places_table : List ℕ → List Bool → List ℕ → List ℕ → List ℕ → List ℕ → List (List ℕ) → Places
places_table current in_use erases retired written generations masks = record {
  current = current;
  in_use = in_use;
  erases = erases;
  retired = retired;
  written = written;
  generations = generations;
  masks = masks;
}

-- with so many places and units: no place is in use or retired, each was erased once, each unit has place 0 and generation
-- 0, nothing is known of its log sectors, and none names a page
abbrev pub empty_places : ℕ → ℕ → Places
empty_places places units = record {
  current = replicate units 0;
  in_use = replicate places false;
  erases = replicate places 1;
  retired = [];
  written = replicate units UNKNOWN_LOGS;
  generations = replicate units 0;
  masks = replicate units no_masks;
}

-- the place was erased so often
abbrev pub with_erases_of : Places → ℕ → ℕ → Places
with_erases_of it p erases = record it { erases = slice_set it.erases p erases }

-- the place is in use and the unit's, of this generation, nothing is known of its log sectors, and none names a page; the
-- unit's old place stays as it was
abbrev pub after_adopt : Places → ℕ → ℕ → ℕ → Places
after_adopt it u p generation = record (with_use it p true) {
  current = slice_set it.current u p;
  written = slice_set it.written u UNKNOWN_LOGS;
  generations = slice_set it.generations u generation;
  masks = slice_set it.masks u no_masks;
}

-- the place is the unit's, of this generation, its log sectors are known clean and name no page, and the unit's old place
-- is free
abbrev pub after_replace : Places → ℕ → ℕ → ℕ → Places
after_replace it u p generation = record (with_use it (slice_index it.current u) false) {
  current = slice_set it.current u p;
  written = slice_set it.written u 0;
  generations = slice_set it.generations u generation;
  masks = slice_set it.masks u no_masks;
}

-- by a mark so many of the unit's log sectors were written, and the others are clean
abbrev pub with_marked : Places → ℕ → ℕ → Places
with_marked it u written = record it { written = slice_set it.written u (MARKED_LOGS + written) }

-- What is known of a unit's log sectors once one more of them is seen, the number-th: where a mark told of the unit and the
-- sector is blank, what was known; where it checks and all before it did, that one more was written; where it is neither,
-- nothing; and where no mark told of the unit, what was known.
abbrev pub noted_log : ℕ → ℕ → Bool → Bool → ℕ
noted_log known number checks blank =
    if nat_lt known MARKED_LOGS || not (nat_lt known UNKNOWN_LOGS) || blank then known
    else (if checks && (known == MARKED_LOGS + number) then known + 1 else UNKNOWN_LOGS)

-- one more of the unit's log sectors is seen
abbrev pub with_noted_log : Places → ℕ → ℕ → Bool → Bool → Places
with_noted_log it u number checks blank =
    record it { written = slice_set it.written u (noted_log (slice_index it.written u) number checks blank) }

-- something is known of the unit's log sectors
abbrev pub is_known : Places → ℕ → Bool
is_known it u = nat_lt (slice_index it.written u) UNKNOWN_LOGS

-- the first log sector of the unit that is known clean and may be written, if there is one
abbrev pub next_log : Places → ℕ → Option ℕ
next_log it u = if nat_lt (slice_index it.written u) LOG_SECTORS then Some (FIRST_LOG_SECTOR + slice_index it.written u) else None

-- what always holds: the chip can be used and may keep as many units as have a place, these are places of the chip, each
-- place has a count, and 15 log sectors; and no more places are retired than are spare
pub record IsSoundDirectory (it : Places) : Type 0 where
  pub places : IsGeometry (length it.in_use)
  pub counts : length it.erases ≡ length it.in_use
  pub units : KeepsUnits (length it.in_use) (length it.current)
  pub retired : AreRetired VERSION (length it.in_use) (length it.current) it.retired
  pub logs : length it.written ≡ length it.current
  pub within : (u : ℕ) → u < length it.current → slice_index it.current u < length it.in_use
  pub few : (u : ℕ) → u < length it.current → slice_index it.written u ≤ UNKNOWN_LOGS
  pub heads : length it.generations ≡ length it.current
  pub masks : length it.masks ≡ length it.current
  pub sectors : (u : ℕ) → u < length it.current → length (masks_in it u) ≡ LOG_SECTORS
