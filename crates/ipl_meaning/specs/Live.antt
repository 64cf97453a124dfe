-- The sectors of a chip that count beside its headers. The number k = place * 256 + sector goes through all sectors in
-- rising order of place and sector.
use Rattle.std.specs.Prelude.{ℕ, ◌/◌, ◌%◌, nat_le, ◌==◌, ◌&&◌, ◌||◌, Bool, false, List, Option, Some, None, if◌then◌else◌}
use Rattle.std.specs.Option.{option_map}
use Rattle.ipl_base.specs.declared.limits.TheConstants.{SECTORS, FIRST_LOG_SECTOR}
use Rattle.ipl_format.specs.Sector.{Sector}
use Rattle.ipl_meaning.specs.Chart.{Chart}
use Rattle.ipl_meaning.specs.First.{all_below}
use Rattle.ipl_meaning.specs.Chosen.{KeptHeader, Winner, is_overflow, header_at, current_at}

-- how many sectors a place has; the name doesn't compute, so that what is there below it isn't written out one by one
unfoldable pub sectors : ℕ
sectors = SECTORS

-- the sector, where there is one and it passes
abbrev pub kept : (Sector → Bool) → Option Sector → Option Sector
kept test None = None
kept test (Some sector) = if test sector then Some sector else None

-- ---- commit sectors

-- it is a commit sector
abbrev pub is_commit_sector : Sector → Bool
is_commit_sector sector = sector.kind == 6

-- it is one of this generation
abbrev pub is_commit_of : ℕ → Sector → Bool
is_commit_of generation sector = is_commit_sector sector && (sector.generation == generation)

-- the commit sector that counts at this number of the status place, where there is one
abbrev pub commit_at : Chart → Option Winner → ℕ → Option Sector
commit_at c None s = None
commit_at c (Some winner) s = if nat_le 1 s then kept (is_commit_of winner.head.generation) (c winner.place s) else None

-- ---- close marks

-- it is a close mark: a clean close wrote it
abbrev pub is_close_mark : Sector → Bool
is_close_mark sector = sector.kind == 7

-- it is a commit sector or a close mark, of this generation
abbrev pub is_noted_of : ℕ → Sector → Bool
is_noted_of generation sector = (is_commit_sector sector || is_close_mark sector) && (sector.generation == generation)

-- the commit sector or close mark that counts at this number of the status place, where there is one
abbrev pub noted_at : Chart → Option Winner → ℕ → Option Sector
noted_at c None s = None
noted_at c (Some winner) s = if nat_le 1 s then kept (is_noted_of winner.head.generation) (c winner.place s) else None

-- ---- log sectors

-- the current header stands at the place
abbrev pub is_at : Option Winner → ℕ → Bool
is_at None p = false
is_at (Some winner) p = winner.place == p

-- the current header has this generation
abbrev pub is_generation : Option Winner → ℕ → Bool
is_generation None generation = false
is_generation (Some winner) generation = winner.head.generation == generation

-- log sectors may stand at this number of a place with this header: in an overflow place, or at the end of a current
-- one
abbrev pub is_log_spot_of : (ℕ → Option Winner) → ℕ → ℕ → Option KeptHeader → Bool
is_log_spot_of current p s None = false
is_log_spot_of current p s (Some head) =
    (is_overflow head && nat_le 1 s) || ((head.kind == 1) && (nat_le FIRST_LOG_SECTOR s && is_at (current head.unit) p))

-- in this place
abbrev pub is_log_spot : (ℕ → Option KeptHeader) → (ℕ → Option Winner) → ℕ → ℕ → Bool
is_log_spot heads current p s = is_log_spot_of current p s (heads p)

-- a log sector
abbrev pub is_log : Sector → Bool
is_log sector = sector.kind == 5

-- the log sector that stands there, live or not
abbrev pub seen : (ℕ → Option KeptHeader) → (ℕ → Option Winner) → Chart → ℕ → ℕ → Option Sector
seen heads current c p s = if is_log_spot heads current p s then kept is_log (c p s) else None

-- the same by the number k
abbrev pub seen_at : (ℕ → Option KeptHeader) → (ℕ → Option Winner) → Chart → ℕ → Option Sector
seen_at heads current c k = seen heads current c (k / SECTORS) (k % SECTORS)

-- the place is an overflow place
abbrev pub is_overflow_place : Option KeptHeader → Bool
is_overflow_place None = false
is_overflow_place (Some head) = is_overflow head

-- log sectors of the unit may stand in the place
abbrev pub is_place_of : Option KeptHeader → ℕ → Bool
is_place_of None u = false
is_place_of (Some head) u = is_overflow head || (head.unit == u)

-- a log sector that stands in this place is live for its unit
abbrev pub is_live : (ℕ → Option KeptHeader) → (ℕ → Option Winner) → ℕ → Sector → Bool
is_live heads current p sector =
    is_place_of (heads p) sector.unit && is_generation (current sector.unit) sector.generation

-- the live log sector at the number k, where there is one
abbrev pub live_at : (ℕ → Option KeptHeader) → (ℕ → Option Winner) → Chart → ℕ → Option Sector
live_at heads current c k = kept (is_live heads current (k / SECTORS)) (seen_at heads current c k)

-- what a table keeps of a live log sector
pub record Mark : Type 0 where
  pub place : ℕ
  pub number : ℕ
  pub unit : ℕ
  pub serial : ℕ
  -- it stands in an overflow place
  pub in_overflow : Bool

-- what is kept of the one at the number k
abbrev pub mark_of : (ℕ → Option KeptHeader) → ℕ → Sector → Mark
mark_of heads k sector = record {
  place = k / SECTORS;
  number = k % SECTORS;
  unit = sector.unit;
  serial = sector.serial;
  in_overflow = is_overflow_place (heads (k / SECTORS));
}

-- the mark of the number k
abbrev pub mark_at : (ℕ → Option KeptHeader) → (ℕ → Option Winner) → Chart → ℕ → Option Mark
mark_at heads current c k = option_map (mark_of heads k) (live_at heads current c k)

-- the marks below the number k, in order
abbrev pub marks : (ℕ → Option KeptHeader) → (ℕ → Option Winner) → Chart → ℕ → List Mark
marks heads current c k = all_below (mark_at heads current c) k

-- the live log sector of a chart at the number k
abbrev pub live_in : Chart → ℕ → ℕ → Option Sector
live_in c places k = live_at (header_at c places) (current_at c places) c k

-- the marks of a chart below the number k
abbrev pub marks_in : Chart → ℕ → ℕ → List Mark
marks_in c places k = marks (header_at c places) (current_at c places) c k
