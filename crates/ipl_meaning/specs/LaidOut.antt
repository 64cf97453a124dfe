-- How a chart without a fault is laid out.
use Rattle.std.specs.Prelude.{ℕ, zero, suc, ◌*◌, ◌/◌, ◌%◌, nat_lt, ◌==◌, Bool, List, [], ◌∷◌, Option, Some, None, if◌then◌else◌, unwrap_or}
use Rattle.std.specs.List.{list_any}
use Rattle.ipl_base.specs.declared.limits.TheConstants.{SECTORS}
use Rattle.ipl_format.specs.Sector.{Sector}
use Rattle.log_records.specs.Reading.{records_of}
use Rattle.unit_layout.specs.Retired.{retired_in}
use Rattle.ipl_meaning.specs.Chart.{Chart}
use Rattle.ipl_meaning.specs.Layout.{Entry, Shape, Layout}
use Rattle.ipl_meaning.specs.Last.{is_number}
use Rattle.ipl_meaning.specs.First.{joined_below}
use Rattle.ipl_meaning.specs.Payloads.{pieces_in, numbers_in}
use Rattle.ipl_meaning.specs.Chosen.{Winner, current_at, status_at, units_at}
use Rattle.ipl_meaning.specs.Live.{sectors, commit_at, live_in}

-- ---- committed numbers

-- the numbers of a commit sector
abbrev pub numbers_of : Option Sector → List ℕ
numbers_of None = []
numbers_of (Some sector) = numbers_in sector.payload

-- those of the status place, in order
abbrev pub committed_numbers : Chart → Option Winner → List ℕ
committed_numbers c status = joined_below (λ s. numbers_of (commit_at c status s)) sectors

-- a number is one of them
abbrev pub committed_in : Chart → Option Winner → ℕ → Bool
committed_in c status tid = list_any (is_number tid) (committed_numbers c status)

-- ---- the log of a unit

-- the log with one more entry, put in by its serial
abbrev pub inserted : Entry → List Entry → List Entry
inserted e [] = e ∷ []
inserted e (f ∷ log) = if nat_lt e.sector.serial f.sector.serial then e ∷ f ∷ log else f ∷ inserted e log

-- where there is one
abbrev pub with_inserted : List Entry → Option Entry → List Entry
with_inserted log None = log
with_inserted log (Some e) = inserted e log

-- those of f 0, f 1, .. below n, by rising serial
abbrev pub sorted_below : (ℕ → Option Entry) → ℕ → List Entry
sorted_below f zero = []
sorted_below f (suc n) = with_inserted (sorted_below f n) (f n)

-- a live log sector of the unit, and its records
abbrev pub entry_of : ℕ → ℕ → Option Sector → Option Entry
entry_of u k None = None
entry_of u k (Some sector) =
    if sector.unit == u
    then Some (record { place = k / SECTORS; number = k % SECTORS; sector = sector; records = records_of sector.version sector.payload })
    else None

-- that at the number k
abbrev pub entry_at : Chart → ℕ → ℕ → ℕ → Option Entry
entry_at c places u k = entry_of u k (live_in c places k)

-- the unit's log
abbrev pub log_in : Chart → ℕ → ℕ → List Entry
log_in c places u = sorted_below (entry_at c places u) (places * SECTORS)

-- ---- all of it

-- a sector that says nothing
abbrev pub no_sector : Sector
no_sector = record { kind = 0; version = 0; unit = 0; generation = 0; serial = 0; payload = [] }

-- the place of a header, where there is one
abbrev pub place_of : Option Winner → ℕ
place_of None = 0
place_of (Some winner) = winner.place

-- the sector 0 of its place
abbrev pub sector_of : Chart → Option Winner → Sector
sector_of c winner = unwrap_or (c (place_of winner) 0) no_sector

-- the places that the status header lists as retired
abbrev pub retired_at : Chart → ℕ → List ℕ
retired_at c places =
    retired_in (sector_of c (status_at c places)).version (sector_of c (status_at c places)).payload

-- the shape of a unit
abbrev pub shape_in : Chart → ℕ → ℕ → Shape
shape_in c places u = record {
  home = place_of (current_at c places u);
  head = sector_of c (current_at c places u);
  pieces = pieces_in (sector_of c (current_at c places u)).payload;
  log = log_in c places u;
}

-- the layout of the chart
abbrev pub layout_in : Chart → ℕ → Layout
layout_in c places = record {
  status = place_of (status_at c places);
  head = sector_of c (status_at c places);
  committed = committed_in c (status_at c places);
  count = units_at c places;
  units = shape_in c places;
}
