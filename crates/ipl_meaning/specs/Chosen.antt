-- The headers of a chip, and which of them count.
use Rattle.std.specs.Prelude.{ℕ, zero, suc, nat_lt, nat_le, ◌==◌, ◌&&◌, Bool, true, List, Option, Some, None, unwrap_or, if◌then◌else◌}
use Rattle.ipl_base.specs.Places.{units_on}
use Rattle.ipl_format.specs.Sector.{Sector}
use Rattle.ipl_format.specs.Header.{erases_said}
use Rattle.ipl_meaning.specs.Chart.{Chart}
use Rattle.ipl_meaning.specs.Payloads.{units_said_in, is_data_payload, is_status_payload}

-- what a table keeps of a header
pub record KeptHeader : Type 0 where
  pub kind : ℕ
  pub unit : ℕ
  pub generation : ℕ
  pub serial : ℕ
  -- the number of units that it says, if it says one
  pub said : Option ℕ
  -- its payload is in the grammar of its kind
  pub well : Bool
  -- how often its place was erased
  pub erases : ℕ

-- a header, and its place
pub record Winner : Type 0 where
  pub place : ℕ
  pub head : KeptHeader

-- a header's payload is in the grammar of its kind and version, on a chip of so many places; that of an overflow header
-- isn't tested
abbrev pub is_head_payload : ℕ → ℕ → ℕ → List ℕ → Bool
is_head_payload version places kind payload =
    if kind == 1 then is_data_payload version payload
    else if kind == 2 then is_status_payload version places payload
    else true

-- what is kept of this one, on a chip of so many places
abbrev pub head_of : ℕ → Sector → KeptHeader
head_of places sector = record {
  kind = sector.kind;
  unit = sector.unit;
  generation = sector.generation;
  serial = sector.serial;
  said = units_said_in sector.payload;
  well = is_head_payload sector.version places sector.kind sector.payload;
  erases = erases_said (Some sector);
}

-- the sector is of one of the three kinds of header
abbrev pub is_header : Sector → Bool
is_header sector = nat_le 1 sector.kind && nat_le sector.kind 3

-- the header in a sector 0, if it is one
abbrev pub header_in : ℕ → Option Sector → Option KeptHeader
header_in places None = None
header_in places (Some sector) = if is_header sector then Some (head_of places sector) else None

-- the header of each place
abbrev pub header_at : Chart → ℕ → ℕ → Option KeptHeader
header_at c places p =
    if nat_lt p places then header_in places (c p 0) else None

-- it is a data header of the unit
abbrev pub is_data_of : ℕ → KeptHeader → Bool
is_data_of u head = (head.kind == 1) && (head.unit == u)

-- a status header
abbrev pub is_status : KeptHeader → Bool
is_status head = head.kind == 2

-- an overflow header
abbrev pub is_overflow : KeptHeader → Bool
is_overflow head = head.kind == 3

-- of the one before and the header of a later place, the one with the greater serial
abbrev pub picked : (KeptHeader → Bool) → Option Winner → ℕ → Option KeptHeader → Option Winner
picked fits before place None = before
picked fits None place (Some head) = if fits head then Some (record { place = place; head = head }) else None
picked fits (Some best) place (Some head) =
    if fits head && nat_lt best.head.serial head.serial then Some (record { place = place; head = head }) else Some best

-- of the headers below place n that fit, the one that counts
abbrev pub chosen : (KeptHeader → Bool) → (ℕ → Option KeptHeader) → ℕ → Option Winner
chosen fits heads zero = None
chosen fits heads (suc n) = picked fits (chosen fits heads n) n (heads n)

-- the status header
abbrev pub status_in : (ℕ → Option KeptHeader) → ℕ → Option Winner
status_in heads places = chosen is_status heads places

-- how many units are kept, which the status header says: where it doesn't say it, or there is none, as many as where no
-- place is spare
abbrev pub units_told : ℕ → Option Winner → ℕ
units_told places None = units_on places
units_told places (Some winner) = unwrap_or winner.head.said (units_on places)

-- the same, by the headers
abbrev pub units_in : (ℕ → Option KeptHeader) → ℕ → ℕ
units_in heads places = units_told places (status_in heads places)

-- the current header of each unit
abbrev pub current_in : (ℕ → Option KeptHeader) → ℕ → ℕ → Option Winner
current_in heads places u = if nat_lt u (units_in heads places) then chosen (is_data_of u) heads places else None

-- the status header of a chart
abbrev pub status_at : Chart → ℕ → Option Winner
status_at c places = status_in (header_at c places) places

-- how many units are kept on a chart of so many places
abbrev pub units_at : Chart → ℕ → ℕ
units_at c places = units_in (header_at c places) places

-- the current header of each unit of a chart
abbrev pub current_at : Chart → ℕ → ℕ → Option Winner
current_at c places = current_in (header_at c places) places
