-- A chip that was just formatted for so many units: each place counts as erased once, and none is
-- retired.
use Rattle.std.specs.Prelude.{ℕ, ◌+◌, List, [], ◌++◌, replicate, Option, Some, None, if◌then◌else◌, ◌==◌, nat_lt}
use Rattle.ipl_base.specs.declared.limits.TheConstants.{PAGES, VERSION}
use Rattle.ipl_format.specs.Numbers.{word}
use Rattle.ipl_format.specs.Header.{data_header_bytes, erases_bytes, retired_bytes}
use Rattle.ipl_format.specs.Sector.{Sector}
use Rattle.ipl_meaning.specs.Chart.{Chart}

-- no page has base sectors
abbrev pub no_pieces : List ℕ
no_pieces = replicate PAGES 0

-- the header of a unit, whose generation and serial is its number and 1
abbrev pub first_head : ℕ → ℕ → Sector
first_head units u = record {
  kind = 1;
  version = VERSION;
  unit = u;
  generation = u + 1;
  serial = u + 1;
  payload = data_header_bytes units no_pieces 0 ++ erases_bytes VERSION 1;
}

-- the status header, with the next number
abbrev pub first_status : ℕ → Sector
first_status units = record {
  kind = 2;
  version = VERSION;
  unit = 0;
  generation = units + 1;
  serial = units + 1;
  payload = word units ++ erases_bytes VERSION 1 ++ retired_bytes VERSION [];
}

-- each unit's header stands at the place of its number, and the status header after them
abbrev pub header_at : ℕ → ℕ → Option Sector
header_at units p =
    if nat_lt p units then Some (first_head units p) else if p == units then Some (first_status units) else None

-- and nothing else stands anywhere
abbrev pub formatted : ℕ → Chart
formatted units p s = if s == 0 then header_at units p else None
