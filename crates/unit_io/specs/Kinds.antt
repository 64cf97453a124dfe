-- Sectors of the kinds that are asked for.
use Rattle.std.specs.Prelude.{ℕ, ◌&&◌, nat_le, List, take, drop, Option, Some, None, if◌then◌else◌}
use Rattle.ipl_format.specs.Sector.{Sector}
use Rattle.sector_format.specs.declared.sector.Head.{Head}
use Rattle.sector_format.specs.Decode.{sector_of}

-- the sector where it is of one of these kinds, from the first to the last
abbrev pub of_kinds : ℕ → ℕ → Option Sector → Option Sector
of_kinds first last None = None
of_kinds first last (Some sector) = if nat_le first sector.kind && nat_le sector.kind last then Some sector else None

-- the sector, of whatever kind
abbrev pub any_sector : Option Sector → Option Sector
any_sector o = o

-- a header
abbrev pub header_only : Option Sector → Option Sector
header_only o = of_kinds 1 3 o

-- a log sector
abbrev pub log_only : Option Sector → Option Sector
log_only o = of_kinds 5 5 o

-- a commit sector or a mark
abbrev pub status_only : Option Sector → Option Sector
status_only o = of_kinds 6 7 o

-- the sector that a head and a used length name: its payload begins at byte 32
abbrev pub sector_named : List ℕ → Option (Head × ℕ) → Option Sector
sector_named bytes None = None
sector_named bytes (Some found) = Some (sector_of found.0 (take found.1 (drop 32 bytes)))
