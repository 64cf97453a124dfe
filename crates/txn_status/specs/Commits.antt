-- Commit sectors, as they are written.
use Rattle.std.specs.Prelude.{ℕ, ◌*◌, List, take, drop}
use Rattle.std.specs.List.{flat_map}
use Rattle.ipl_base.specs.declared.limits.TheConstants.{COMMIT_NUMBERS, VERSION}
use Rattle.ipl_format.specs.Numbers.{long}
use Rattle.ipl_format.specs.Sector.{Sector}

-- the payload of a commit sector: eight bytes for each number
abbrev pub commit_bytes : List ℕ → List ℕ
commit_bytes numbers = flat_map long numbers

-- a commit sector of these numbers, as it is written
abbrev pub commit_sector : ℕ → ℕ → List ℕ → Sector
commit_sector generation serial numbers = record {
  kind = 6;
  version = VERSION;
  unit = 0;
  generation = generation;
  serial = serial;
  payload = commit_bytes numbers;
}

-- the numbers of the i-th of several commit sectors: 60, or fewer in the last one
abbrev pub part_of : List ℕ → ℕ → List ℕ
part_of numbers i = take COMMIT_NUMBERS (drop (COMMIT_NUMBERS * i) numbers)
