-- The close mark that counts, and the units that it says, by computing.
use Rattle.std.specs.Prelude.{ℕ, zero, suc, nat_lt, nat_le, ◌&&◌, Bool, false, Option, Some, None, if◌then◌else◌}
use Rattle.ipl_format.specs.Sector.{Sector}
use Rattle.ipl_format.specs.Mark.{has_unit}
use Rattle.ipl_meaning.specs.Chart.{Chart}
use Rattle.ipl_meaning.specs.First.{greatest_below}
use Rattle.ipl_meaning.specs.Chosen.{Winner}
use Rattle.ipl_meaning.specs.Live.{sectors, kept, is_close_mark, commit_at, noted_at}

-- ---- the close mark

-- the close mark at this number of the status place, of its header's generation, where there is one
abbrev pub close_mark_at : Chart → Option Winner → ℕ → Option Sector
close_mark_at c status s = kept is_close_mark (noted_at c status s)

-- of the close mark before and a later one, the one with the greater serial, and the one before on a tie
abbrev pub later_close_mark : Option Sector → Option Sector → Option Sector
later_close_mark before None = before
later_close_mark None (Some mark) = Some mark
later_close_mark (Some best) (Some mark) = if nat_lt best.serial mark.serial then Some mark else Some best

-- of the close marks f 0, f 1, .. below n the one with the greatest serial, the first on a tie
abbrev pub best_below : (ℕ → Option Sector) → ℕ → Option Sector
best_below f zero = None
best_below f (suc n) = later_close_mark (best_below f n) (f n)

-- of those of the status place below this number
abbrev pub best_close_mark : Chart → Option Winner → ℕ → Option Sector
best_close_mark c status n = best_below (close_mark_at c status) n

-- the serial of a sector, where there is one
abbrev pub serial_of : Option Sector → ℕ
serial_of None = 0
serial_of (Some sector) = sector.serial

-- the greatest serial of a commit sector of the status place below this number, 0 for none
abbrev pub commit_serial : Chart → Option Winner → ℕ → ℕ
commit_serial c status n = greatest_below 0 (λ s. serial_of (commit_at c status s)) n

-- the mark's serial is not below this
abbrev pub is_no_older : ℕ → Sector → Bool
is_no_older serial mark = nat_le serial mark.serial

-- The close mark that counts: of those of the status place and its generation the one with the greatest serial, the lowest on
-- a tie, where no commit sector has a greater one.
abbrev pub last_close_mark : Chart → Option Winner → Option Sector
last_close_mark c status = kept (is_no_older (commit_serial c status sectors)) (best_close_mark c status sectors)

-- ---- its units

-- the mark has the unit, and came behind this header of it
abbrev pub marks_unit : Sector → ℕ → Option Winner → Bool
marks_unit mark u None = false
marks_unit mark u (Some winner) = has_unit mark.payload u && nat_lt winner.head.serial mark.serial

-- where there is a mark
abbrev pub is_marked_by : Option Sector → ℕ → Option Winner → Bool
is_marked_by None u home = false
is_marked_by (Some mark) u home = marks_unit mark u home

-- the close mark that counts has the unit, and came behind its header
abbrev pub is_marked_unit : Chart → Option Winner → (ℕ → Option Winner) → ℕ → Bool
is_marked_unit c status current u = is_marked_by (last_close_mark c status) u (current u)
