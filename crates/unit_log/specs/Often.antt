-- How often the events of a call read sectors, by a list of them.
use Rattle.std.specs.Prelude.{ℕ, suc, ◌≤◌, ◌==◌, ◌&&◌, List, [], ◌∷◌, if◌then◌else◌}
use Rattle.ipl_base.specs.declared.limits.TheConstants.{SECTORS}
use Rattle.chip_trait.specs.Story.{Story}
use Rattle.unit_io.specs.ReadsAt.{reads_of}
use Rattle.unit_log.specs.Live.{log_spots}

-- how often these list a sector
abbrev pub times : List (ℕ × ℕ) → ℕ → ℕ → ℕ
times [] p s = 0
times (spot ∷ spots) p s = if spot.0 == p && spot.1 == s then suc (times spots p s) else times spots p s

-- they read each sector at most as often as these list it, whatever else they do
abbrev pub ReadsListed : List (ℕ × ℕ) → Story → Type 0
ReadsListed spots added = (p s : ℕ) → reads_of added p s ≤ times spots p s

-- what is read of a unit's log: the header of its place, the last 15 sectors there, and these spots
abbrev pub header_and_log : ℕ → List (ℕ × ℕ) → List (ℕ × ℕ)
header_and_log home listed = (home, 0) ∷ log_spots home SECTORS listed
