-- How often the events of a call read sectors.
use Rattle.std.specs.Prelude.{ℕ, ◌≡◌, ◌≤◌}
use Rattle.chip_trait.specs.Story.{Story}
use Rattle.unit_io.specs.ReadsAt.{reads_of}

-- they read nothing
abbrev pub ReadsNothing : Story → Type 0
ReadsNothing added = (p s : ℕ) → reads_of added p s ≡ 0

-- they read each sector at most once, whatever else they do
abbrev pub ReadsEachOnce : Story → Type 0
ReadsEachOnce added = (p s : ℕ) → reads_of added p s ≤ 1
