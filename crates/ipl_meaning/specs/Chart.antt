-- The chart of a chip: what each of its sectors says. Which headers count, and which log sectors.
use Rattle.std.specs.Prelude.{ℕ, ◌≡◌, ◌⊎◌, ◌<◌, ◌≤◌, Option, Some}
use Rattle.ipl_base.specs.declared.limits.TheConstants.{SECTORS, FIRST_LOG_SECTOR}
use Rattle.chip_trait.specs.Story.{Contents}
use Rattle.chip_trait.specs.Chart.{decoded}
use Rattle.ipl_format.specs.Sector.{Sector, sector_in}

-- what a sector says, by its place and its number there; none where it doesn't check
abbrev pub Chart : Type 0
Chart = ℕ → ℕ → Option Sector

-- the chart of these contents
abbrev pub chart_of : Contents → Chart
chart_of x = decoded sector_in x

-- the sector 0 of a data place of this unit
abbrev pub IsDataHeader : ℕ → Sector → Type 0
IsDataHeader u head = (head.kind ≡ 1) × (head.unit ≡ u)

-- that of a status place
abbrev pub IsStatusHeader : Sector → Type 0
IsStatusHeader head = head.kind ≡ 2

-- that of an overflow place
abbrev pub IsOverflowHeader : Sector → Type 0
IsOverflowHeader head = head.kind ≡ 3

-- a header of any kind
abbrev pub IsHeader : Sector → Type 0
IsHeader head = (1 ≤ head.kind) × (head.kind ≤ 3)

-- the header at p counts rather than the one at q: the greater serial does, and on a tie the lower place
abbrev pub Beats : Sector → ℕ → Sector → ℕ → Type 0
Beats head p other q = (other.serial < head.serial) ⊎ ((other.serial ≡ head.serial) × (p ≤ q))

-- of the headers that fit, the one at p counts
pub record IsChosen (c : Chart) (places : ℕ) (Fits : Sector → Type 0) (p : ℕ) (head : Sector) : Type 0 where
  pub within : p < places
  pub here : c p 0 ≡ Some head
  pub fits : Fits head
  pub best : (q : ℕ) (other : Sector) → q < places → c q 0 ≡ Some other → Fits other → Beats head p other q

-- the place is an overflow place
abbrev pub IsOverflow : Chart → ℕ → Type 0
IsOverflow c p = (head : Sector) × (c p 0 ≡ Some head) × IsOverflowHeader head

-- a live log sector of a unit whose header, of this generation, stands at home: it is of the unit and the generation, and
-- stands among the last 15 sectors at home, or in an overflow place
pub record IsLive (c : Chart) (places u home generation p s : ℕ) (sector : Sector) : Type 0 where
  pub here : c p s ≡ Some sector
  pub kind : sector.kind ≡ 5
  pub of_unit : sector.unit ≡ u
  pub of_generation : sector.generation ≡ generation
  pub within : (p < places) × (s < SECTORS)
  pub counts : ((p ≡ home) × (FIRST_LOG_SECTOR ≤ s)) ⊎ (IsOverflow c p × (1 ≤ s))
