-- The memory of a checker, and what its tables are made for.
use Rattle.std.specs.Prelude.{ℕ, ◌≡◌, ◌≤◌, List, length}
use Rattle.ipl_base.specs.declared.limits.TheConstants.{MOST_UNITS, STATUS_NUMBERS}
use Rattle.chip_trait.specs.Story.{Contents}
use Rattle.chip_trait.specs.Told.{Told}
use Rattle.ipl_meaning.specs.Chart.{chart_of}
use Rattle.ipl_meaning.specs.Layout.{Layout}
use Rattle.ipl_meaning.specs.Tables.{Places, OverflowLists, StatusTable}
use Rattle.unit_io.specs.Reads.{OfContents}
use Rattle.unit_log.specs.declared.live.UnitHead.{UnitHead}
use Rattle.unit_log.specs.declared.scratch.LogSector.{LogSector}
use Rattle.page_rebuild.specs.Loaded.{IsReadWhole}
use Rattle.image_check.specs.declared.checking.Memory.{Memory}

-- the tables are made for a chip of so many places, and all numbers of a status place have room
pub record IsMemoryMade (places : ℕ) (memory : Memory) : Type 0 where
  pub scratch : memory.scratch ≡ places
  pub directory : length memory.tables.directory.in_use ≡ places
  pub overflow : memory.tables.overflow.places ≡ places
  pub most : memory.tables.status.most ≡ STATUS_NUMBERS
  pub room : memory.numbers.room ≡ STATUS_NUMBERS

-- and for as many units
pub record AreTablesSized (places : ℕ) (directory : Places) (overflow : OverflowLists) : Type 0 where
  pub all : length directory.in_use ≡ places
  pub few : length directory.current ≤ MOST_UNITS
  pub units : length overflow.spots ≡ length directory.current
  pub sized : overflow.places ≡ places

-- where the chip tells what it holds, this is so of it and of each layout of which the unit was read whole
abbrev pub OfWhole : Told → ℕ → ℕ → UnitHead → List LogSector → StatusTable
    → (Contents → Layout → Type 0) → Type 0
OfWhole told place u head kept status P = OfContents told (λ x. (it : Layout)
    → IsReadWhole told.places (chart_of x) it place u head kept status → P x it)
