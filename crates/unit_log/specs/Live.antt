-- The live log sectors of a unit, read from the tables.
use Rattle.std.specs.Prelude.{ℕ, zero, suc, ◌≡◌, ◌⊎◌, ◌<◌, ◌≤◌, ◌+◌, ◌-◌, List, [], ◌∷◌, ◌++◌, map, length, Some, Result, MatchResult}
use Rattle.ipl_base.specs.declared.limits.TheConstants.{FIRST_LOG_SECTOR, SECTORS}
use Rattle.chip_trait.specs.Told.{Told}
use Rattle.ipl_base.specs.declared.fault.ChipFault.{ChipFault}
use Rattle.ipl_base.specs.declared.fault.ChipFault.TheVariants.{ReadFault}
use Rattle.ipl_format.specs.Header.{SpellsDataHeader}
use Rattle.ipl_format.specs.Sector.{Sector}
use Rattle.ipl_meaning.specs.Chart.{Chart, chart_of}
use Rattle.ipl_meaning.specs.Layout.{Layout}
use Rattle.ipl_meaning.specs.Tables.{Places, OverflowLists, Tables}
use Rattle.ipl_meaning.specs.Mirrors.{Mirrors}
use Rattle.unit_io.specs.Reads.{OfContents}
use Rattle.unit_log.specs.declared.scratch.LogSector.{LogSector}
use Rattle.unit_log.specs.declared.live.UnitHead.{UnitHead}
use Rattle.unit_log.specs.Kept.{kept_of, gathered, HasUnfit}

-- n sectors of a place, from one on
abbrev pub spots_from : ℕ → ℕ → ℕ → List (ℕ × ℕ)
spots_from p s zero = []
spots_from p s (suc n) = (p, s) ∷ spots_from p (s + 1) n

-- where log sectors of a unit may stand: in its place from sector 241 up to an end, and at these
-- spots
abbrev pub log_spots : ℕ → ℕ → List (ℕ × ℕ) → List (ℕ × ℕ)
log_spots home end listed = spots_from home FIRST_LOG_SECTOR (end - FIRST_LOG_SECTOR) ++ listed

-- a chip of so many places has this one, and its sectors from 241 up to this end
pub record HasLogEnd (places p end : ℕ) : Type 0 where
  pub place : p < places
  pub least : FIRST_LOG_SECTOR ≤ end
  pub most : end ≤ SECTORS

-- The log sectors at the spots that are the unit's and of the generation are put into those that
-- were
-- kept before; or, where no read failed, one of them can't be.
abbrev pub Gathers : Told → ℕ → ℕ → List (ℕ × ℕ)
    → List LogSector → List LogSector → Result (Unit {0}) ChipFault → Type 0
Gathers told u generation spots before kept result = OfContents told (λ x. MatchResult result
    (λ _. kept ≡ gathered (chart_of x) u generation spots before)
    (λ fault. (fault ≡ ReadFault) ⊎ HasUnfit (chart_of x) u generation spots before))

-- the unit's header, and its log: what the layout says
pub record MatchesLayout (it : Layout) (u : ℕ) (head : UnitHead) (kept : List LogSector) : Type 0 where
  pub version : head.version ≡ (it.units u).head.version
  pub generation : head.generation ≡ (it.units u).head.generation
  pub pieces : head.pieces ≡ (it.units u).pieces
  pub log : kept ≡ map kept_of (it.units u).log

-- the directory and the overflow lists are made for a chip of so many places, and for as many units
pub record SuitChip (places : ℕ) (directory : Places) (overflow : OverflowLists) : Type 0 where
  pub size : length directory.in_use ≡ places
  pub units : length overflow.spots ≡ length directory.current
  pub sized : overflow.places ≡ places

-- and they have this unit
pub record HaveUnit (places : ℕ) (directory : Places) (overflow : OverflowLists) (u : ℕ) : Type 0 where
  pub unit : u < length directory.current
  pub size : length directory.in_use ≡ places
  pub units : length overflow.spots ≡ length directory.current
  pub sized : overflow.places ≡ places

-- tables with this directory and these overflow lists mirror the chart
pub record AreMirrored (places : ℕ) (c : Chart) (it : Layout) (t : Tables)
    (directory : Places) (overflow : OverflowLists) : Type 0 where
  pub mirrors : Mirrors places c it t
  pub directory_is : t.places ≡ directory
  pub overflow_is : t.overflow ≡ overflow

-- where the chip tells what it holds and such tables mirror it, this is so of the layout
abbrev pub OfMirrored : Told → Places → OverflowLists → (Layout → Type 0) → Type 0
OfMirrored told directory overflow P = OfContents told (λ x. (it : Layout) (t : Tables)
    → AreMirrored told.places (chart_of x) it t directory overflow → P it)

-- a sector is a data header of the unit, and says this
pub record SaysHead (sector : Sector) (u : ℕ) (head : UnitHead) : Type 0 where
  pub kind : sector.kind ≡ 1
  pub unit : sector.unit ≡ u
  pub version : head.version ≡ sector.version
  pub generation : head.generation ≡ sector.generation
  pub units : ℕ
  pub spelled : SpellsDataHeader sector.version units head.pieces sector.payload

-- at the place stands one that says this
pub record HasUnitHead (c : Chart) (place u : ℕ) (head : UnitHead) : Type 0 where
  pub sector : Sector
  pub here : c place 0 ≡ Some sector
  pub says : SaysHead sector u head

-- a data header of the unit stands at the place, and says these numbers of base sectors
pub record HasHead (c : Chart) (place u : ℕ) (head : Sector) (pieces : List ℕ) : Type 0 where
  pub here : c place 0 ≡ Some head
  pub kind : head.kind ≡ 1
  pub unit : head.unit ≡ u
  pub units : ℕ
  pub spelled : SpellsDataHeader head.version units pieces head.payload
