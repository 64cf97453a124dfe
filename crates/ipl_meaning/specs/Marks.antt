-- The marks of a clean close: which log sectors of the units' places are known to be clean when the chip is opened again.
use Rattle.std.specs.Prelude.{ℕ, ◌≡◌, ◌≢◌, ◌⊎◌, ◌<◌, ◌≤◌, true}
use Rattle.ipl_base.specs.declared.limits.TheConstants.{SECTORS, FIRST_LOG_SECTOR}
use Rattle.chip_trait.specs.Story.{Story, Contents, blank}
use Rattle.chip_trait.specs.Image.{IsNoChanceImage}
use Rattle.chip_trait.specs.Lawful.{Used, age}
use Rattle.chip_trait.specs.Chart.{says}
use Rattle.chip_trait.specs.Told.{History}
use Rattle.ipl_format.specs.Sector.{Sector, sector_in}
use Rattle.ipl_format.specs.Mark.{has_unit}
use Rattle.ipl_meaning.specs.Chart.{Chart, chart_of}
use Rattle.ipl_meaning.specs.Layout.{Layout, Laid, IsCommitSector, IsMark}

-- the mark that counts: the one with the greatest serial, the lowest on a tie, where no commit sector has a greater one
pub record IsLastMark (c : Chart) (it : Layout) (s : ℕ) (mark : Sector) : Type 0 where
  pub is : IsMark c it.status it.head.generation s mark
  pub last : (t : ℕ) (other : Sector) → IsMark c it.status it.head.generation t other
      → (other.serial < mark.serial) ⊎ ((other.serial ≡ mark.serial) × (s ≤ t))
  pub ends : (t : ℕ) (sector : Sector) → IsCommitSector c it.status it.head.generation t sector → sector.serial ≤ mark.serial

-- the mark that counts has the unit, and came behind its header
pub record IsMarkedUnit (c : Chart) (it : Layout) (u : ℕ) : Type 0 where
  pub number : ℕ
  pub mark : Sector
  pub counts : IsLastMark c it number mark
  pub has : has_unit mark.payload u ≡ true
  pub behind : (it.units u).head.serial < mark.serial

-- The sector is marked as clean: it is a log sector at the place of a marked unit, and holds 512 bytes FF.
pub record IsMarked (places : ℕ) (x : Contents) (p n : ℕ) : Type 0 where
  pub layout : Layout
  pub laid : Laid places (chart_of x) layout
  pub unit : ℕ
  pub within : unit < layout.count
  pub home : p ≡ (layout.units unit).home
  pub marked : IsMarkedUnit (chart_of x) layout unit
  pub region : (FIRST_LOG_SECTOR ≤ n) × (n < SECTORS)
  pub is_blank : x p n ≡ blank

-- none of these sectors was programmed since its place's last erase, or since the start
abbrev pub AreUnused : (ℕ → ℕ → Type 0) → Story → Type 0
AreUnused sectors story = (p s : ℕ) → sectors p s → age story p s ≢ Used

-- whatever a power cut leaves, but by chance: no sector that is marked there was programmed since its place's last erase, or
-- since the start
abbrev pub MarksAreUnused : ℕ → History → Type 0
MarksAreUnused places h = (x : Contents) → IsNoChanceImage (says sector_in) h.start h.story x
    → AreUnused (IsMarked places x) h.story

-- where that was so before, it is so then
abbrev pub KeepsMarks : ℕ → History → History → Type 0
KeepsMarks places h k = MarksAreUnused places h → MarksAreUnused places k

-- With a sector more at this place, where no unit stood, no unit is marked that wasn't, at the same place.
pub record MarksNoMore (places : ℕ) (c y : Chart) (p : ℕ) : Type 0 where
  pub before : Layout
  pub laid_before : Laid places c before
  pub no_home : (u : ℕ) → u < before.count → (before.units u).home ≢ p
  pub then : Layout
  pub laid_then : Laid places y then
  pub each : (u : ℕ) → u < then.count → IsMarkedUnit y then u
      → (u < before.count) × IsMarkedUnit c before u × ((before.units u).home ≡ (then.units u).home)
