-- What the calls leave that program a sector of a place, or a page's sectors.
use Rattle.std.specs.Prelude.{ℕ, ◌≡◌, ◌≢◌, ◌≤◌, List, length, Some, None, Result, IfOk, OnOk, is_ok}
use Rattle.chip_trait.specs.declared.event.Event.TheVariants.{Program}
use Rattle.chip_trait.specs.Image.{IsClosed}
use Rattle.chip_trait.specs.Chart.{with_sector}
use Rattle.chip_trait.specs.Story.{Story}
use Rattle.chip_trait.specs.Told.{History, Told, adds}
use Rattle.ipl_base.specs.declared.fault.ChipFault.{ChipFault}
use Rattle.ipl_base.specs.declared.limits.TheConstants.{PAGE_SECTORS, PAYLOAD_LEN, VERSION}
use Rattle.ipl_format.specs.Sector.{Sector, sector_in}
use Rattle.ipl_meaning.specs.Legible.{Legible}
use Rattle.ipl_meaning.specs.Chart.{Chart}
use Rattle.ipl_meaning.specs.Stands.{StandsBeside}
use Rattle.ipl_meaning.specs.Rests.{now, IsUntouched, EachStands, WornAreIdle, StoryRests}
use Rattle.ipl_meaning.specs.Tables.{Tables, IsCountedClean}
use Rattle.ipl_meaning.specs.Marks.{AreUnused, KeepsMarks, MarksNoMore}
use Rattle.unit_io.specs.Accounts.{Accounts}
use Rattle.unit_io.specs.Costs.{Spends}
use Rattle.unit_io.specs.Leads.{IsSteady, IsStopped, LeadsWhere, RestsAdded, KeepsMap, SwitchesMap}
use Rattle.unit_io.specs.Spots.{Programs, IsSpot}
use Rattle.unit_io.specs.Charts.{Charts, Spares, Gains}
use Rattle.unit_io.specs.Plain.{AddsPlain}
use Rattle.unit_io.specs.Unread.{ReadsNothing}

-- ---- what may be programmed

-- it is of the version that is written, and a sector has room for its payload
pub record MayProgram (sector : Sector) : Type 0 where
  pub version : sector.version ≡ VERSION
  pub fits : length sector.payload ≤ PAYLOAD_LEN

-- ---- what is programmed

-- Programs of this place alone, at these spots and each once, at this cost; nothing is read. It fails
-- only where a write failed.
pub record OnlyPrograms {T : Type 0} (Cost : Story → Type 0) (p : ℕ) (Spot : ℕ → Type 0)
    (result : Result T ChipFault) (old new : Told) : Type 0 where
  pub costs : Spends Cost old new
  pub tidy : Spends (Programs p Spot (is_ok result)) old new
  pub unread : Spends ReadsNothing old new
  pub accounts : Accounts IsStopped result old new

-- ---- what stands then

-- So many sectors of a page were added at this place, at most 16, and the chart has them so. None is a
-- log sector or a commit sector, and all other places have the bytes that they had.
pub record AddsPage (Has : ℕ → Chart → Chart → Type 0) (p : ℕ) (result : Result ℕ ChipFault)
    (old new : Told) : Type 0 where
  pub tells : IfOk result (λ n. Charts (Has n) old new)
  pub few : IfOk result (λ n. n ≤ PAGE_SECTORS)
  pub plain : AddsPlain old new
  pub spares : OnOk result (Spares p old new)

-- ---- what a power cut leaves

-- a sector in a place without a header: it keeps the map
abbrev pub LeadsAside : ℕ → ℕ → ℕ → Sector
    → Told → Result (Unit {0}) ChipFault → Told → Type 0
LeadsAside places p s sector old result new = (m : Legible) (h : History)
    → IsSteady h old → StoryRests places m h → now h p 0 ≡ None → s ≢ 0 → IsUntouched h p s
    → KeepsMap places m (Programs p (IsSpot s)) (λ done. Gains p s sector) h old result new

-- a commit sector, added where nothing is open and after which no more is marked: it switches the
-- map to what stands with it
abbrev pub LeadsCommit : ℕ → ℕ → ℕ → Sector
    → Told → Result (Unit {0}) ChipFault → Told → Type 0
LeadsCommit places p s sector old result new = (m n : Legible) (h : History)
    → IsSteady h old → StoryRests places m h → IsClosed h.story → IsUntouched h p s
    → StandsBeside places (now h) (with_sector (now h) p s sector) n
    → WornAreIdle places h.story (with_sector (now h) p s sector)
    → MarksNoMore places (now h) (with_sector (now h) p s sector) p
    → SwitchesMap places m n (Programs p (IsSpot s)) (λ done. Gains p s sector) h old result new

-- a close mark, added where nothing is open: where the map stands with it, it keeps the map, and marks,
-- where they are kept if what some tables count as clean is unused, on that condition
abbrev pub LeadsMark : ℕ → ℕ → ℕ → Sector
    → Told → Result (Unit {0}) ChipFault → Told → Type 0
LeadsMark places p s mark old result new = (t : Tables) (m : Legible) (h : History)
    → IsSteady h old → StoryRests places m h → IsClosed h.story → IsUntouched h p s
    → StandsBeside places (now h) (with_sector (now h) p s mark) m
    → WornAreIdle places h.story (with_sector (now h) p s mark)
    → (AreUnused (IsCountedClean t) h.story → (bytes : List ℕ) → sector_in bytes ≡ Some mark
    → KeepsMarks places h (adds (Program p s bytes) h))
    → LeadsWhere (AreUnused (IsCountedClean t) h.story) (EachStands places m) (Programs p (IsSpot s))
    (λ done k. RestsAdded places m p s mark h k) h old result new
