-- What the calls leave that write one sector of a status place, or several. Of one alone `unit_io` says
-- what a power cut leaves.
use Rattle.std.specs.Prelude.{ℕ, ◌≡◌, List, None, Result, is_ok}
use Rattle.chip_trait.specs.Lawful.{Clean, age}
use Rattle.chip_trait.specs.Chart.{with_sector}
use Rattle.chip_trait.specs.Told.{History, Told}
use Rattle.ipl_base.specs.declared.fault.ChipFault.{ChipFault}
use Rattle.ipl_format.specs.Sector.{Sector}
use Rattle.ipl_meaning.specs.Legible.{Legible}
use Rattle.ipl_meaning.specs.Chart.{Chart}
use Rattle.ipl_meaning.specs.Stands.{StandsBeside}
use Rattle.ipl_meaning.specs.Rests.{now, WornAreIdle, StoryRests}
use Rattle.ipl_meaning.specs.Marks.{MarksNoMore}
use Rattle.unit_io.specs.Accounts.{Accounts}
use Rattle.unit_io.specs.Costs.{ProgramsAt, Spends}
use Rattle.unit_io.specs.Leads.{IsSteady, IsStopped, KeepsMap}
use Rattle.unit_io.specs.Spots.{Programs, IsSpot}
use Rattle.unit_io.specs.Charts.{Gains}
use Rattle.txn_status.specs.Status.{parts_of}
use Rattle.txn_status.specs.Switching.{HasParts, IsPartSpot, IsStatusHead}

-- ---- what is programmed

-- At most one program, at this spot and of a sector of this kind, and one barrier. It fails only where a
-- write failed.
pub record WritesOneSector (p s kind : ℕ) (result : Result (Unit {0}) ChipFault) (old new : Told)
    : Type 0 where
  pub costs : Spends (ProgramsAt p 1 1 kind) old new
  pub tidy : Spends (Programs p (IsSpot s) (is_ok result)) old new
  pub accounts : Accounts IsStopped result old new

-- ---- what a power cut leaves

-- the first n parts of the numbers, in such a place
abbrev pub KeepsParts : ℕ → ℕ → ℕ → ℕ → List ℕ → ℕ → Legible
    → History → Told → Result (Unit {0}) ChipFault → Told → Type 0
KeepsParts places p generation serial numbers n m h old result new =
    KeepsMap places m (Programs p (IsPartSpot n))
    (λ done. HasParts p generation serial numbers n) h old result new

-- all parts of them
abbrev pub LeadsParts : ℕ → ℕ → ℕ → ℕ → List ℕ
    → Told → Result (Unit {0}) ChipFault → Told → Type 0
LeadsParts places p generation serial numbers old result new = (m : Legible) (h : History)
    → IsSteady h old → StoryRests places m h → now h p 0 ≡ None
    → ((s : ℕ) → IsPartSpot (parts_of numbers) s → age h.story p s ≡ Clean)
    → KeepsParts places p generation serial numbers (parts_of numbers) m h old result new

-- the chart has a status header with these counts, that lists these places, too
abbrev pub IsHeaded : ℕ → ℕ → ℕ → ℕ → List ℕ → ℕ → Chart → Chart → Type 0
IsHeaded places p units erases retired generation c y =
    (head : Sector) × IsStatusHead places units erases retired generation head × Gains p 0 head c y

-- with a status header the map stands still, worn places are idle, and no more is marked
pub record StandsHeaded (places p : ℕ) (m : Legible) (h : History) (head : Sector) : Type 0 where
  pub stands : StandsBeside places (now h) (with_sector (now h) p 0 head) m
  pub worn : WornAreIdle places h.story (with_sector (now h) p 0 head)
  pub no_more : MarksNoMore places (now h) (with_sector (now h) p 0 head) p

-- a status header, where that is so
abbrev pub LeadsHeader : ℕ → ℕ → ℕ → ℕ → List ℕ → ℕ
    → Told → Result (Unit {0}) ChipFault → Told → Type 0
LeadsHeader places p units erases retired generation old result new = (m : Legible) (h : History)
    → IsSteady h old → StoryRests places m h → age h.story p 0 ≡ Clean
    → ((head : Sector) → IsStatusHead places units erases retired generation head
    → StandsHeaded places p m h head)
    → KeepsMap places m (Programs p (IsSpot 0))
    (λ done. IsHeaded places p units erases retired generation) h old result new
