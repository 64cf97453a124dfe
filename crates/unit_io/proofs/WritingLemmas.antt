-- Calls that only program.
use Rattle.std.proofs.Common.{◌≡◌, ℕ, List, Some, Result, subst}
use Rattle.std.specs.Prelude.{is_ok}
use Rattle.chip_trait.specs.declared.event.Event.TheVariants.{Program}
use Rattle.chip_trait.specs.Told.{Told}
use Rattle.ipl_base.specs.declared.fault.ChipFault.{ChipFault}
use Rattle.ipl_format.specs.Sector.{Sector, sector_in}
use Rattle.unit_io.specs.Accounts.{Accounts}
use Rattle.unit_io.specs.Costs.{ProgramsAt}
use Rattle.unit_io.specs.Leads.{Did, IsStopped}
use Rattle.unit_io.specs.Spots.{IsSpot}
use Rattle.unit_io.specs.Writing.{OnlyPrograms}
use Rattle.unit_io.proofs.CostLemmas.{spends_programmed}
use Rattle.unit_io.proofs.TidyLemmas.{tidy_programmed}
use Rattle.unit_io.proofs.UnreadLemmas.{unread_programmed}

-- a program of one sector, whether it was done or broke
pub only_programmed : (p s : ℕ) (bytes : List ℕ) (sector : Sector) (old new : Told) (result : Result (Unit {0}) ChipFault)
    → sector_in bytes ≡ Some sector → Did (Program p s bytes) result old new → Accounts IsStopped result old new
    → OnlyPrograms (ProgramsAt p 1 0 sector.kind) p (IsSpot s) result old new
only_programmed p s bytes sector old new result says did accounts = record {
  costs = spends_programmed p s bytes sector old new result says did;
  tidy = tidy_programmed p s bytes (is_ok result) old new result did;
  unread = unread_programmed p s bytes result old new did;
  accounts = accounts;
}

-- the kind may go by another name
pub only_of_kind : (p n b kind other : ℕ) (Spot : ℕ → Type 0) (result : Result (Unit {0}) ChipFault) (old new : Told) → kind ≡ other
    → OnlyPrograms (ProgramsAt p n b kind) p Spot result old new → OnlyPrograms (ProgramsAt p n b other) p Spot result old new
only_of_kind p n b kind other Spot result old new same only =
    subst (λ (k : ℕ). OnlyPrograms (ProgramsAt p n b k) p Spot result old new) same only
