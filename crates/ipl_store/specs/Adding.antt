-- What a call leaves that adds numbers to the committed ones.
use Rattle.std.specs.Prelude.{ℕ, ◌≡◌, ◌≤◌, ◌+◌, List, Result, OnOk, OnErr, is_ok}
use Rattle.chip_trait.specs.Told.{Told}
use Rattle.ipl_base.specs.declared.fault.ChipFault.{ChipFault}
use Rattle.ipl_meaning.specs.Tables.{StatusTable}
use Rattle.unit_io.specs.Accounts.{Accounts}
use Rattle.unit_io.specs.Costs.{ProgramsAt, Spends}
use Rattle.unit_io.specs.Leads.{IsStopped}
use Rattle.unit_io.specs.Spots.{Programs, IsSpot}
use Rattle.txn_status.specs.Status.{after_add}

-- done, the numbers are added to the status, and one number was drawn; else the status is as it was, and one at
-- most was drawn
pub record AddsOrStays (tids : List ℕ) (result : Result (Unit {0}) ChipFault) (old new : StatusTable)
    (next then : ℕ) : Type 0 where
  pub added : OnOk result (new ≡ after_add old tids)
  pub same : OnErr result (new ≡ old)
  pub drawn : OnOk result (then ≡ next + 1)
  pub draws : (next ≤ then) × (then ≤ next + 1)

-- At most one program, at this spot and of a commit sector, and two barriers. It fails only where a write failed.
pub record WritesCommit (p s : ℕ) (result : Result (Unit {0}) ChipFault) (old new : Told) : Type 0 where
  pub costs : Spends (ProgramsAt p 1 2 6) old new
  pub tidy : Spends (Programs p (IsSpot s) (is_ok result)) old new
  pub accounts : Accounts IsStopped result old new
