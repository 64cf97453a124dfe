-- What a pass over the units and a renewal leave, whatever the chip tells, and why they fail over what it holds.
use Rattle.std.specs.Prelude.{ℕ, ◌≤◌, ◌+◌, ◌^◌, length, Result, is_ok, OnOk}
use Rattle.chip_trait.specs.Told.{Told}
use Rattle.ipl_base.specs.declared.fault.ChipFault.{ChipFault}
use Rattle.ipl_meaning.specs.Tables.{Tables}
use Rattle.place_taking.specs.Spending.{is_worn_out}
use Rattle.place_taking.specs.Wear.{TellsOfWear}
use Rattle.selective_merge.specs.Moving.{Holds}
use Rattle.unit_io.specs.Steps.{Tidies}
use Rattle.unit_io.specs.Accounts.{Accounts}
use Rattle.unit_io.specs.Costs.{Spends}
use Rattle.restart.specs.InPlace.{RenewalFailsInPlace}
use Rattle.restart.specs.Passes.{HoldsRenewed, FailsAsRenewal, CompletesRenewal, ErasesAtMost, HasErased, RenewCause, RenewsTold, KeepsInSteps}

-- ---- the pass

-- What a pass leaves, however it ends: the tables know each place still, at most so many numbers were drawn, at
-- most so many erases were tried and one more for each place that is retired, and what the tables count as clean
-- is erased and programmed as they say. Where it failed, this is its cause.
pub record LeavesPassed (drawn erases : ℕ) (t after : Tables) (result : Result (Unit {0}) ChipFault)
    (old new : Told) : Type 0 where
  pub holds : Holds old.places t after
  pub draws : (t.next ≤ after.next) × (after.next ≤ t.next + drawn)
  pub costs : Spends (ErasesAtMost t.places after.places erases (is_worn_out result)) old new
  pub tidy : Tidies t result after old new
  pub accounts : Accounts (RenewCause after.places) result old new

-- ---- the renewal

-- Why passes over all units fail, and a renewal: with what is wrong with a unit that had to be merged, where it
-- was; and where the numbers of those that can't be merged fit together, only since a call of the chip failed.
pub record RenewalFails (places : ℕ) (t after : Tables) (result : Result (Unit {0}) ChipFault) (told : Told)
    : Type 0 where
  pub fault : FailsAsRenewal places t result told
  pub stays : RenewalFailsInPlace places t after result told
  pub complete : CompletesRenewal places t result told

-- What a renewal leaves, however it ends: the tables know each place, at most 2^14 numbers were drawn, and what
-- the tables count as clean is erased and programmed as they say. Where it failed, this is its cause.
pub record LeavesRenewed (t after : Tables) (result : Result (Unit {0}) ChipFault) (old new : Told) : Type 0 where
  pub holds : HoldsRenewed old.places t result after
  pub draws : (t.next ≤ after.next) × (after.next ≤ t.next + 2 ^ 14)
  pub tidy : Tidies t result after old new
  pub accounts : Accounts (RenewCause after.places) result old new

-- What it spends: at most one erase a unit, and one for the status place, and one more for each place that is
-- retired, which was found worn. Done, the place that the status has was erased, and the new header lists exactly
-- the places that are retired.
pub record RenewalSpends (t after : Tables) (result : Result (Unit {0}) ChipFault) (old new : Told) : Type 0 where
  pub costs : Spends (ErasesAtMost t.places after.places (length t.places.current + 1) (is_worn_out result)) old new
  pub renewed : OnOk result (Spends (HasErased after.status.place) old new)
  pub wears : TellsOfWear t after (is_ok result) (is_worn_out result) old new

-- What a renewal does, however it ends: what the chip holds then, what a power cut leaves, why it fails over what the
-- chip held, what it leaves, and what it spends.
pub record RenewsStatus (t after : Tables) (result : Result (Unit {0}) ChipFault) (old new : Told) : Type 0 where
  pub tells : RenewsTold old.places t after old result new
  pub steps : KeepsInSteps old.places t after old result new
  pub fails : RenewalFails old.places t after result old
  pub leaves : LeavesRenewed t after result old new
  pub spends : RenewalSpends t after result old new
