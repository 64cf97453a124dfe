-- What the calls ask and leave that write a page's records out, where that is several facts.
use Rattle.std.specs.Prelude.{ℕ, ◌≡◌, ◌<◌, ◌≤◌, ◌+◌, [], length, Result, OnOk, OnErr, is_ok}
use Rattle.chip_trait.specs.Told.{Told}
use Rattle.log_records.specs.View.{Versioned}
use Rattle.ipl_base.specs.declared.fault.ChipFault.{ChipFault}
use Rattle.ipl_base.specs.declared.limits.TheConstants.{VERSION}
use Rattle.ipl_meaning.specs.Tables.{Tables}
use Rattle.unit_io.specs.Accounts.{Accounts}
use Rattle.unit_io.specs.Costs.{ProgramsAt, Spends}
use Rattle.unit_io.specs.Steps.{Tidies}
use Rattle.place_taking.specs.Spending.{is_worn_out}
use Rattle.place_taking.specs.Wear.{TellsOfWear}
use Rattle.selective_merge.specs.Known.{KnowsPlaces}
use Rattle.selective_merge.specs.Merging.{FailsAsMerge, CompletesMerge}
use Rattle.selective_merge.specs.Moving.{Holds}
use Rattle.selective_merge.specs.Spotting.{IsSpotFor}
use Rattle.page_frames.specs.InPlace.{StaysInPlace, StaysUntouched}
use Rattle.page_frames.specs.Spending.{UsesHome}

-- The spot may be used for one log sector more of the unit: the tables know each place, and it is one for that.
pub record MayUseSpot (places : ℕ) (t : Tables) (u p s : ℕ) : Type 0 where
  pub known : KnowsPlaces places t
  pub unit : u < length t.places.current
  pub spot : IsSpotFor t u p s

-- What a call leaves that writes a log sector, however it ends: the tables know each place still, at most so
-- many numbers were drawn, what is retired besides was found worn, and what was counted as clean is erased and
-- programmed as they say. Where it failed, this is its cause.
pub record LeavesWritten (n : ℕ) (Cause : ChipFault → Told → Told → Type 0) (t after : Tables)
    (result : Result (Unit {0}) ChipFault) (old new : Told) : Type 0 where
  pub holds : Holds old.places t after
  pub draws : (t.next ≤ after.next) × (after.next ≤ t.next + n)
  pub wears : TellsOfWear t after (is_ok result) (is_worn_out result) old new
  pub tidy : Tidies t result after old new
  pub accounts : Accounts Cause result old new

-- What one log sector of the unit takes: at most one program at this place, of a log sector, and one number.
-- Each unit stays at its place; done, its home may have one log sector more that counts as written.
pub record UsesOneSector (u p : ℕ) (t after : Tables) (result : Result (Unit {0}) ChipFault)
    (old new : Told) : Type 0 where
  pub places : after.places.current ≡ t.places.current
  pub uses : UsesHome result t.places after.places u
  pub drawn : after.next ≡ t.next + 1
  pub costs : Spends (ProgramsAt p 1 0 5) old new

-- Why it fails over what the chip holds: with what is wrong with the unit, which is where it was, with
-- the bytes that it had; and where the unit's pages show values and few log sectors would be carried,
-- only where a call of the chip failed.
pub record FailsByUnit (t : Tables) (u : ℕ) (after : Tables) (result : Result (Unit {0}) ChipFault)
    (old new : Told) : Type 0 where
  pub fault : FailsAsMerge old.places t u result old
  pub complete : CompletesMerge old.places t u result old
  pub stays : StaysInPlace old.places t u after result old
  pub untouched : StaysUntouched t u after result old new

-- done, the list of records is empty and of the version that is written; else it is as it was
pub record EmptiesPayload (result : Result (Unit {0}) ChipFault) (old new : Versioned) : Type 0 where
  pub empty : OnOk result (new ≡ record { version = VERSION; bytes = [] })
  pub kept : OnErr result (new ≡ old)
