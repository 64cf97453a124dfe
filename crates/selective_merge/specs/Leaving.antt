-- What a call leaves of the tables that may take free places, whatever the chip tells.
use Rattle.std.specs.Prelude.{ℕ, ◌≡◌, ◌≤◌, ◌+◌, List, length, slice_index, Result, is_ok, OnOk}
use Rattle.ipl_base.specs.declared.fault.ChipFault.{ChipFault}
use Rattle.ipl_base.specs.declared.limits.TheConstants.{CARRIED_SECTORS}
use Rattle.ipl_base.specs.declared.spot.Spot.{Spot}
use Rattle.chip_trait.specs.Told.{Told}
use Rattle.ipl_meaning.specs.Tables.{Tables}
use Rattle.overflow.specs.Lists.{spots_in}
use Rattle.unit_directory.specs.Free.{free_count}
use Rattle.unit_io.specs.Accounts.{Accounts}
use Rattle.unit_io.specs.Costs.{Spends}
use Rattle.unit_log.specs.Often.{ReadsListed}
use Rattle.place_taking.specs.Spending.{ErasesFor, ErasesFree, SparesUsed, is_worn_out}
use Rattle.selective_merge.specs.Homes.{MergeCause}
use Rattle.selective_merge.specs.Moving.{Holds}
use Rattle.selective_merge.specs.Throughout.{TidiesThroughout, UnlessCallsFailed}

-- What a call leaves, however it ends: the tables know each place still, at most so many numbers were drawn,
-- and what was counted as clean is erased and programmed as they say. Unless a call of the chip failed, each
-- place that was in use has the bytes that it had; and where it failed, this is its cause.
pub record LeavesTables {T : Type 0} (n : ℕ) (Cause : ChipFault → Told → Told → Type 0) (t after : Tables)
    (result : Result T ChipFault) (old new : Told) : Type 0 where
  pub holds : Holds old.places t after
  pub draws : (t.next ≤ after.next) × (after.next ≤ t.next + n)
  pub spares : UnlessCallsFailed result (SparesUsed t.places old new)
  pub tidy : TidiesThroughout t after old new
  pub accounts : Accounts Cause result old new

-- What a merge of the unit leaves: besides, no place is lost to it, and each sector is read at most as often as it is
-- listed. Done, at most 12 log sectors of the unit
-- are written, a number was drawn for each and one for the unit, and its place was erased for it.
pub record MovesUnit (read : List (ℕ × ℕ)) (u : ℕ) (t after : Tables) (result : Result (Unit {0}) ChipFault) (old new : Told) : Type 0 where
  pub leaves : LeavesTables 13
      (MergeCause after.places (slice_index t.places.current u) (spots_in t.overflow u)) t after result old new
  pub room : OnOk result (slice_index after.places.written u ≤ CARRIED_SECTORS)
  pub free : free_count t.places.in_use + length t.places.retired
      ≤ free_count after.places.in_use + length after.places.retired
  pub drawn : OnOk result (after.next ≡ t.next + 1 + slice_index after.places.written u)
  pub costs : Spends (ErasesFor t.places after.places 3 (slice_index after.places.current u) (is_ok result)
      (is_worn_out result)) old new
  pub reads : Spends (ReadsListed read) old new

-- What a call leaves that finds a spot for a log sector of the unit, which may take a merge: besides, at most
-- one erase is tried and one more for each place that is retired, of free places; and each sector is read at most as
-- often as it is listed.
pub record FindsSpot (read : List (ℕ × ℕ)) (u : ℕ) (t after : Tables) (result : Result Spot ChipFault) (old new : Told) : Type 0 where
  pub leaves : LeavesTables 13
      (MergeCause after.places (slice_index t.places.current u) (spots_in t.overflow u)) t after result old new
  pub costs : Spends (ErasesFree t.places after.places 3 (is_worn_out result)) old new
  pub reads : Spends (ReadsListed read) old new
