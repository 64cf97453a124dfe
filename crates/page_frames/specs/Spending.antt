-- What writing a page's records out erases and programs.
use Rattle.std.specs.Prelude.{ℕ, ◌≡◌, ◌<◌, ◌⊎◌, Bool, List, [], ◌∷◌, slice_index, Result, Ok, Err}
use Rattle.chip_trait.specs.Story.{Story}
use Rattle.chip_trait.specs.Told.{Told}
use Rattle.ipl_base.specs.declared.fault.ChipFault.{ChipFault}
use Rattle.ipl_meaning.specs.Tables.{Places, Tables, masks_in, with_written}
use Rattle.unit_io.specs.Costs.{Costs, Spends}
use Rattle.place_taking.specs.Spending.{ErasesFree, RetiringCosts, TriesInTurn, RetiresWorn, is_worn_out}
use Rattle.selective_merge.specs.Spotting.{HasHomeSpot}

-- At most one erase is tried, and one more for each place that was retired, of the next free place in
-- its turn; what is found worn is retired; of what wasn't erased before at most one sector is
-- programmed, a log sector; and there are at most three barriers.
pub record ErasesAndLogs (before after : Places) (worn_out : Bool) (added : Story) : Type 0 where
  pub costs : RetiringCosts before after 1 1 3 (5 ∷ []) added
  pub tries : TriesInTurn before after added
  pub retires : RetiresWorn before after worn_out added

-- the log sectors at home that counted as written before name the pages that they named
abbrev pub KeepsMasks : Places → Places → Type 0
KeepsMasks before after = (u i : ℕ) → i < slice_index before.written u
    → slice_index (masks_in after u) i ≡ slice_index (masks_in before u) i

-- Each unit stands where it stood and under the generation that it had, the same places are in use
-- and retired and were erased as often, and of the units' log sectors at home those that are told as written
-- count so. Those that did before name the pages that they named.
pub record AreAlike (before after : Places) (count : List ℕ) : Type 0 where
  pub current : after.current ≡ before.current
  pub in_use : after.in_use ≡ before.in_use
  pub erases : after.erases ≡ before.erases
  pub retired : after.retired ≡ before.retired
  pub written : after.written ≡ count
  pub generations : after.generations ≡ before.generations
  pub masks : KeepsMasks before after

-- Done, all is as it was, but that one more log sector may count as written at this unit's home.
-- Where it failed, all is as it was.
abbrev pub UsesHome : Result (Unit {0}) ChipFault → Places → Places → ℕ → Type 0
UsesHome (Ok v) before after u =
    AreAlike before after before.written ⊎ AreAlike before after (with_written before u).written
UsesHome (Err e) before after u = after ≡ before

-- What finding room costs: where a log sector is clean at the unit's home, reads alone, and the
-- tables stay as they are; else at most an erase that is tried, of the next free place in its turn, and
-- one more for each place that was retired.
pub record RoomCosts (worn_out : Bool) (t after : Tables) (u : ℕ) (old new : Told) : Type 0 where
  pub home : HasHomeSpot t u → (after ≡ t) × Spends (Costs 0 0 0 []) old new
  pub any : Spends (ErasesFree t.places after.places 3 worn_out) old new

-- What writing out costs: where a log sector is clean at the unit's home, at most one program, of a
-- log sector, and no erase and no barrier; else at most an erase that is tried, of the next free place
-- in its turn, too, and one more for each place that was retired.
pub record WritingCosts (result : Result (Unit {0}) ChipFault) (t after : Tables) (u : ℕ)
    (old new : Told) : Type 0 where
  pub home : HasHomeSpot t u
      → Spends (Costs 0 1 0 (5 ∷ [])) old new × UsesHome result t.places after.places u
  pub any : Spends (ErasesAndLogs t.places after.places (is_worn_out result)) old new
