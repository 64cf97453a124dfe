-- What calls on pages ask of the chip.
use Rattle.std.specs.Prelude.{ℕ, ◌≡◌, ◌*◌, Bool, false, List, [], ◌∷◌, Some, None, Result, IsOk}
use Rattle.chip_trait.specs.Story.{Story}
use Rattle.chip_trait.specs.Told.{Told}
use Rattle.ipl_base.specs.declared.fault.ChipFault.{ChipFault}
use Rattle.ipl_format.specs.Record.{Record}
use Rattle.ipl_meaning.specs.Tables.{Places}
use Rattle.unit_io.specs.Accounts.{Accounts}
use Rattle.unit_io.specs.Costs.{Costs, Spends}
use Rattle.unit_io.specs.ReadsAt.{Anywhere, ReadsAt}
use Rattle.place_taking.specs.Spending.{RetiringCosts, RetiresWorn, is_worn_out}
use Rattle.selective_merge.specs.Spotting.{HasHomeSpot}
use Rattle.store_laws.specs.Frames.{logs_of}
use Rattle.page_frames.specs.Changes.{MayPut}
use Rattle.page_frames.specs.Spending.{ErasesAndLogs, UsesHome}
use Rattle.page_frames.specs.declared.pages.Pages.{Pages}
use Rattle.page_frames.specs.Pages.{tables_in, frames_in, IsFramed, HasFreeFrame, OnlyUses, PageCause}
use Rattle.page_frames.specs.Frames.{Victim, IsVictimFor}
use Rattle.page_frames.specs.Changed.{changed_pages, HasHomesFor}

-- A page's records written out: nothing, and all stays as it is, where it has none in memory; where
-- a log sector is clean at its unit's home, at most one program, of a log sector, with no erase and
-- no barrier; else at most the erase of the next free place in its turn too, and one more for each place
-- that was retired.
pub record AsksToWriteOut (u page : ℕ) (result : Result (Unit {0}) ChipFault) (old new : Pages)
    (before after : Told) : Type 0 where
  pub idle : logs_of (frames_in old) u page ≡ []
      → IsOk result × (new ≡ old) × (after ≡ before)
  pub home : HasHomeSpot (tables_in old) u → Spends (Costs 0 1 0 (5 ∷ [])) before after
      × UsesHome result old.parts.directory new.parts.directory u
  pub costs : Spends
      (ErasesAndLogs old.parts.directory new.parts.directory (is_worn_out result)) before after

-- A page loaded into its frame: reads alone, and no place is found worn. Failed, this is its cause.
pub record AsksToLoad {T : Type 0} (result : Result T ChipFault) (directory : Places) (before after : Told)
    : Type 0 where
  pub reads : ReadsAt Anywhere before after
  pub unworn : is_worn_out result ≡ false
  pub accounts : Accounts (PageCause directory) result before after

-- ---- a frame for another page

-- the page that leaves its frame, if one does, has no records in memory
abbrev pub HasNoneToWrite : Pages → Victim → Type 0
HasNoneToWrite pages None = Unit {0}
HasNoneToWrite pages (Some v) = logs_of (frames_in pages) v.0 v.1 ≡ []

-- a log sector is clean for them at the home of its unit
abbrev pub HasHomeFor : Pages → Victim → Type 0
HasHomeFor pages None = Unit {0}
HasHomeFor pages (Some v) = HasHomeSpot (tables_in pages) v.0

-- A frame is free, or the page leaves it that was used longest ago: reads alone where that has no records in
-- memory; where a log sector is clean at its unit's home, at most one program, of a log sector, with no erase and no
-- barrier.
pub record AsksForFrame (old : Pages) (before after : Told) : Type 0 where
  pub victim : Victim
  pub chosen : IsVictimFor old.pool victim
  pub idle : HasNoneToWrite old victim → Spends (Costs 0 0 0 []) before after
  pub home : HasHomeFor old victim → Spends (Costs 0 1 0 (5 ∷ [])) before after

-- A frame made free of records for another page: nothing, and all stays as it is, where the page that is to leave it
-- has none in memory; at most one program where a log sector is clean for them; and what writing one page out may cost in
-- any case.
pub record AsksToEmpty (victim : Victim) (result : Result (Unit {0}) ChipFault) (old new : Pages)
    (before after : Told) : Type 0 where
  pub idle : HasNoneToWrite old victim → IsOk result × (new ≡ old) × (after ≡ before)
  pub home : HasHomeFor old victim → Spends (Costs 0 1 0 (5 ∷ [])) before after
  pub costs : Spends
      (ErasesAndLogs old.parts.directory new.parts.directory (is_worn_out result)) before after

-- A page brought into a frame that is in none: reads alone where a frame is free, or the page that leaves one has no
-- records in memory; and what writing one page out may cost in any case.
pub record AsksToFetch (worn_out : Bool) (old new : Pages) (before after : Told) : Type 0 where
  pub free : HasFreeFrame old → Spends (Costs 0 0 0 []) before after
  pub frame : AsksForFrame old before after
  pub costs : Spends (ErasesAndLogs old.parts.directory new.parts.directory worn_out) before after

-- A page brought into a frame: nothing where it is in one, but that a use is counted; reads alone where
-- a frame is free; and what writing one page out may cost in any case.
pub record AsksToBring (u page : ℕ) (worn_out : Bool) (old new : Pages) (before after : Told)
    : Type 0 where
  pub idle : IsFramed old u page → OnlyUses u page old new × (after ≡ before)
  pub free : HasFreeFrame old → Spends (Costs 0 0 0 []) before after
  pub frame : (IsFramed old u page → ⊥) → AsksForFrame old before after
  pub costs : Spends (ErasesAndLogs old.parts.directory new.parts.directory worn_out) before after

-- A page made ready for a record: nothing where it is in a frame and the record fits behind those in
-- memory, but that a use is counted, and no place is found worn; reads alone where it is in none and a frame is free; where it is
-- in a frame and a log sector is clean at its unit's home, at most one program, of a log sector, with
-- no erase and no barrier; and what writing one page out may cost in any case.
pub record AsksToPrepare (u : ℕ) (r : Record) (worn_out : Bool) (old new : Pages)
    (before after : Told) : Type 0 where
  pub idle : MayPut (frames_in old) u r
      → OnlyUses u r.page old new × (after ≡ before) × (worn_out ≡ false)
  pub free : frames_in old u r.page ≡ None → HasFreeFrame old → Spends (Costs 0 0 0 []) before after
  pub frame : (IsFramed old u r.page → ⊥) → AsksForFrame old before after
  pub home : IsFramed old u r.page → HasHomeSpot (tables_in old) u
      → Spends (Costs 0 1 0 (5 ∷ [])) before after
  pub costs : Spends (ErasesAndLogs old.parts.directory new.parts.directory worn_out) before after

-- At most one erase is tried for each of so many pages, and one more for each place that was retired;
-- what is found worn is retired; of what wasn't erased before at most one log sector for each is
-- programmed; and there are at most three barriers for each.
pub record ErasesAndLogsOf (n : ℕ) (before after : Places) (worn_out : Bool) (added : Story)
    : Type 0 where
  pub costs : RetiringCosts before after n n (3 * n) (5 ∷ []) added
  pub retires : RetiresWorn before after worn_out added

-- The records of the pages of these names written out.
pub record AsksToWriteNamesOut (names : List ℕ) (worn_out : Bool) (old new : Pages)
    (before after : Told) : Type 0 where
  -- at most so much for each page of theirs that has records in memory
  pub costs : Spends (ErasesAndLogsOf (changed_pages old names) old.parts.directory
      new.parts.directory worn_out) before after
  -- and no erase where each unit has log sectors clean at home for its pages
  pub homes : HasHomesFor old names → Spends (Costs 0 (changed_pages old names) 0 (5 ∷ []))
      before after
