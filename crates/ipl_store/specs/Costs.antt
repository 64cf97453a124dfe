-- What writes and commits ask of the chip.
use Rattle.std.specs.Prelude.{ℕ, ◌≡◌, ◌<◌, ◌≤◌, ◌+◌, ◌*◌, Bool, false, List, [], ◌∷◌, Some, None, length, Result}
use Rattle.chip_trait.specs.Story.{Story}
use Rattle.chip_trait.specs.Told.{Told}
use Rattle.ipl_base.specs.declared.fault.ChipFault.{ChipFault}
use Rattle.ipl_base.specs.Places.{home_of}
use Rattle.ipl_format.specs.Record.{Change, value_of}
use Rattle.ipl_meaning.specs.Last.{size_of_all}
use Rattle.ipl_meaning.specs.Tables.{Places}
use Rattle.unit_io.specs.Costs.{Costs, ProgramsAt, Spends}
use Rattle.place_taking.specs.Spending.{RetiringCosts, RetiresWorn, is_worn_out}
use Rattle.txn_status.specs.Status.{room_of}
use Rattle.selective_merge.specs.Spotting.{HasHomeSpot}
use Rattle.store_laws.specs.Frames.{PageFrame}
use Rattle.record_locks.specs.Held.{written_by}
use Rattle.page_frames.specs.Spending.{ErasesAndLogs}
use Rattle.page_frames.specs.declared.pages.Pages.{Pages}
use Rattle.page_frames.specs.Pages.{tables_in, frames_in, IsFramed, HasFreeFrame}
use Rattle.page_frames.specs.Changed.{changed_pages, HasHomesFor}
use Rattle.ipl_store.specs.declared.transactions.Transactions.{Transactions}

-- the page of a name is in a frame, and a record of this change fits behind its records in memory
pub record HasRoomFor (pages : Pages) (n : ℕ) (change : Change) : Type 0 where
  pub frame : PageFrame
  pub there : frames_in pages (home_of n).unit (home_of n).page ≡ Some frame
  pub fits : size_of_all frame.log + (12 + length (value_of change)) ≤ 480

-- A write of a name: nothing where its page is in a frame and has room for the record; reads alone
-- where it is in none and a frame is free; where it is in a frame and a log sector is clean at its
-- unit's home, at most one program, of a log sector, with no erase and no barrier; and what writing
-- one page out may cost in any case.
pub record AsksToWrite (n : ℕ) (change : Change) (worn_out : Bool) (old new : Pages)
    (before after : Told) : Type 0 where
  pub idle : HasRoomFor old n change → after ≡ before
  pub free : frames_in old (home_of n).unit (home_of n).page ≡ None → HasFreeFrame old
      → Spends (Costs 0 0 0 []) before after
  pub home : IsFramed old (home_of n).unit (home_of n).page → HasHomeSpot (tables_in old) (home_of n).unit
      → Spends (Costs 0 1 0 (5 ∷ [])) before after
  pub costs : Spends (ErasesAndLogs old.parts.directory new.parts.directory worn_out) before after

-- how many pages in frames have records in memory and a name that one of these sessions wrote
abbrev pub pages_to_write : Transactions → List ℕ → ℕ
pages_to_write it ss = changed_pages it.pages (written_by it.sessions ss)

-- For so many pages at most one erase each, and one more for each place that was retired; what is found
-- worn is retired; and outside the places that are erased one log sector each, and one commit sector.
pub record CommitCosts (pages : ℕ) (before after : Places) (worn_out : Bool) (added : Story)
    : Type 0 where
  pub costs : RetiringCosts before after pages (pages + 1) (3 * pages + 2) (5 ∷ 6 ∷ []) added
  pub retires : RetiresWorn before after worn_out added

-- A commit of these sessions together: nothing where they wrote nothing; where the status place has a
-- clean sector, so much for the pages in frames that are to be written, each once whichever sessions
-- wrote there; and no erase where each unit also has log sectors clean at home for its own of these.
pub record CommitAsks (it : Transactions) (ss : List ℕ) (worn_out : Bool) (new : Pages)
    (before after : Told) : Type 0 where
  pub idle : written_by it.sessions ss ≡ [] → after ≡ before
  pub costs : 0 < room_of it.pages.parts.status → Spends (CommitCosts (pages_to_write it ss)
      it.pages.parts.directory new.parts.directory worn_out) before after
  pub homes : 0 < room_of it.pages.parts.status → HasHomesFor it.pages (written_by it.sessions ss)
      → Spends (Costs 0 (pages_to_write it ss + 1) 2 (5 ∷ 6 ∷ [])) before after

-- What the numbers of sessions alone ask, once their records are written out: one commit sector at this place and
-- two barriers. The directory stays, and no place is found worn.
pub record AsksToCommit (place : ℕ) (result : Result (Unit {0}) ChipFault) (old new : Pages)
    (before after : Told) : Type 0 where
  pub directory : new.parts.directory ≡ old.parts.directory
  pub costs : Spends (ProgramsAt place 1 2 6) before after
  pub unworn : is_worn_out result ≡ false
