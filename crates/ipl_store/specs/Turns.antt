-- What sessions do to the memory of a store, and to its chip.
use Rattle.std.specs.Prelude.{ℕ, ◌≡◌, ◌<◌, ◌≤◌, ◌+◌, false, List, All, length, Some, IfSome, Result, Ok, IfErr, is_ok}
use Rattle.chip_trait.specs.Story.{Contents}
use Rattle.chip_trait.specs.Told.{Told}
use Rattle.ipl_base.specs.declared.fault.ChipFault.{ChipFault}
use Rattle.ipl_base.specs.Places.{home_of}
use Rattle.ipl_format.specs.Record.{Change}
use Rattle.ipl_model.specs.State.{State}
use Rattle.record_locks.specs.Held.{peaks_in, numbers_in, written_by}
use Rattle.ipl_meaning.specs.Legible.{whole}
use Rattle.ipl_meaning.specs.Chart.{chart_of}
use Rattle.ipl_meaning.specs.Layout.{Layout}
use Rattle.ipl_meaning.specs.Stands.{Says}
use Rattle.ipl_meaning.specs.Tables.{IsCountedClean}
use Rattle.unit_io.specs.Accounts.{Accounts}
use Rattle.unit_io.specs.Reads.{OfContents}
use Rattle.unit_io.specs.Steps.{Tidies}
use Rattle.place_taking.specs.Spending.{is_worn_out}
use Rattle.place_taking.specs.Wear.{TellsOfWear}
use Rattle.txn_status.specs.Status.{room_of}
use Rattle.selective_merge.specs.Faults.{FailsByChipAlone}
use Rattle.buffer_pool.specs.Holding.{KeepsPins}
use Rattle.store_laws.specs.Frames.{PageFrame}
use Rattle.store_laws.specs.Room.{overfills_at}
use Rattle.store_laws.specs.Advances.{Memory, memory_of, MemoryFits, LeadsTo}
use Rattle.store_laws.specs.Numbers.{IsOut}
use Rattle.page_frames.specs.declared.pages.Pages.{Pages}
use Rattle.page_frames.specs.Faulty.{FailsByPage, StandsEver, StandsSurely, StandsThen}
use Rattle.page_frames.specs.Pages.{tables_in, frames_in, ArePagesReady, PageCause}
use Rattle.ipl_store.specs.declared.transactions.Transactions.{Transactions}

-- the memory of a store
abbrev pub memory_in : Transactions → Memory
memory_in it = memory_of (tables_in it.pages) (frames_in it.pages) it.sessions

-- told or not: the pages are ready, and the tables have the numbers of the open sessions
pub record IsInOrder (places : ℕ) (it : Transactions) : Type 0 where
  pub ready : ArePagesReady places it.pages
  pub active : it.pages.parts.active ≡ numbers_in it.sessions

-- the records of these sessions are all on the chip, and there is a clean sector for their numbers
pub record MayAddNumbers (it : Transactions) (ss : List ℕ) : Type 0 where
  pub out : All (IsOut (frames_in it.pages)) (written_by it.sessions ss)
  pub room : 0 < room_of it.pages.parts.status

-- A put of this change has room: the page of the name is in a frame, and isn't too full for it by
-- what open sessions wrote. A delete always has.
abbrev pub MayTake : Transactions → ℕ → Change → Type 0
MayTake it n change = IfSome change (λ bytes. (f : PageFrame)
    × (frames_in it.pages (home_of n).unit (home_of n).page ≡ Some f)
    × (overfills_at (peaks_in it.sessions) n bytes f.values ≡ false))

-- Where the chip tells what it holds, and that with the memory stands for a state, the call fails
-- only where a call of the chip failed. It is `Completes` with the memory's own sessions: a put has
-- room by what these wrote.
abbrev pub CompletesFor : {T : Type 0} → Transactions → Result T ChipFault → Told → Type 0
CompletesFor it result told = OfContents told (λ x. (layout : Layout) (state : State)
    → MemoryFits told.places (chart_of x) layout (memory_in it) state
    → Says told.places (chart_of x) layout (whole state.map) → FailsByChipAlone result)

-- Where nothing is asked of what the pages say, it fails by a page that didn't read well or had no
-- room for its values, or where a call of the chip failed.
abbrev pub TellsFaultsForBy : {T : Type 0} → (Contents → Layout → ℕ → ℕ → ChipFault → Type 0)
    → Transactions → Result T ChipFault → Told → Pages → Type 0
TellsFaultsForBy Finds it result told new = OfContents told (λ x. (layout : Layout) (state : State)
    → MemoryFits told.places (chart_of x) layout (memory_in it) state
    → IfErr result (FailsByPage (Finds x layout) x layout (tables_in new)))

-- the fault is exactly what is wrong with that page over what the chip holds before the call or
-- after it
abbrev pub TellsFaultsFor : {T : Type 0} → Transactions → Result T ChipFault → Told → Pages → Told
    → Type 0
TellsFaultsFor it result before new after =
    TellsFaultsForBy (λ x layout. StandsEver x layout (tables_in new) after) it result before new

-- the same, whether the chip tells its story or not
abbrev pub TellsFaultsForSurely : {T : Type 0} → Transactions → Result T ChipFault → Told → Pages → Told
    → Type 0
TellsFaultsForSurely it result before new after =
    TellsFaultsForBy (λ x layout. StandsSurely x layout (tables_in new) after) it result before new

-- and so over what it holds after it, where nothing was written behind what failed
abbrev pub TellsFaultsForThen : {T : Type 0} → Transactions → Result T ChipFault → Told → Pages → Told
    → Type 0
TellsFaultsForThen it result before new after =
    TellsFaultsForBy (λ x layout. StandsThen (tables_in new) after) it result before new

-- A call that leads from each state that memory and chip stand for to the next one. Whatever the
-- chip tells: its events are lawful by the tables, what is retired besides was found worn, a unit
-- whose place was erased is known, the memory is in order, there are as many units and sessions, as many
-- committed numbers have room, the same pages are held, at most so many numbers were drawn, and a fault has
-- its cause.
pub record Turns {T : Type 0} (next : State → State) (most : ℕ) (old : Transactions) (before : Told)
    (result : Result T ChipFault) (new : Transactions) (after : Told) : Type 0 where
  pub leads : LeadsTo next (memory_in old) before result (memory_in new) after
  pub tidy : Tidies (tables_in old.pages) result (tables_in new.pages) before after
  pub wears : TellsOfWear (tables_in old.pages) (tables_in new.pages) (is_ok result) (is_worn_out result)
      before after
  pub order : IsInOrder before.places new
  pub units : length new.pages.parts.directory.current ≡ length old.pages.parts.directory.current
  pub sessions : length new.sessions ≡ length old.sessions
  pub numbers : new.pages.parts.status.most ≡ old.pages.parts.status.most
  pub pins : KeepsPins old.pages.pool new.pages.pool
  pub least : old.pages.parts.counter ≤ new.pages.parts.counter
  pub drawn : new.pages.parts.counter ≤ old.pages.parts.counter + most
  pub accounts : Accounts (PageCause new.pages.parts.directory) result before after

-- A call in memory alone that does, over whatever chip. There are as many sessions, as many numbers have room,
-- the directory is the same, the status has the same place, and no more sectors are counted as clean.
pub record TurnsInMemory (next : State → State) (old new : Transactions) : Type 0 where
  pub leads : (told : Told) → LeadsTo {T = Unit {0}} {E = ChipFault} next (memory_in old) told (Ok tt)
      (memory_in new) told
  pub sessions : length new.sessions ≡ length old.sessions
  pub numbers : new.pages.parts.status.most ≡ old.pages.parts.status.most
  pub directory : new.pages.parts.directory ≡ old.pages.parts.directory
  pub status : new.pages.parts.status.place ≡ old.pages.parts.status.place
  pub fewer : (p s : ℕ) → IsCountedClean (tables_in new.pages) p s → IsCountedClean (tables_in old.pages) p s
  pub order : (places : ℕ) → IsInOrder places old → IsInOrder places new
  pub pins : KeepsPins old.pages.pool new.pages.pool

-- the pages are the same, but that the tables have other numbers of open sessions
pub record IsSameButActive (old new : Pages) : Type 0 where
  pub directory : new.parts.directory ≡ old.parts.directory
  pub overflow : new.parts.overflow ≡ old.parts.overflow
  pub status : new.parts.status ≡ old.parts.status
  pub counter : new.parts.counter ≡ old.parts.counter
  pub pool : new.pool ≡ old.pool
