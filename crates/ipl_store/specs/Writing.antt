-- Writes of names: when one may be done, why it fails, and where it leaves the page.
use Rattle.std.specs.Prelude.{ℕ, ◌≡◌, ◌<◌, ◌*◌, length, None, Result}
use Rattle.chip_trait.specs.Told.{Told}
use Rattle.ipl_base.specs.declared.fault.ChipFault.{ChipFault}
use Rattle.ipl_base.specs.Places.{home_of}
use Rattle.ipl_base.specs.Sizes.{size_in_page}
use Rattle.ipl_format.specs.Record.{Change}
use Rattle.record_locks.specs.Locks.{refuses_write}
use Rattle.page_frames.specs.declared.pages.Pages.{Pages}
use Rattle.page_frames.specs.Faulty.{FailsAsPage}
use Rattle.page_frames.specs.Pages.{tables_in, frames_in, HasFreeFrame}
use Rattle.ipl_store.specs.declared.transactions.Transactions.{Transactions}
use Rattle.ipl_store.specs.Turns.{CompletesFor, MayTake, TellsFaultsForSurely, TellsFaultsForThen}

-- The session may write the name so: there is such a session, and the name is one of the chip's; no lock keeps
-- it from it, and a put has room.
pub record MayWrite (it : Transactions) (s n : ℕ) (change : Change) : Type 0 where
  pub session : s < length it.sessions
  pub name : n < 960 * length it.pages.parts.directory.current
  pub unrefused : refuses_write it.sessions s n (size_in_page change) ≡ None
  pub room : MayTake it n change

-- Why a write of the name fails, over contents that with the memory stand for a state: only where a
-- call of the chip failed; or where nothing is asked of what the pages say, by a page that is bad,
-- with exactly what is wrong with that. Where the page of the name is in no frame and a frame is
-- free, it is that page.
pub record FailsAsWrite (it : Transactions) (n : ℕ) (result : Result (Unit {0}) ChipFault) (told : Told)
    (new : Pages) (after : Told) : Type 0 where
  pub complete : CompletesFor it result told
  pub faults : TellsFaultsForThen it result told new after
  pub surely : TellsFaultsForSurely it result told new after
  pub exact : frames_in it.pages (home_of n).unit (home_of n).page ≡ None → HasFreeFrame it.pages
      → FailsAsPage (tables_in it.pages) (home_of n).unit (home_of n).page result told
