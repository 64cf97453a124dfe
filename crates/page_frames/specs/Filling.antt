-- What it leaves to load a page into the frame that it was given.
use Rattle.std.specs.Prelude.{ℕ, ◌≡◌, [], Result, OnOk}
use Rattle.chip_trait.specs.Told.{Told}
use Rattle.ipl_base.specs.declared.fault.ChipFault.{ChipFault}
use Rattle.buffer_pool.specs.Pools.{PoolView}
use Rattle.buffer_pool.specs.Uses.{CountsNoOther, IsUsedLast}
use Rattle.selective_merge.specs.Known.{Suits}
use Rattle.store_laws.specs.Frames.{logs_of}
use Rattle.page_frames.specs.declared.pages.Pages.{Pages}
use Rattle.page_frames.specs.Pages.{tables_in, frames_in, IsPageOf, BringsPage}
use Rattle.page_frames.specs.Frames.{IsUnheld}
use Rattle.page_frames.specs.Faulty.{FailsAsPage, FaultStands, TellsFaultsBy}
use Rattle.page_frames.specs.Works.{WorksOn}

-- the tables with another pool
abbrev pub with_pool : Pages → PoolView → Pages
with_pool pages pool = record { parts = pages.parts; pool = pool }

-- The page has a frame of its own to be loaded into: it is one of a unit that the tables know, isn't
-- held, and has no records in memory.
pub record MayLoad (places : ℕ) (pages : Pages) (u page : ℕ) : Type 0 where
  pub suits : Suits places (tables_in pages)
  pub page_of : IsPageOf pages u page
  pub unheld : IsUnheld pages.pool u page
  pub empty : logs_of (frames_in pages) u page ≡ []

-- From before the page was given its frame: it is in the frame, as the chip has it, or where the call
-- failed in none.
pub record Fills {T : Type 0} (u page : ℕ) (old : Pages) (before : Told) (result : Result T ChipFault)
    (new : Pages) (after : Told) : Type 0 where
  pub works : WorksOn 0 old before result new after
  pub exact : FailsAsPage (tables_in old) u page result before
  pub stands : TellsFaultsBy (λ x it. FaultStands (tables_in new) after) old result before new
  pub brings : BringsPage result u page (frames_in old) (frames_in new)
  pub others : CountsNoOther u page old.pool new.pool
  pub used : OnOk result (IsUsedLast new.pool u page)
