-- What calls on pages do, where that is several facts.
use Rattle.std.specs.Prelude.{ℕ, ◌≡◌, None, Result, OnOk}
use Rattle.chip_trait.specs.Told.{Told}
use Rattle.ipl_base.specs.declared.fault.ChipFault.{ChipFault}
use Rattle.ipl_format.specs.Record.{Record}
use Rattle.buffer_pool.specs.Uses.{IsUsedLast}
use Rattle.page_frames.specs.Changes.{MayPut}
use Rattle.page_frames.specs.declared.pages.Pages.{Pages}
use Rattle.page_frames.specs.Pages.{frames_in, IsFramed, IsCleanFrame, KeepsValues, Upholds}
use Rattle.page_frames.specs.Complete.{FailsByChip}
use Rattle.page_frames.specs.Faulty.{TellsFaultsSurely, TellsFaultsThen}

-- What each call does, however it ends: it keeps each state, at most so many numbers being drawn; and
-- over contents that stand for one it fails only where a call of the chip failed, or by a page that is
-- bad, with exactly what is wrong with that: over what the chip holds then, where it tells its story;
-- and in any case over that, or over what it held before.
pub record WorksOn {T : Type 0} (most : ℕ) (old : Pages) (before : Told) (result : Result T ChipFault)
    (new : Pages) (after : Told) : Type 0 where
  pub upholds : Upholds most old before result new after
  pub complete : FailsByChip old result before
  pub faults : TellsFaultsThen old result before new after
  pub surely : TellsFaultsSurely old result before new after

-- A page that was in no frame: done, it is in one with no records in memory, and is the page used last.
pub record ComesFresh {T : Type 0} (u page : ℕ) (result : Result T ChipFault) (new : Pages) : Type 0 where
  pub fresh : OnOk result (IsCleanFrame new u page)
  pub used : OnOk result (IsUsedLast new.pool u page)

-- Done, the page is in a frame, with no records in memory where it was in none, and is the page used last.
pub record ComesToFrame {T : Type 0} (u page : ℕ) (result : Result T ChipFault) (old new : Pages)
    : Type 0 where
  pub there : OnOk result (IsFramed new u page)
  pub fresh : frames_in old u page ≡ None → OnOk result (IsCleanFrame new u page)
  pub used : OnOk result (IsUsedLast new.pool u page)

-- Done, the record fits behind its page's records in memory, and the page has its values still and is the
-- page used last.
pub record PreparesPage {T : Type 0} (u : ℕ) (r : Record) (result : Result T ChipFault) (old new : Pages)
    : Type 0 where
  pub room : OnOk result (MayPut (frames_in new) u r)
  pub values : OnOk result (KeepsValues u r.page old new)
  pub used : OnOk result (IsUsedLast new.pool u r.page)
