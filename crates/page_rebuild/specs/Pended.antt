-- Pending changes that are set, part by part: of the records on a slot only the last one.
use Rattle.std.specs.Prelude.{ℕ, ◌≡◌, ◌<◌, Bool, List, ◌++◌, None, if◌then◌else◌}
use Rattle.std.specs.List.{list_any}
use Rattle.ipl_base.specs.declared.limits.TheConstants.{PAGE_LEN, SLOTS}
use Rattle.ipl_format.specs.Page.{Slots, value_in}
use Rattle.ipl_format.specs.Record.{Record}
use Rattle.ipl_meaning.specs.Values.{counts_for}
use Rattle.page_ops.specs.Pending.{Pendings, fill_by}
use Rattle.page_ops.specs.Frames.{FrameView, pending_in}
use Rattle.page_ops.specs.Rebuilt.{AreComing}
use Rattle.page_rebuild.specs.Parts.{ComeNext, ArePassedOn}
use Rattle.page_rebuild.specs.Taken.{last_changes}

-- So far they are set: a slot for which a record is still to come has nothing pending, each other has
-- its last change. Of all these records the rest is to come.
abbrev pub AreSetSoFar : (ℕ → Bool) → ℕ → List Record → List Record → Pendings → Type 0
AreSetSoFar active page all rest pending = (slot : ℕ) → slot < SLOTS
    → pending slot ≡ (if list_any (counts_for active page slot) rest then None
    else last_changes active page all slot)

-- So far they are set in the frame of this committed page, and so many records are to come on each
-- slot.
pub record IsSetting (active : ℕ → Bool) (page : ℕ) (all rest : List Record) (held : Slots)
    (counts : List ℕ) (now : FrameView) : Type 0 where
  pub done : List Record
  pub parts : all ≡ done ++ rest
  pub coming : AreComing active page rest counts
  pub set : AreSetSoFar active page all rest (pending_in now)
  pub same : now.page ≡ held

-- the page may come to take more than it has, with the last changes of all these records
abbrev pub IsTooFull : (ℕ → Bool) → ℕ → List Record → Slots → Type 0
IsTooFull active page all held = PAGE_LEN < fill_by (value_in held) (last_changes active page all)

-- of those that are set these records come next
abbrev pub AreToSet : (ℕ → Bool) → ℕ → List Record → List ℕ → FrameView → Type 0
AreToSet active page next counts now = ComeNext (IsSetting active page) next counts now

-- These records were passed: they are set so far; or a page hasn't room for all.
abbrev pub AreSet : (ℕ → Bool) → ℕ → List Record → List ℕ → FrameView → List ℕ → FrameView → Bool
    → Type 0
AreSet active page passed counts now later new room =
    ArePassedOn (IsSetting active page) (IsTooFull active page) passed counts now later new room
