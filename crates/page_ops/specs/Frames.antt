-- What a frame holds of a page: the committed values, and apart from them the pending changes.
use Rattle.std.specs.Prelude.{ℕ, ◌≡◌, ◌<◌, ◌≤◌, List, [], ◌∷◌, Option, Some, None, length, slice_index_or, slice_set, replicate}
use Rattle.ipl_base.specs.declared.limits.TheConstants.{PAGE_LEN, SLOTS, VERSION}
use Rattle.ipl_format.specs.Page.{Slots, IsPage, empty_page, value_in}
use Rattle.ipl_format.specs.Record.{Record}
use Rattle.ipl_meaning.specs.Values.{Values}
use Rattle.page_ops.specs.Pending.{Pending, Pendings, fill_by, seen_by, without_pending}

-- the page after a record on it: the record's slot has the record's value or none
abbrev pub with_record : Slots → Record → Slots
with_record page r = slice_set page r.slot r.change

-- the pending change of a slot: its number, where there is one, and the value that stands for the
-- slot
abbrev pub pending_of : Option ℕ → Option (List ℕ) → Option Pending
pending_of None value = None
pending_of (Some tid) value = Some (tid, value)

-- slot by slot
unfoldable pub pendings_of : List (Option ℕ) → Slots → List (Option Pending)
pendings_of [] values = []
pendings_of (n ∷ numbers) [] = pending_of n None ∷ pendings_of numbers []
pendings_of (n ∷ numbers) (v ∷ values) = pending_of n v ∷ pendings_of numbers values

-- 64 numbers, and only slots with one have a value
pub record AreOfPending (numbers : List (Option ℕ)) (values : Slots) : Type 0 where
  pub count : length numbers ≡ SLOTS
  pub tidy : (slot : ℕ) → slice_index_or numbers slot None ≡ None → value_in values slot ≡ None

-- the committed page; and for each of its 64 slots the pending change, if there is one
pub record FrameView : Type 0 where
  pub page : Slots
  pub pending : List (Option Pending)

-- the committed value of a slot
abbrev pub values_in : FrameView → Values
values_in f slot = value_in f.page slot

-- the pending change of a slot
abbrev pub pending_in : FrameView → Pendings
pending_in f slot = slice_index_or f.pending slot None

-- what the page may come to take, whichever pending changes become values
abbrev pub frame_fill : FrameView → ℕ
frame_fill f = fill_by (values_in f) (pending_in f)

-- that is within the text of a page, where the committed one is a page, as it always is
abbrev pub IsRoomy : FrameView → Type 0
IsRoomy f = IsPage VERSION f.page → frame_fill f ≤ PAGE_LEN

-- the parts of a frame: numbers and values that belong together, and room for all
pub record IsFrame (page : Slots) (numbers : List (Option ℕ)) (values : Slots) : Type 0 where
  pub own : AreOfPending numbers values
  pub room : IsRoomy (record { page = page; pending = pendings_of numbers values })

-- no slot has a pending change
abbrev pub HasNonePending : FrameView → Type 0
HasNonePending f = (slot : ℕ) → slot < SLOTS → pending_in f slot ≡ None

-- an empty page, of which nothing is pending
abbrev pub empty_frame : FrameView
empty_frame = record { page = empty_page; pending = replicate SLOTS None }

-- the frame with this page as the committed one
abbrev pub with_page : FrameView → Slots → FrameView
with_page f page = record f { page = page }

-- the pending changes of this number became values, and all else is as it was
pub record AppliesTid (tid : ℕ) (old new : FrameView) : Type 0 where
  pub values : (slot : ℕ) → slot < SLOTS
      → values_in new slot ≡ seen_by tid (values_in old slot) (pending_in old slot)
  pub pending : (slot : ℕ) → slot < SLOTS
      → pending_in new slot ≡ without_pending tid (pending_in old slot)

-- the pending changes of this number were dropped, and all else is as it was
pub record IsDropped (tid : ℕ) (old new : FrameView) : Type 0 where
  pub page : new.page ≡ old.page
  pub pending : (slot : ℕ) → slot < SLOTS
      → pending_in new slot ≡ without_pending tid (pending_in old slot)
