-- What the records of a page make of its frame.
use Rattle.std.specs.Prelude.{ℕ, ◌≡◌, ◌<◌, ◌+◌, Bool, List, slice_index, Option, None}
use Rattle.std.specs.List.{count_by}
use Rattle.std.specs.Option.{option_map}
use Rattle.ipl_base.specs.declared.limits.TheConstants.{SLOTS}
use Rattle.ipl_format.specs.Record.{Record}
use Rattle.ipl_meaning.specs.Values.{counts_for}
use Rattle.ipl_meaning.specs.Last.{last_that}
use Rattle.page_ops.specs.Pending.{Pending, Pendings}
use Rattle.page_ops.specs.Frames.{FrameView, values_in, pending_in}
use Rattle.page_ops.specs.Rebuilt.{with_records}

-- the change of a record, with its number
abbrev pub pending_of : Option Record → Option Pending
pending_of o = option_map (λ r. (r.tid, r.change)) o

-- of each slot of a page the last change there of an active number
abbrev pub last_changes : (ℕ → Bool) → ℕ → List Record → Pendings
last_changes active page records slot =
    pending_of (last_that (counts_for active page slot) records None)

-- so many more are counted on each slot as there are records on it of these numbers
abbrev pub AreCountedBySlot : (ℕ → Bool) → ℕ → List Record → List ℕ → List ℕ → Type 0
AreCountedBySlot numbers page records counts later = (slot : ℕ) → slot < SLOTS
    → slice_index later slot
    ≡ slice_index counts slot + count_by (counts_for numbers page slot) records

-- These records were taken into the frame of a page, of which nothing was pending. Those of committed
-- numbers became values, and of those of active numbers the last one on each slot is pending.
pub record AreTaken (committed active : ℕ → Bool) (page : ℕ) (records : List Record)
    (old new : FrameView) : Type 0 where
  pub values : (slot : ℕ) → slot < SLOTS
      → values_in new slot ≡ with_records committed page records (values_in old) slot
  pub pending : (slot : ℕ) → slot < SLOTS
      → pending_in new slot ≡ last_changes active page records slot
