-- What the frame of a page has: its committed values, apart from them the pending changes, and its log in memory.
use Rattle.std.specs.Prelude.{ℕ, ◌≡◌, ◌<◌, ◌++◌, ◌∷◌, ◌==◌, ◌&&◌, filter, List, [], Option, Some, None, if◌then◌else◌, Bool}
use Rattle.std.specs.Option.{option_map, option_map_or}
use Rattle.ipl_base.specs.declared.limits.TheConstants.{PAGES, SLOTS}
use Rattle.ipl_format.specs.Record.{Record}
use Rattle.ipl_meaning.specs.Chart.{Chart}
use Rattle.ipl_meaning.specs.Values.{Values, counts_for}
use Rattle.ipl_meaning.specs.Layout.{Layout}
use Rattle.ipl_meaning.specs.Last.{last_that}
use Rattle.ipl_meaning.specs.Stands.{Shows}
use Rattle.page_ops.specs.Pending.{Pending, Pendings, seen_by, without_pending, with_pending}
use Rattle.store_laws.specs.Pending.{Logs, SessionNumbers, is_other, with_number, records_at}

-- the change of a record, with its number
abbrev pub pending_of : Option Record → Option Pending
pending_of o = option_map (λ r. (r.tid, r.change)) o

-- the frame of a page
pub record PageFrame : Type 0 where
  pub values : Values
  pub pending : Pendings
  -- the records that aren't on the chip yet
  pub log : List Record

-- by unit and page
abbrev pub Frames : Type 0
Frames = ℕ → ℕ → Option PageFrame

-- the records in memory are those of the frames
abbrev pub logs_of : Frames → Logs
logs_of frames u page = option_map_or (λ f. f.log) (frames u page) []

-- the page has this frame now, or none
abbrev pub with_frame_at : Frames → ℕ → ℕ → Option PageFrame → Frames
with_frame_at frames u page o v q = if (v == u) && (q == page) then o else frames v q

-- the frame with other records in memory
abbrev pub with_frame_log : PageFrame → List Record → PageFrame
with_frame_log f log = record { values = f.values; pending = f.pending; log = log }

-- ---- a frame and its page

-- these are the values that the page shows; and in each slot the last change there of a session that is open
pub record IsFrameOf (c : Chart) (it : Layout) (logs : Logs) (active : ℕ → Bool) (u page : ℕ) (values : Values)
    (pending : Pendings) : Type 0 where
  pub shows : Shows c it.committed u (it.units u) page values
  pub changes : (slot : ℕ) → slot < SLOTS
      → pending slot ≡ pending_of (last_that (counts_for active page slot) (records_at it logs u page) None)

-- each frame is of its page, which is one of the chip's
pub record AreFramesOf (units : ℕ) (c : Chart) (it : Layout) (active : ℕ → Bool) (frames : Frames) : Type 0 where
  pub within : (u page : ℕ) (f : PageFrame) → frames u page ≡ Some f → (u < units) × (page < PAGES)
  pub each : (u page : ℕ) (f : PageFrame) → frames u page ≡ Some f
      → IsFrameOf c it (logs_of frames) active u page f.values f.pending

-- ---- what a step makes of a frame

-- a write came to it
pub record IsWrittenFrame (r : Record) (a b : PageFrame) : Type 0 where
  pub values : (slot : ℕ) → slot < SLOTS → b.values slot ≡ a.values slot
  pub pending : (slot : ℕ) → slot < SLOTS → b.pending slot ≡ with_pending a.pending r.slot (r.tid, r.change) slot
  pub log : b.log ≡ a.log ++ r ∷ []

-- a session's changes became values
pub record IsCommittedFrame (tid : ℕ) (a b : PageFrame) : Type 0 where
  pub values : (slot : ℕ) → slot < SLOTS
      → b.values slot ≡ seen_by tid (a.values slot) (a.pending slot)
  pub pending : (slot : ℕ) → slot < SLOTS → b.pending slot ≡ without_pending tid (a.pending slot)
  pub log : b.log ≡ a.log

-- or were dropped
pub record IsAbortedFrame (tid : ℕ) (a b : PageFrame) : Type 0 where
  pub values : (slot : ℕ) → slot < SLOTS → b.values slot ≡ a.values slot
  pub pending : (slot : ℕ) → slot < SLOTS → b.pending slot ≡ without_pending tid (a.pending slot)
  pub log : b.log ≡ filter (is_other tid) a.log

-- a page has a frame before and after, which changes so, or has none
abbrev pub ChangesSo : (PageFrame → PageFrame → Type 0) → Option PageFrame → Option PageFrame → Type 0
ChangesSo R None None = Unit {0}
ChangesSo R None (Some b) = ⊥
ChangesSo R (Some a) None = ⊥
ChangesSo R (Some a) (Some b) = R a b

-- each page's frame does
abbrev pub EachFrameChanges : (PageFrame → PageFrame → Type 0) → Frames → Frames → Type 0
EachFrameChanges R old new = (u page : ℕ) → ChangesSo R (old u page) (new u page)

-- each changes as at the commits of these sessions, one session after the other
abbrev pub CommitInTurn : SessionNumbers → List ℕ → Frames → Frames → Type 0
CommitInTurn numbers [] old new = new ≡ old
CommitInTurn numbers (s ∷ ss) old new = (between : Frames)
    × ((tid : ℕ) → numbers s ≡ Some tid → EachFrameChanges (IsCommittedFrame tid) old between)
    × CommitInTurn (with_number numbers s None) ss between new
