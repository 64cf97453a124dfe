-- What the calls of a pool make of its frames.
use Rattle.std.specs.Prelude.{ℕ, ◌≡◌, ◌≤◌, ◌<◌, List, [], Some, None}
use Rattle.ipl_base.specs.declared.limits.TheConstants.{SLOTS}
use Rattle.ipl_model.specs.Peaks.{Peaks}
use Rattle.ipl_format.specs.Record.{Record}
use Rattle.slab.specs.Slab.{get, Updates}
use Rattle.page_ops.specs.Frames.{empty_frame}
use Rattle.page_ops.specs.Pending.{peak_of}
use Rattle.buffer_pool.specs.declared.pool.Buffer.{Buffer}
use Rattle.buffer_pool.specs.Pools.{PoolView, HasPage, IsAbsent, AreOnce, Changes, new_buffer, with_buffers}
use Rattle.buffer_pool.specs.Lending.{changed_at}
use Rattle.buffer_pool.specs.Laws.{SamePage}
use Rattle.store_laws.specs.Pending.{name_at}
use Rattle.store_laws.specs.Room.{PageHasRoomFor}
use Rattle.store_laws.specs.Frames.{PageFrame, with_frame_at}
use Rattle.store_laws.specs.Views.{frame_of}
use Rattle.page_frames.specs.Views.{frame_in, frames_of}
use Rattle.page_frames.specs.Changes.{PutHasRoom}

-- a page that is brought in has an empty frame
abbrev pub BringsAddAFrame : Type 0
BringsAddAFrame = (old new : PoolView) (unit page key : ℕ) → AreOnce old.buffers
    → IsAbsent old.buffers unit page → get old.buffers key ≡ None
    → Updates old.buffers new.buffers key (Some (new_buffer unit page old.clock))
    → frames_of new ≡ with_frame_at (frames_of old) unit page (Some (frame_of empty_frame []))

-- a page that is evicted has none
abbrev pub EvictionsTakeAFrame : Type 0
EvictionsTakeAFrame = (old new : PoolView) (unit page key : ℕ) → AreOnce old.buffers
    → HasPage old.buffers unit page key → Updates old.buffers new.buffers key None
    → frames_of new ≡ with_frame_at (frames_of old) unit page None

-- the buffer has the page, the frame and the records that it had
pub record KeepsFrame (a b : Buffer) : Type 0 where
  pub page : SamePage a b
  pub frame : frame_in a ≡ frame_in b

-- pins and holds, and their ends, keep all frames
abbrev pub PinsKeepFrames : Type 0
PinsKeepFrames = (old new : PoolView) (unit page key : ℕ) (change : Buffer → Buffer)
    → AreOnce old.buffers → HasPage old.buffers unit page key
    → ((b : Buffer) → KeepsFrame (change b) b) → Changes old.buffers new.buffers key change
    → frames_of new ≡ frames_of old

-- what is written through a page's frame or records that were lent
abbrev pub LoansChangeAFrame : Type 0
LoansChangeAFrame = (p : PoolView) (unit page key : ℕ) (change : Buffer → Buffer)
    → AreOnce p.buffers → (has : HasPage p.buffers unit page key)
    → SamePage (change has.buffer) has.buffer
    → frames_of (with_buffers p (changed_at p.buffers key change))
    ≡ with_frame_at (frames_of p) unit page (Some (frame_in (change has.buffer)))

-- where what is pending in a frame takes no more than these peaks, a put for which its page has room
-- by them has room there
abbrev pub PutsByPeaksHaveRoom : Type 0
PutsByPeaksHaveRoom = (peaks : Peaks) (u : ℕ) (r : Record) (f : PageFrame) (bytes : List ℕ)
    → ((slot : ℕ) → slot < SLOTS → peak_of (f.pending slot) ≤ peaks (name_at u r.page slot))
    → r.change ≡ Some bytes → PageHasRoomFor peaks u r f.values → PutHasRoom f r
