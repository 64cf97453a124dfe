-- Frames of memory as the frames of pending writes, and what the calls on them are there.
use Rattle.std.specs.Prelude.{ℕ, ◌≡◌, ◌∷◌, ◌++◌, List, [], filter}
use Rattle.ipl_format.specs.Record.{Record}
use Rattle.page_ops.specs.Frames.{FrameView, values_in, pending_in, AppliesTid, IsDropped}
use Rattle.page_ops.specs.Pending.{with_pending}
use Rattle.store_laws.specs.Pending.{is_other}
use Rattle.store_laws.specs.Frames.{PageFrame, IsWrittenFrame, IsCommittedFrame, IsAbortedFrame}

-- a frame with the records in memory of its page
abbrev pub frame_of : FrameView → List Record → PageFrame
frame_of f log = record { values = values_in f; pending = pending_in f; log = log }

-- a commit
abbrev pub AppliedFramesAreCommitted : Type 0
AppliedFramesAreCommitted = (tid : ℕ) (a b : FrameView) (log : List Record) → AppliesTid tid a b
    → IsCommittedFrame tid (frame_of a log) (frame_of b log)

-- an abort
abbrev pub DroppedFramesAreAborted : Type 0
DroppedFramesAreAborted = (tid : ℕ) (a b : FrameView) (log : List Record) → IsDropped tid a b
    → IsAbortedFrame tid (frame_of a log) (frame_of b (filter (is_other tid) log))

-- a put or a delete
abbrev pub ChangedFramesAreWritten : Type 0
ChangedFramesAreWritten = (r : Record) (a b : FrameView) (log : List Record) → b.page ≡ a.page
    → ((k : ℕ) → pending_in b k ≡ with_pending (pending_in a) r.slot (r.tid, r.change) k)
    → IsWrittenFrame r (frame_of a log) (frame_of b (log ++ r ∷ []))
