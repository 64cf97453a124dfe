-- Frames of which a call changes those of the names that a session wrote.
use Rattle.std.specs.Prelude.{ℕ, ◌≡◌, ◌⊎◌, List, [], ◌∷◌, Some, Contains}
use Rattle.ipl_base.specs.Places.{home_of}
use Rattle.ipl_model.specs.State.{State}
use Rattle.record_locks.specs.Held.{SessionSlots, number_of, written_of}
use Rattle.ipl_meaning.specs.Chart.{Chart}
use Rattle.ipl_meaning.specs.Layout.{Layout}
use Rattle.store_laws.specs.Frames.{PageFrame, Frames, IsCommittedFrame, IsAbortedFrame, ChangesSo, EachFrameChanges}
use Rattle.store_laws.specs.Advances.{Memory, MemoryFits}

-- a frame is as it was, or changed so
abbrev pub IsSameOr : (PageFrame → PageFrame → Type 0) → PageFrame → PageFrame → Type 0
IsSameOr R a b = (b ≡ a) ⊎ R a b

-- the page of the name, where it is in a frame, changed so
abbrev pub ChangesPageOf : (PageFrame → PageFrame → Type 0) → Frames → Frames → ℕ → Type 0
ChangesPageOf R old new n = ChangesSo R (old (home_of n).unit (home_of n).page)
    (new (home_of n).unit (home_of n).page)

-- Each page's frame is as it was, or changed so; and the pages of these names changed so.
pub record NamedFramesChange (R : PageFrame → PageFrame → Type 0) (names : List ℕ) (old new : Frames)
    : Type 0 where
  pub each : EachFrameChanges (IsSameOr R) old new
  pub named : (n : ℕ) → Contains names n → ChangesPageOf R old new n

-- the frames of the names that an open session wrote change as at its commit
abbrev pub AppliesSession : SessionSlots → ℕ → Frames → Frames → Type 0
AppliesSession slots s old new = (tid : ℕ) → number_of slots s ≡ Some tid
    → NamedFramesChange (IsCommittedFrame tid) (written_of slots s) old new

-- so those of several sessions, one session after the other
abbrev pub ApplyInTurn : SessionSlots → List ℕ → Frames → Frames → Type 0
ApplyInTurn slots [] old new = new ≡ old
ApplyInTurn slots (s ∷ ss) old new = (between : Frames) × AppliesSession slots s old between
    × ApplyInTurn slots ss between new

-- where the frames of the names change that a session wrote, as at its abort, each frame does
abbrev pub NamedAbortsSuffice : Type 0
NamedAbortsSuffice = (places : ℕ) (c : Chart) (it : Layout) (memory : Memory) (later : Frames)
    (state : State) (s tid : ℕ)
    → MemoryFits places c it memory state → number_of memory.slots s ≡ Some tid
    → NamedFramesChange (IsAbortedFrame tid) (written_of memory.slots s) memory.frames later
    → EachFrameChanges (IsAbortedFrame tid) memory.frames later
