-- When a store's memory and a chip together stand for a state.
use Rattle.std.specs.Prelude.{ℕ, ◌≡◌, ◌≤◌, ◌+◌, ◌==◌, not, Bool, List, [], ◌∷◌, ◌++◌, length, filter, All}
use Rattle.ipl_base.specs.declared.limits.TheConstants.{SESSIONS}
use Rattle.chip_trait.specs.Story.{Contents, blank}
use Rattle.chip_trait.specs.Told.{History}
use Rattle.ipl_model.specs.State.{State}
use Rattle.record_locks.specs.Held.{SessionSlots, number_of, is_among}
use Rattle.record_locks.specs.Standing.{state_of}
use Rattle.record_locks.specs.Locks.{OneWriter, FewPending, IsSized}
use Rattle.record_locks.specs.Names.{SameNames, SamePeaks}
use Rattle.ipl_meaning.specs.Chart.{Chart, chart_of}
use Rattle.ipl_meaning.specs.Layout.{Layout}
use Rattle.ipl_meaning.specs.Legible.{Legibility, of}
use Rattle.ipl_meaning.specs.Stands.{Says}
use Rattle.ipl_meaning.specs.Rests.{now, StoryRests}
use Rattle.ipl_meaning.specs.Tables.{Tables, IsCountedClean}
use Rattle.ipl_meaning.specs.Mirrors.{Mirrors, NoneIsLost}
use Rattle.ipl_meaning.specs.Agrees.{IsTidy}
use Rattle.store_laws.specs.Pending.{HasPending}
use Rattle.store_laws.specs.Room.{PagesHaveRoom}
use Rattle.store_laws.specs.PendingLaws.{AreActive}
use Rattle.store_laws.specs.Frames.{Frames, logs_of, AreFramesOf}

-- ---- sessions

-- what `Sessions` keeps: there are 32 slots at most, no name is written by two sessions, each that is written has its size, and
-- the pending names of each unit weigh at most 48
pub record LocksHold (slots : SessionSlots) : Type 0 where
  pub all : length slots ≤ SESSIONS
  pub one_writer : OneWriter slots
  pub sized : All IsSized slots
  pub few : FewPending slots

-- the same sessions are open as in the state, with the same names and the same peaks, and the locks hold
pub record AreSessionsOf (slots : SessionSlots) (state : State) : Type 0 where
  pub names : SameNames (state_of slots) state
  pub peaks : SamePeaks slots state
  pub locked : LocksHold slots

-- ---- the numbers of open sessions

-- the number is of an open session
abbrev pub is_active : Tables → ℕ → Bool
is_active t tid = is_among tid t.active

-- a session is opened under this number
abbrev pub with_active : Tables → ℕ → Tables
with_active t tid = record t { next = tid + 1; active = t.active ++ tid ∷ [] }

-- the number isn't this one
abbrev pub is_another : ℕ → ℕ → Bool
is_another tid n = not (n == tid)

-- the number is none of these
abbrev pub is_none_of : List ℕ → ℕ → Bool
is_none_of tids n = not (is_among n tids)

-- the session of this number is closed
abbrev pub without_active : Tables → ℕ → Tables
without_active t tid = record t { active = filter (is_another tid) t.active }

-- ---- all of it

-- The memory and a chart stand for all of the state but its map. The tables mirror the chart, and no place is lost; the
-- records on the chip and in memory say what the open sessions wrote, and their pages have room for it; the tables have
-- the sessions' numbers; each frame is of its page; and the sessions are the state's.
pub record Fits (places : ℕ) (c : Chart) (it : Layout) (t : Tables) (frames : Frames) (slots : SessionSlots)
    (state : State) : Type 0 where
  pub mirrors : Mirrors places c it t
  pub none_lost : NoneIsLost places t
  pub pending : HasPending it.count it (logs_of frames) (number_of slots) state
  pub filled : PagesHaveRoom it.count c it state
  pub active : AreActive (number_of slots) (is_active t)
  pub framed : AreFramesOf it.count c it (is_active t) frames
  pub sessions : AreSessionsOf slots state

-- and the chip's story rests on the records of these pages, with what is counted as clean being clean
pub record FitsStory (places : ℕ) (pages : Legibility) (h : History) (it : Layout) (t : Tables) (frames : Frames) (slots : SessionSlots)
    (state : State) : Type 0 where
  pub fits : Fits places (now h) it t frames slots state
  pub tidy : IsTidy h t
  pub rests : StoryRests places (of pages state.map) h

-- where a chip tells its contents and no story: these pages show the map, and what is counted as clean is blank
pub record FitsContents (places : ℕ) (pages : Legibility) (x : Contents) (it : Layout) (t : Tables) (frames : Frames) (slots : SessionSlots)
    (state : State) : Type 0 where
  pub fits : Fits places (chart_of x) it t frames slots state
  pub says : Says places (chart_of x) it (of pages state.map)
  pub blanks : (p s : ℕ) → IsCountedClean t p s → x p s ≡ blank
