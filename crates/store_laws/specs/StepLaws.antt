-- What each step of a store keeps: the memory and the chip stand for the state after it.
use Rattle.std.specs.Prelude.{ℕ, ◌≡◌, ◌<◌, ◌≤◌, Bool, false, List, [], length, Some, None, All, Contains}
use Rattle.ipl_base.specs.declared.limits.TheConstants.{PAGES, VERSION}
use Rattle.chip_trait.specs.Told.{History}
use Rattle.ipl_base.specs.Sizes.{size_in_page}
use Rattle.ipl_model.specs.State.{Map, State, at_rest}
use Rattle.ipl_model.specs.Refusals.{is_twice}
use Rattle.ipl_model.specs.Operations as rules
use Rattle.record_locks.specs.Held.{SessionSlots, number_of, numbers_in, writer_numbers, peaks_in, after_begin, after_share, after_write, after_end, after_batch}
use Rattle.ipl_format.specs.Record.{Record, IsRecord}
use Rattle.ipl_meaning.specs.Chart.{Chart}
use Rattle.ipl_meaning.specs.Legible.{every, whole}
use Rattle.ipl_meaning.specs.Layout.{Entry, Shape, Layout, records_of}
use Rattle.ipl_meaning.specs.Last.{carried}
use Rattle.ipl_meaning.specs.Rests.{StoryRests}
use Rattle.ipl_meaning.specs.Steps.{KeepsPages, KeepsNumbers, with_unit, with_log, with_committed}
use Rattle.ipl_meaning.specs.Tables.{Tables}
use Rattle.ipl_meaning.specs.Mirrors.{Mirrors, NoneIsLost}
use Rattle.ipl_meaning.specs.Agrees.{Agrees}
use Rattle.store_laws.specs.Pending.{name_at, IsWrittenOut}
use Rattle.store_laws.specs.PendingLaws.{NumbersJoin, IsSameOrMerged}
use Rattle.store_laws.specs.Room.{PageHasRoomFor}
use Rattle.store_laws.specs.Frames.{PageFrame, Frames, logs_of, with_frame_at, with_frame_log, IsFrameOf, IsWrittenFrame, IsAbortedFrame, EachFrameChanges, CommitInTurn}
use Rattle.store_laws.specs.Fits.{LocksHold, AreSessionsOf, is_active, with_active, without_active, Fits, FitsStory}

-- ---- operations in memory

-- a session is opened, under a number that the counter gave
abbrev pub BeginsFit : Type 0
BeginsFit =
    (places : ℕ) (c : Chart) (it : Layout) (t : Tables) (frames : Frames) (slots : SessionSlots) (state : State) (s tid : ℕ)
    → Fits places c it t frames slots state → s < length slots → number_of slots s ≡ None → t.next ≤ tid
    → LocksHold (after_begin slots s tid)
    → Fits places c it (with_active t tid) frames (after_begin slots s tid) (rules.after_begin state s)

-- a session shares a name
abbrev pub SharesFit : Type 0
SharesFit =
    (places : ℕ) (c : Chart) (it : Layout) (t : Tables) (frames : Frames) (slots : SessionSlots) (state : State) (s n : ℕ)
    → Fits places c it t frames slots state → s < length slots → LocksHold (after_share slots s n)
    → Fits places c it t frames (after_share slots s n) (rules.after_share state s n)

-- the sessions, once a record's change is written
abbrev pub after_record : SessionSlots → ℕ → ℕ → Record → SessionSlots
after_record slots s u r = after_write slots s (name_at u r.page r.slot) (size_in_page r.change)

-- a put or a delete: its record stands behind those of its page, which has room for it by what its frame shows
abbrev pub WritesFit : Type 0
WritesFit =
    (places : ℕ) (c : Chart) (it : Layout) (t : Tables) (frames : Frames) (slots : SessionSlots) (state : State) (s u : ℕ)
    (r : Record) (f g : PageFrame)
    → Fits places c it t frames slots state → s < length slots → number_of slots s ≡ Some r.tid → u < it.count
    → IsRecord VERSION r → frames u r.page ≡ Some f → IsWrittenFrame r f g
    → PageHasRoomFor (peaks_in slots) u r f.values → LocksHold (after_record slots s u r)
    → Fits places c it t (with_frame_at frames u r.page (Some g)) (after_record slots s u r)
    (rules.after_write state s (name_at u r.page r.slot, r.change))

-- a session is aborted: its changes are dropped from all frames
abbrev pub AbortsFit : Type 0
AbortsFit =
    (places : ℕ) (c : Chart) (it : Layout) (t : Tables) (frames after : Frames) (slots : SessionSlots) (state : State)
    (s tid : ℕ)
    → Fits places c it t frames slots state → s < length slots → number_of slots s ≡ Some tid
    → EachFrameChanges (IsAbortedFrame tid) frames after → LocksHold (after_end slots s)
    → Fits places c it (without_active t tid) after (after_end slots s) (rules.after_abort state s)

-- the tables have the sessions' numbers in the order of their slots
abbrev pub SessionNumbersFit : Type 0
SessionNumbersFit =
    (places : ℕ) (c : Chart) (it : Layout) (t : Tables) (frames : Frames) (slots : SessionSlots) (state : State)
    → Fits places c it t frames slots state
    → Fits places c it (record t { active = numbers_in slots }) frames slots state

-- a page is brought into a frame
abbrev pub LoadsFit : Type 0
LoadsFit =
    (places : ℕ) (c : Chart) (it : Layout) (t : Tables) (frames : Frames) (slots : SessionSlots) (state : State) (u page : ℕ)
    (f : PageFrame)
    → Fits places c it t frames slots state → u < it.count → page < PAGES → frames u page ≡ None → f.log ≡ []
    → IsFrameOf c it (logs_of frames) (is_active t) u page f.values f.pending
    → Fits places c it t (with_frame_at frames u page (Some f)) slots state

-- a page with no records in memory leaves its frame
abbrev pub EvictionsFit : Type 0
EvictionsFit =
    (places : ℕ) (c : Chart) (it : Layout) (t : Tables) (frames : Frames) (slots : SessionSlots) (state : State) (u page : ℕ)
    (f : PageFrame)
    → Fits places c it t frames slots state → frames u page ≡ Some f → f.log ≡ []
    → Fits places c it t (with_frame_at frames u page None) slots state

-- a chip is opened, at the start or again: there is no session and no frame
abbrev pub OpeningsFit : Type 0
OpeningsFit =
    (places : ℕ) (c : Chart) (it : Layout) (t : Tables) (slots : SessionSlots) (m : Map)
    → Mirrors places c it t → NoneIsLost places t → t.active ≡ [] → ((s : ℕ) → number_of slots s ≡ None)
    → AreSessionsOf slots (at_rest m) → Fits places c it t (λ u page. None) slots (at_rest m)

-- ---- steps on the chip

-- a page's records in memory are written to a log sector
abbrev pub LogSectorsFit : Type 0
LogSectorsFit =
    (places : ℕ) (c y : Chart) (it : Layout) (t after : Tables) (frames : Frames) (slots : SessionSlots) (state : State)
    (u page : ℕ) (f : PageFrame) (e : Entry)
    → Fits places c it t frames slots state → frames u page ≡ Some f → e.records ≡ f.log
    → Mirrors places y (with_log it u e) after → NoneIsLost places after → after.active ≡ t.active
    → KeepsPages places c it y (with_log it u e)
    → Fits places y (with_log it u e) after (with_frame_at frames u page (Some (with_frame_log f []))) slots state

-- a unit is merged
abbrev pub MergesFit : Type 0
MergesFit =
    (places : ℕ) (c y : Chart) (it : Layout) (t after : Tables) (frames : Frames) (slots : SessionSlots) (state : State)
    (u : ℕ) (fresh : Shape)
    → Fits places c it t frames slots state
    → records_of fresh.log ≡ carried (is_active t) (records_of (it.units u).log)
    → Mirrors places y (with_unit it u fresh) after → NoneIsLost places after → after.active ≡ t.active
    → KeepsPages places c it y (with_unit it u fresh)
    → Fits places y (with_unit it u fresh) after frames slots state

-- any step that changes no unit's log: of the status, of an overflow place, of a place that is no one's
abbrev pub OtherStepsFit : Type 0
OtherStepsFit =
    (places : ℕ) (c y : Chart) (it new : Layout) (t after : Tables) (frames : Frames) (slots : SessionSlots) (state : State)
    → Fits places c it t frames slots state → new.count ≡ it.count
    → ((u : ℕ) → u < it.count → (new.units u).log ≡ (it.units u).log) → KeepsNumbers it new.committed
    → Mirrors places y new after → NoneIsLost places after → after.active ≡ t.active → KeepsPages places c it y new
    → Fits places y new after frames slots state

-- Units are merged one after another, and the status moves, which keeps the committed numbers of the records that are
-- left. Where the story rests on the state's map still, and the tables agree, all fits still.
abbrev pub RenewalsFit : Type 0
RenewalsFit =
    (places : ℕ) (h k : History) (it new : Layout) (t after : Tables) (frames : Frames) (slots : SessionSlots) (state : State)
    → FitsStory places every h it t frames slots state → new.count ≡ it.count
    → ((u : ℕ) → u < it.count
    → IsSameOrMerged (is_active t) (it.units u) (new.units u))
    → ((u : ℕ) → u < it.count
    → All (λ r. new.committed r.tid ≡ it.committed r.tid) (records_of (new.units u).log))
    → StoryRests places (whole state.map) k → Agrees places k new after → NoneIsLost places after → after.active ≡ t.active
    → FitsStory places every k new after frames slots state

-- these sessions are open, and none is named twice
pub record AreOpen (slots : SessionSlots) (ss : List ℕ) : Type 0 where
  pub within : (s : ℕ) → Contains ss s → s < length slots
  pub number : (s : ℕ) → Contains ss s → (tid : ℕ) × (number_of slots s ≡ Some tid)
  pub once : (s : ℕ) → Contains ss s → is_twice ss s ≡ false

-- Sessions are committed together, none of their records being in memory: the numbers of those that wrote something are
-- committed. The tables have then the numbers of the sessions that are open still.
abbrev pub BatchesFit : Type 0
BatchesFit =
    (places : ℕ) (c y : Chart) (it : Layout) (t later : Tables) (frames after : Frames) (slots : SessionSlots) (state : State)
    (ss : List ℕ) (committed : ℕ → Bool)
    → Fits places c it t frames slots state → AreOpen slots ss
    → ((s tid : ℕ) → Contains ss s → number_of slots s ≡ Some tid → IsWrittenOut (logs_of frames) tid)
    → NumbersJoin it.committed (writer_numbers slots ss) committed
    → CommitInTurn (number_of slots) ss frames after → LocksHold (after_batch slots ss)
    → Mirrors places y (with_committed it committed) later → t.next ≤ later.next → NoneIsLost places later
    → KeepsPages places c (with_committed it committed) y (with_committed it committed)
    → Fits places y (with_committed it committed) (record later { active = numbers_in (after_batch slots ss) }) after
    (after_batch slots ss) (rules.after_batch state ss)
