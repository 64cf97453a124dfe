-- How what calls of a store leave is joined.
use Rattle.std.specs.Prelude.{ℕ, ◌≡◌, ◌<◌, [], List, length, Option, Some, None, Result, Ok, Err, All, is_ok}
use Rattle.ipl_base.specs.declared.limits.TheConstants.{PAGES, SLOTS}
use Rattle.chip_trait.specs.Told.{History, Told, Counts}
use Rattle.ipl_base.specs.Places.{home_of}
use Rattle.ipl_base.specs.declared.fault.ChipFault.{ChipFault}
use Rattle.ipl_model.specs.Peaks.{overfills}
use Rattle.ipl_model.specs.State.{Map, State, at_rest}
use Rattle.ipl_model.specs.Operations.{after_batch, after_restart}
use Rattle.ipl_model.specs.declared.reply.Reply.{Reply}
use Rattle.ipl_format.specs.Record.{Record}
use Rattle.record_locks.specs.Held.{SessionSlots, peaks_in, number_of, written_of, written_by, writer_numbers}
use Rattle.record_locks.specs.Held.{after_batch as slots_after}
use Rattle.ipl_meaning.specs.Chart.{Chart, chart_of}
use Rattle.ipl_meaning.specs.Layout.{Entry, Layout, Laid}
use Rattle.ipl_meaning.specs.Legible.{Legibility, Legible, of}
use Rattle.ipl_meaning.specs.Rests.{now, StoryRests}
use Rattle.ipl_meaning.specs.Tables.{Tables, IsCountedClean}
use Rattle.ipl_meaning.specs.Mirrors.{Mirrors, NoneIsLost}
use Rattle.ipl_meaning.specs.Stands.{Shows, page_in}
use Rattle.ipl_meaning.specs.Steps.{KeepsPages, with_log}
use Rattle.ipl_meaning.specs.Agrees.{Agrees}
use Rattle.unit_io.specs.Charts.{Charts}
use Rattle.unit_io.specs.Leads.{IsSteady, IsStopped}
use Rattle.unit_io.specs.Reads.{OfContents}
use Rattle.unit_io.specs.ReadsAt.{Anywhere, ReadsAt}
use Rattle.unit_io.specs.Steps.{Settled}
use Rattle.unit_io.specs.StepLaws.{Preserves}
use Rattle.store_laws.specs.Pending.{IsWrittenOut}
use Rattle.store_laws.specs.Frames.{PageFrame, Frames, logs_of, with_frame_at, with_frame_log, IsFrameOf}
use Rattle.store_laws.specs.FrameLaws.{TellsSlot}
use Rattle.store_laws.specs.Room.{overfills_at}
use Rattle.store_laws.specs.Fits.{LocksHold, AreSessionsOf, is_active, Fits, FitsStory}
use Rattle.store_trait.specs.declared.fault.Fault.{Fault}
use Rattle.store_laws.specs.Advances.{FitsOn, TurnsTables, Memory, memory_of, MemoryFits, KeepsState, LeadsTo}
use Rattle.store_laws.specs.NamedFrames.{ApplyInTurn}
use Rattle.store_laws.specs.Numbers.{IsOut, added_to, AddsNumbers, AddsNumbersInSteps}
use Rattle.store_laws.specs.Refusals.{AreOpenSessions}

-- ---- calls that keep each state

-- nothing done
abbrev pub NothingKeepsStates : Type 0
NothingKeepsStates = (t : Tables) (frames : Frames) (old : Told)
    → KeepsState {T = Unit {0}} {E = ChipFault} t frames old (Ok tt) t frames old

-- one call that was done, and then another: loops are such
abbrev pub KeepersAreJoined : Type 0
KeepersAreJoined = (t between after : Tables) (frames middle later : Frames)
    (result : Result (Unit {0}) ChipFault) (old mid new : Told)
    → Counts old mid
    → KeepsState {T = Unit {0}} {E = ChipFault} t frames old (Ok tt) between middle mid
    → KeepsState between middle mid result after later new
    → KeepsState t frames old result after later new

-- one that failed, where nothing else is done then, whatever it would have answered
abbrev pub FailedKeepersKeep : Type 0
FailedKeepersKeep = (t after : Tables) (frames later : Frames) (e f : ChipFault) (old new : Told)
    → KeepsState {T = ℕ} t frames old (Err e) after later new
    → KeepsState {T = Unit {0}} t frames old (Err f) after later new

-- reads that change nothing in memory, done or not
abbrev pub ReadsKeepStates : Type 0
ReadsKeepStates = (t : Tables) (frames : Frames) (result : Result (Unit {0}) ChipFault)
    (old new : Told) → ReadsAt Anywhere old new → KeepsState t frames old result t frames new

-- a page that was read into a frame, where it was in none
abbrev pub LoadsKeepStates : Type 0
LoadsKeepStates = (t : Tables) (frames : Frames) (u page : ℕ) (f : PageFrame) (old new : Told)
    → ReadsAt Anywhere old new → u < length t.places.current → page < PAGES
    → frames u page ≡ None → f.log ≡ []
    → OfContents old (λ x. (it : Layout) → Mirrors old.places (chart_of x) it t
    → IsFrameOf (chart_of x) it (logs_of frames) (is_active t) u page f.values f.pending)
    → KeepsState {T = Unit {0}} {E = ChipFault} t frames old (Ok tt) t
    (with_frame_at frames u page (Some f)) new

-- a page that left its frame, with no records in memory
abbrev pub EvictionsKeepStates : Type 0
EvictionsKeepStates = (t : Tables) (frames : Frames) (u page : ℕ) (f : PageFrame) (old : Told)
    → frames u page ≡ Some f → f.log ≡ []
    → KeepsState {T = Unit {0}} {E = ChipFault} t frames old (Ok tt) t
    (with_frame_at frames u page None) old

-- the records of a page in memory stand in a log sector of its unit, and the tables are these then
pub record StandsInLog (places : ℕ) (c : Chart) (it : Layout) (t : Tables) (u : ℕ)
    (records : List Record) (y : Chart) (after : Tables) : Type 0 where
  pub entry : Entry
  pub records_are : entry.records ≡ records
  pub mirrors : Mirrors places y (with_log it u entry) after
  pub none_lost : NoneIsLost places after
  pub active : after.active ≡ t.active
  pub pages : KeepsPages places c it y (with_log it u entry)

-- a page whose records in memory were written to a log sector
abbrev pub LogSectorsKeepStates : Type 0
LogSectorsKeepStates = (t after : Tables) (frames : Frames) (u page : ℕ) (f : PageFrame)
    (old new : Told) → frames u page ≡ Some f
    → ((places : ℕ) → old.places ≡ places → Charts (λ c y. (it : Layout) (slots : SessionSlots)
    (state : State) → Fits places c it t frames slots state
    → StandsInLog places c it t u f.log y after) old new)
    → ((places : ℕ) (pages : Legibility) (h : History) (it : Layout) (slots : SessionSlots) (state : State)
    → old.places ≡ places → IsSteady h old → FitsStory places pages h it t frames slots state
    → Preserves {T = Unit {0}} {E = ChipFault} places (of pages state.map) t after h (Ok tt) old new)
    → KeepsState {T = Unit {0}} {E = ChipFault} t frames old (Ok tt) after
    (with_frame_at frames u page (Some (with_frame_log f []))) new

-- Calls that write to the chip and know its tables alone. Where no write failed, the tables turned
-- so, done or not; and over a story they keep the map on which it rested.
abbrev pub TableCallsKeepStates : Type 0
TableCallsKeepStates = (t after : Tables) (frames : Frames) (result : Result (Unit {0}) ChipFault)
    (old new : Told)
    → ((places : ℕ) → old.places ≡ places → Settled result old new
    → Charts (TurnsTables places t after) old new)
    → ((places : ℕ) (m : Legible) (it : Layout) (h : History) → old.places ≡ places → IsSteady h old
    → StoryRests places m h → Agrees places h it t → Preserves places m t after h result old new)
    → KeepsState t frames old result after frames new

-- the answer of a store that looked a record up, where the work on the chip was done as well
abbrev pub LookUpsAreAlike : Type 0
LookUpsAreAlike = (t after : Tables) (frames later : Frames) (result : Result (Unit {0}) ChipFault)
    (answer : Result (Option (List ℕ)) Fault) (old new : Told) → is_ok result ≡ is_ok answer
    → KeepsState t frames old result after later new
    → KeepsState t frames old answer after later new

-- ---- calls that lead to a next state

-- a call that keeps each state leads to the same one
abbrev pub KeepersLead : Type 0
KeepersLead = (before : Memory) (after : Tables) (later : Frames)
    (result : Result (Unit {0}) ChipFault) (old new : Told)
    → KeepsState before.tables before.frames old result after later new
    → LeadsTo (λ state. state) before old result (memory_of after later before.slots) new

-- calls in memory: the same map, and no more sectors that are counted as clean
abbrev pub MemoryLeads : Type 0
MemoryLeads = (next : State → State) (before after : Memory) (old : Told)
    → ((places : ℕ) (c : Chart) (it : Layout) (state : State) → old.places ≡ places
    → MemoryFits places c it before state → MemoryFits places c it after (next state))
    → ((places : ℕ) (c : Chart) (it : Layout) (state : State) → MemoryFits places c it before state
    → (next state).map ≡ state.map)
    → ((p s : ℕ) → IsCountedClean after.tables p s → IsCountedClean before.tables p s)
    → LeadsTo {T = Unit {0}} {E = ChipFault} next before old (Ok tt) after old

-- a call that keeps each state and was done, and then one that leads to the next
abbrev pub KeepersThenLead : Type 0
KeepersThenLead = (next : State → State) (before : Memory) (between : Tables) (middle : Frames)
    (after : Memory) (result : Result (Unit {0}) ChipFault) (old mid new : Told)
    → Counts old mid
    → KeepsState {T = Unit {0}} {E = ChipFault} before.tables before.frames old (Ok tt) between
    middle mid
    → LeadsTo next (memory_of between middle before.slots) mid result after new
    → LeadsTo next before old result after new

-- one that failed, where nothing else is done then
abbrev pub FailedKeepersLead : Type 0
FailedKeepersLead = (next : State → State) (before : Memory) (after : Tables) (later : Frames)
    (e f : ChipFault) (old new : Told)
    → KeepsState {T = Unit {0}} before.tables before.frames old (Err e) after later new
    → LeadsTo {T = Unit {0}} next before old (Err f) (memory_of after later before.slots) new

-- another next state, which is the same for each state that fits
abbrev pub NextStatesAreAlike : Type 0
NextStatesAreAlike = (next other : State → State) (before after : Memory)
    (result : Result Reply Fault) (old new : Told)
    → ((places : ℕ) (c : Chart) (it : Layout) (state : State) → MemoryFits places c it before state
    → next state ≡ other state)
    → LeadsTo next before old result after new → LeadsTo other before old result after new

-- the answer of a store, where the work on the chip was done as well
abbrev pub AnswersAreAlike : Type 0
AnswersAreAlike = (next : State → State) (before after : Memory)
    (result : Result (Unit {0}) ChipFault) (answer : Result Reply Fault) (old new : Told)
    → is_ok result ≡ is_ok answer → LeadsTo next before old result after new
    → LeadsTo next before old answer after new

-- In some layout, of as many units, these tables mirror the new chart, no place is lost, and each
-- page is kept.
pub record IsReopened (places : ℕ) (c : Chart) (it : Layout) (y : Chart) (t : Tables)
    : Type 0 where
  pub layout : Layout
  pub count : layout.count ≡ it.count
  pub mirrors : Mirrors places y layout t
  pub none_lost : NoneIsLost places t
  pub pages : KeepsPages places c it y layout

-- a chip that was opened again, whatever the tables were: no session is open, and no page is in a
-- frame
abbrev pub RestartsLead : Type 0
RestartsLead = (before : Memory) (t : Tables) (slots : SessionSlots) (old new : Told) → t.active ≡ []
    → ((s : ℕ) → number_of slots s ≡ None) → ((m : Map) → AreSessionsOf slots (at_rest m))
    → ((places : ℕ) → old.places ≡ places → Charts (λ c y. (it : Layout) → Laid places c it
    → IsReopened places c it y t) old new)
    → ((places : ℕ) (m : Legible) (it : Layout) (h : History) → old.places ≡ places → IsSteady h old
    → StoryRests places m h → Laid places (now h) it
    → Preserves {T = Unit {0}} {E = ChipFault} places m before.tables t h (Ok tt) old new)
    → LeadsTo {T = Unit {0}} {E = ChipFault} (λ state. after_restart state) before old (Ok tt)
    (memory_of t (λ u page. None) slots) new

-- ---- what the frames tell

-- A page that showed the map before shows that of the state now; its frame tells the records there,
-- and what each session sees.
abbrev pub FramesTellState : Type 0
FramesTellState = (places : ℕ) (c y : Chart) (it : Layout) (m : Map) (memory : Memory)
    (state : State) (u page slot : ℕ) (f : PageFrame) → FitsOn places c it m y memory state
    → Shows c it.committed u (it.units u) page (page_in m u page)
    → memory.frames u page ≡ Some f → slot < SLOTS
    → TellsSlot (number_of memory.slots) state u page slot f.values f.pending

-- and whether a put there is refused since the page is full
abbrev pub FramesTellFull : Type 0
FramesTellFull = (places : ℕ) (c y : Chart) (it : Layout) (m : Map) (memory : Memory) (state : State)
    (n : ℕ) (bytes : List ℕ) (f : PageFrame) → FitsOn places c it m y memory state
    → Shows c it.committed (home_of n).unit (it.units (home_of n).unit) (home_of n).page
    (page_in m (home_of n).unit (home_of n).page)
    → memory.frames (home_of n).unit (home_of n).page ≡ Some f
    → overfills state n bytes ≡ overfills_at (peaks_in memory.slots) n bytes f.values

-- ---- the end of a commit

-- where the pages of all names that a session wrote have none, no record of it is in memory
abbrev pub NamesOutSuffice : Type 0
NamesOutSuffice = (places : ℕ) (c : Chart) (it : Layout) (memory : Memory) (state : State)
    (s tid : ℕ) → MemoryFits places c it memory state → number_of memory.slots s ≡ Some tid
    → All (IsOut memory.frames) (written_of memory.slots s)
    → IsWrittenOut (logs_of memory.frames) tid

-- The numbers of those sessions are added that wrote something, whose records are on the chip: the
-- changes of each become values of their frames, and all the sessions are closed.
abbrev pub NumbersLead : Type 0
NumbersLead = (ss : List ℕ) (before : Memory) (later : Frames) (old new : Told)
    → AreOpenSessions before.slots ss
    → All (IsOut before.frames) (written_by before.slots ss)
    → Charts (AddsNumbers old.places before.tables.status before.tables.next
    (writer_numbers before.slots ss)) old new
    → AddsNumbersInSteps old.places before.tables.status before.tables.next
    (writer_numbers before.slots ss) (Ok tt) old new
    → ApplyInTurn before.slots ss before.frames later
    → LocksHold (slots_after before.slots ss)
    → LeadsTo {T = Unit {0}} {E = ChipFault} (λ state. after_batch state ss) before old (Ok tt)
    (memory_of (added_to before.tables (writer_numbers before.slots ss)
    (slots_after before.slots ss)) later (slots_after before.slots ss)) new

-- They weren't added: nobody knows whether they are committed, so nothing is said of the memory.
abbrev pub FailedNumbersLead : Type 0
FailedNumbersLead = (ss : List ℕ) (before after : Memory) (e f : ChipFault) (old new : Told)
    → AreOpenSessions before.slots ss
    → All (IsOut before.frames) (written_by before.slots ss)
    → AddsNumbersInSteps old.places before.tables.status before.tables.next
    (writer_numbers before.slots ss) (Err e) old new
    → IsStopped e old new
    → LeadsTo {T = Unit {0}} (λ state. after_batch state ss) before old (Err f) after new
