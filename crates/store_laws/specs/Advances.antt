-- What each call of a store leaves: from each state that its memory fits, the next one.
use Rattle.std.specs.Prelude.{ℕ, ◌≡◌, ◌<◌, ◌≤◌, ◌*◌, None, All, Result, Ok, Err}
use Rattle.std.specs.FinMap.{get}
use Rattle.ipl_base.specs.declared.limits.TheConstants.{PAGES, UNIT_NAMES}
use Rattle.chip_trait.specs.Told.{History, Told}
use Rattle.ipl_model.specs.State.{Map, State}
use Rattle.ipl_format.specs.Page.{Slots}
use Rattle.record_locks.specs.Held.{SessionSlots}
use Rattle.ipl_meaning.specs.Chart.{Chart, chart_of}
use Rattle.ipl_meaning.specs.Layout.{Layout, ReadsWell, records_of}
use Rattle.ipl_meaning.specs.Legible.{Legibility, of}
use Rattle.ipl_meaning.specs.Stands.{Shows, page_in}
use Rattle.ipl_meaning.specs.Rests.{EachStands, EachStandsEither, StoryRests}
use Rattle.ipl_meaning.specs.Tables.{Tables, IsCountedClean}
use Rattle.ipl_meaning.specs.Mirrors.{Mirrors, NoneIsLost}
use Rattle.ipl_meaning.specs.Steps.{KeepsPages}
use Rattle.unit_io.specs.Leads.{IsSteady}
use Rattle.unit_io.specs.Charts.{Charts}
use Rattle.unit_io.specs.Reads.{OfContents}
use Rattle.unit_io.specs.ReadsAt.{ReadsAt}
use Rattle.unit_io.specs.Steps.{Settled, Steps}
use Rattle.store_laws.specs.PendingLaws.{IsSameOrMerged}
use Rattle.store_laws.specs.Frames.{Frames}
use Rattle.store_laws.specs.Fits.{is_active, Fits, FitsStory}

-- ---- memory

-- what a store has in memory: its tables of the chip, the frames of pages, and the sessions
pub record Memory : Type 0 where
  pub tables : Tables
  pub frames : Frames
  pub slots : SessionSlots

abbrev pub memory_of : Tables → Frames → SessionSlots → Memory
memory_of t frames slots = record { tables = t; frames = frames; slots = slots }

-- it and a chart stand for all of the state but its map
abbrev pub MemoryFits : ℕ → Chart → Layout → Memory → State → Type 0
MemoryFits places c it memory state = Fits places c it memory.tables memory.frames memory.slots state

-- it and a chip's story stand for the state
abbrev pub MemoryFitsStory : ℕ → Legibility → History → Layout → Memory → State → Type 0
MemoryFitsStory places pages h it memory state =
    FitsStory places pages h it memory.tables memory.frames memory.slots state

-- ---- pages

-- There are as many units as before. Each page that the one chart shows as the one map has it, the
-- other chart shows as the other map has it, and what reads well there did so before. No name past the last page gets a
-- record.
pub record ShowsNext (places : ℕ) (c : Chart) (it : Layout) (m : Map) (y : Chart) (new : Layout)
    (n : Map) : Type 0 where
  pub count : new.count ≡ it.count
  pub pages : (u page : ℕ) → u < it.count → page < PAGES
      → Shows c it.committed u (it.units u) page (page_in m u page)
      → Shows y new.committed u (new.units u) page (page_in n u page)
  pub no_more : (u page : ℕ) (base : Slots) → u < it.count → page < PAGES → ReadsWell y u (new.units u) page base
      → (was : Slots) × ReadsWell c u (it.units u) page was
  pub nowhere_else : (name : ℕ) → UNIT_NAMES * it.count ≤ name → get m name ≡ None
      → get n name ≡ None

-- In some layout the memory fits the new chart. The pages that showed the map before show that of
-- the state now.
pub record FitsOn (places : ℕ) (c : Chart) (it : Layout) (m : Map) (y : Chart) (memory : Memory)
    (state : State) : Type 0 where
  pub layout : Layout
  pub fits : MemoryFits places y layout memory state
  pub shows : ShowsNext places c it m y layout state.map

-- ---- calls

-- the state that a call leaves: done, the next one; else the one that it was
abbrev pub state_then : {T E : Type 0} → Result T E → (State → State) → State → State
state_then (Ok v) next state = next state
state_then (Err e) next state = state

-- What a call leaves of a store's memory and its chip. Where the chip tells what it holds, and no
-- write failed, the memory fits the state then. Over each history that leaves that, and rests on the
-- records of some pages of a state that the memory fits, Each holds at each moment, and the history
-- then rests on those of the state then, of the same pages, unless a write failed.
pub record Advances {T E : Type 0} (Each : ℕ → Legibility → State → History → Type 0) (next : State → State)
    (before : Memory) (old : Told) (result : Result T E) (after : Memory) (new : Told)
    : Type 0 where
  pub fits : (places : ℕ) → old.places ≡ places → Settled result old new
      → Charts (λ c y. (it : Layout) (state : State) → MemoryFits places c it before state
      → FitsOn places c it state.map y after (state_then result next state)) old new
  pub steps : (places : ℕ) (pages : Legibility) (h : History) (it : Layout) (state : State) → old.places ≡ places
      → IsSteady h old → MemoryFitsStory places pages h it before state
      → Steps (Each places pages state) before.tables after.tables
      (λ v k. StoryRests places (of pages (next state).map) k) (λ k. StoryRests places (of pages state.map) k)
      h result old new

-- at a moment of a call that keeps each state, a power cut leaves the map
abbrev pub KeepsMapOf : ℕ → Legibility → State → History → Type 0
KeepsMapOf places pages state h = EachStands places (of pages state.map) h

-- at a moment of a call that leads to a next state, it leaves the old map or the new one
abbrev pub TurnsMapOf : (State → State) → ℕ → Legibility → State → History → Type 0
TurnsMapOf next places pages state h = EachStandsEither places (of pages state.map) (of pages (next state).map) h

-- A call that keeps each state, however it ends, and doesn't know the sessions.
abbrev pub KeepsState : {T E : Type 0} → Tables → Frames → Told → Result T E → Tables → Frames
    → Told → Type 0
KeepsState t frames old result after later new = (slots : SessionSlots)
    → Advances KeepsMapOf (λ state. state) (memory_of t frames slots) old result
    (memory_of after later slots) new

-- A call that leads from each state to the next one. An error leaves the state as it was.
abbrev pub LeadsTo : {T E : Type 0} → (State → State) → Memory → Told → Result T E → Memory → Told
    → Type 0
LeadsTo next before old result after new =
    Advances (TurnsMapOf next) next before old result after new

-- ---- calls that write nothing

-- Sectors were read, or none. What is in memory then fits the next state over the same contents;
-- that state has the same map; and no more sectors are counted as clean.
pub record ReadsInto {T E : Type 0} (At : ℕ → ℕ → Type 0) (next : State → State) (before : Memory)
    (old : Told) (result : Result T E) (after : Memory) (new : Told) : Type 0 where
  pub reads : ReadsAt At old new
  pub fits : (places : ℕ) → old.places ≡ places → OfContents old (λ x. (it : Layout) (state : State)
      → MemoryFits places (chart_of x) it before state
      → MemoryFits places (chart_of x) it after (state_then result next state))
  pub map : (places : ℕ) (c : Chart) (it : Layout) (state : State)
      → MemoryFits places c it before state → (next state).map ≡ state.map
  pub clean : (p s : ℕ) → IsCountedClean after.tables p s → IsCountedClean before.tables p s

-- ---- calls that know the tables alone

-- In some layout, of as many units, the tables mirror the new chart, no place is lost, and the same
-- sessions are open. Each unit has the records that it had, or those that a merge carries; of these
-- the same are committed; and each page is kept.
pub record KeepsTablesOn (places : ℕ) (c : Chart) (it : Layout) (t : Tables) (y : Chart)
    (after : Tables) : Type 0 where
  pub layout : Layout
  pub count : layout.count ≡ it.count
  pub mirrors : Mirrors places y layout after
  pub none_lost : NoneIsLost places after
  pub active : after.active ≡ t.active
  pub alike : (u : ℕ) → u < it.count
      → IsSameOrMerged (is_active t) (it.units u) (layout.units u)
  pub kept : (u : ℕ) → u < it.count
      → All (λ r. layout.committed r.tid ≡ it.committed r.tid) (records_of (layout.units u).log)
  pub pages : KeepsPages places c it y layout

-- whatever layout the tables mirrored, with no place lost
abbrev pub TurnsTables : ℕ → Tables → Tables → Chart → Chart → Type 0
TurnsTables places t after c y = (it : Layout) → Mirrors places c it t → NoneIsLost places t
    → KeepsTablesOn places c it t y after
