-- What a clean close behind a script leaves.
use Rattle.std.specs.Prelude.{ℕ, ◌≡◌, ◌<◌, ◌≤◌, true, Some, Result, Ok, Err, OnOk}
use Rattle.chip_trait.specs.Lawful.{Clean, age}
use Rattle.chip_trait.specs.Story.{Story, held}
use Rattle.chip_trait.specs.Told.{History, Told, adds_all}
use Rattle.ipl_base.specs.declared.limits.TheConstants.{SECTORS, FIRST_LOG_SECTOR}
use Rattle.ipl_base.specs.declared.fault.StoreFault.{StoreFault}
use Rattle.ipl_base.specs.declared.fault.StoreFault.TheVariants as store
use Rattle.ipl_model.specs.State.{State, Limits}
use Rattle.ipl_meaning.specs.Legible.{of}
use Rattle.ipl_meaning.specs.Chart.{chart_of}
use Rattle.ipl_meaning.specs.Layout.{Layout, Laid}
use Rattle.ipl_meaning.specs.Marks.{IsMarked}
use Rattle.ipl_meaning.specs.Rests.{now}
use Rattle.ipl_meaning.specs.Stands.{StandsIn}
use Rattle.ipl_meaning.specs.Tables.{IsCountedClean}
use Rattle.unit_io.specs.Costs.{Spends}
use Rattle.unit_io.specs.Reads.{OfContents}
use Rattle.restart.specs.Closing.{EndsWithMark}
use Rattle.store_trait.specs.declared.fault.Fault.{Fault}
use Rattle.store_trait.specs.declared.fault.Fault.TheVariants.{Chip, Spent}
use Rattle.store_trait.specs.Keeping.{LeavesTidy, WorkLeaves, StillRecalls}
use Rattle.store_trait.specs.Behind.{WorksBehind}
use Rattle.ipl_store.specs.Calls.{counter_of, view_of}
use Rattle.script_store.specs.declared.store.ScriptStore.{ScriptStore}
use Rattle.store_laws.specs.Keeps.{KnownPages}
use Rattle.script_store.specs.Keeps.{IsRunning, KeepsScript, script_keeping}
use Rattle.script_store.specs.Recalls.{RecallsErased}
use Rattle.script_store.specs.Worn.{KnowsWorn}

-- ---- no session is open

-- Wherever the power was cut on the way, the chip stood for the records of the state; and the store keeps a state
-- with the same records then.
pub record KeepsRecords (known : KnownPages) (limits : Limits) (state : State) (before : ScriptStore) (h : History) (then : ScriptStore)
    (told : Told) : Type 0 where
  pub leaves : WorkLeaves (script_keeping told.places known)
      (λ x. StandsIn told.places limits.units (chart_of x) (of known.pages state.map)) before h then told told true
  pub now : State
  pub records : now.map ≡ state.map
  pub keeps : KeepsScript told.places known limits then told (adds_all leaves.added h) now

-- Sessions were aborted, over a chip that tells this and wasn't asked: of each state that the store kept it keeps the
-- records.
pub record Aborts (known : KnownPages) (old : ScriptStore) (told : Told) (new : ScriptStore) : Type 0 where
  pub running : IsRunning told.places new
  pub keeps : (limits : Limits) (state : State) (h : History) → KeepsScript told.places known limits old told h state
      → KeepsRecords known limits state old h new told
  pub tidy : LeavesTidy (script_keeping told.places known) old new told told true
  pub drawn : counter_of new.store ≤ counter_of old.store
  pub knows : (entry : Told) → KnowsWorn entry old told → KnowsWorn entry new told
  pub recalls : StillRecalls (script_keeping told.places known) old told new told

-- ---- what is marked

-- the store counts the sector as clean
abbrev pub CountsClean : ScriptStore → ℕ → ℕ → Type 0
CountsClean s p sector = IsCountedClean (view_of s.store).memory.tables p sector

-- Each log sector at a unit's place that these events erased, and didn't program since, is marked then.
abbrev pub MarksErased : ℕ → History → Story → Type 0
MarksErased places k added = (it : Layout) → Laid places (now k) it → (u n : ℕ) → u < it.count
    → FIRST_LOG_SECTOR ≤ n → n < SECTORS → age added (it.units u).home n ≡ Clean
    → IsMarked places (held k.start k.story) (it.units u).home n

-- so it is behind this history, which the chip tells since
pub record MarksSince (places : ℕ) (h : History) (t : Told) : Type 0 where
  pub added : Story
  pub history : t.history ≡ Some (adds_all added h)
  pub marked : MarksErased places (adds_all added h) added

-- Of a store that knew what was erased since an entry, and kept a state.
abbrev pub MarksRecalled : KnownPages → ScriptStore → Told → Told → Type 0
MarksRecalled known old before after = (entry : Told) (h : History) → entry.history ≡ Some h → RecallsErased entry old before
    → (limits : Limits) (state : State) (k : History) → before.history ≡ Some k
    → KeepsScript before.places known limits old before k state → MarksSince before.places h after

-- What is marked on the chip then, the store counts as clean, if it kept a state before.
abbrev pub CountsMarked : KnownPages → ScriptStore → Told → ScriptStore → Told → Type 0
CountsMarked known old before new after = (limits : Limits) (state : State) (k : History)
    → KeepsScript before.places known limits old before k state
    → OfContents after (λ x. (p s : ℕ) → IsMarked before.places x p s → CountsClean new p s)

-- ---- a close

-- the answer of a close; the store isn't down before it, and no session is open, which would have it refused
abbrev pub closed : Result (Unit {0}) StoreFault → Result (Unit {0}) Fault
closed (Ok v) = Ok v
closed (Err store.Down) = Err Spent
closed (Err store.Spent) = Err Spent
closed (Err (store.Refused refusal)) = Err Spent
closed (Err (store.Chip fault)) = Err (Chip fault)

-- Whatever the chip tells, it works behind the script as what says nothing does; and done, the last two events are the
-- program of a mark and a barrier, what was erased since an entry and not programmed is marked, and what is marked the
-- store counts as clean.
pub record ClosesAtEnd (known : KnownPages) (old : ScriptStore) (before : Told) (result : Result (Unit {0}) Fault) (new : ScriptStore)
    (after : Told) : Type 0 where
  pub works : WorksBehind (script_keeping before.places known) old before result new after
  pub last : OnOk result (Spends EndsWithMark before after)
  pub marked : OnOk result (MarksRecalled known old before after)
  pub counted : OnOk result (CountsMarked known old before new after)
