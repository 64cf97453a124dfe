-- What a contract sees of a store, and what each of its calls leaves.
use Rattle.std.specs.Prelude.{ℕ, ◌≡◌, ◌≤◌, ◌+◌, ◌-◌, ◌||◌, ◌&&◌, nat_le, nat_lt, Bool, not, true, false, ◌∷◌, [], length, Option, Some, None, Result, Ok, Err, MatchResult, IfErr, is_ok, if◌then◌else◌}
use Rattle.chip_trait.specs.Story.{Contents}
use Rattle.chip_trait.specs.Told.{Told, Counts}
use Rattle.ipl_base.specs.declared.limits.TheConstants.{PAGES}
use Rattle.ipl_base.specs.Calls.{IsFailedCall}
use Rattle.ipl_base.specs.Places.{IsGeometry, KeepsUnits}
use Rattle.ipl_base.specs.declared.fault.ChipFault.{ChipFault}
use Rattle.ipl_base.specs.declared.fault.ChipFault.TheVariants.{ReadFault, Stopped, Damaged, Malformed, WornOut}
use Rattle.ipl_base.specs.declared.fault.Refusal.{Refusal}
use Rattle.ipl_base.specs.declared.fault.Refusal.TheVariants.{BadUnit, HoldsFull, NotHeld}
use Rattle.ipl_base.specs.declared.fault.StoreFault.{StoreFault}
use Rattle.ipl_base.specs.declared.fault.StoreFault.TheVariants.{Down, Spent, Refused, Chip}
use Rattle.ipl_model.specs.State.{State, Limits}
use Rattle.ipl_model.specs.Refusals.{Test, first_of, bad_session, bad_name, refuses_get, refuses_share}
use Rattle.ipl_meaning.specs.Legible.{every}
use Rattle.ipl_meaning.specs.Chart.{chart_of}
use Rattle.ipl_meaning.specs.Layout.{Layout}
use Rattle.ipl_meaning.specs.Tables.{Tables}
use Rattle.unit_io.specs.Reads.{OfContents}
use Rattle.buffer_pool.specs.Pools.{PoolView}
use Rattle.buffer_pool.specs.Laws.{buffer_of}
use Rattle.buffer_pool.specs.Holding.{is_pinned, pinned_count, KeepsPins}
use Rattle.store_trait.specs.Keeping.{LAST_NUMBER}
use Rattle.store_laws.specs.Advances.{Memory, MemoryFits, LeadsTo}
use Rattle.record_locks.specs.Standing.{state_of}
use Rattle.store_laws.specs.Keeps.{View, ShowsState, limits_in}
use Rattle.place_taking.specs.Spending.{tells_worn}
use Rattle.place_taking.specs.Wear.{TellsOfWear}
use Rattle.unit_io.specs.Steps.{Tidies}
use Rattle.page_frames.specs.Faulty.{FailsByPage, StandsEver, StandsSurely}
use Rattle.page_frames.specs.Pages.{tables_in, PageCause}
use Rattle.ipl_store.specs.Turns.{memory_in, IsInOrder}
use Rattle.ipl_store.specs.declared.store.Store.{Store}

-- ---- what is seen

abbrev pub memory_of_store : Store → Memory
memory_of_store store = memory_in store.transactions

-- as a run over a script sees it
abbrev pub view_of : Store → View
view_of store = record { memory = memory_of_store store; units = store.units; down = store.down }

-- its limits: so many sessions, and the units of its chip with their names
abbrev pub limits_of_store : Store → Limits
limits_of_store store = limits_in (view_of store)

-- the next number that it draws
abbrev pub counter_of : Store → ℕ
counter_of store = store.transactions.pages.parts.counter

-- how many committed numbers have room in it
abbrev pub numbers_of : Store → ℕ
numbers_of store = store.transactions.pages.parts.status.most

-- ---- the condition of all calls

-- The store is made for a chip of so many places, on which as many units may be kept as it has; and a renewal may
-- keep each committed number that has room.
pub record IsMade (places : ℕ) (store : Store) : Type 0 where
  pub geometry : IsGeometry places
  pub units : KeepsUnits places store.units
  pub scratch : store.scratch ≡ places
  pub directory : length store.transactions.pages.parts.directory.in_use ≡ places
  pub overflow : store.transactions.pages.parts.overflow.places ≡ places
  pub room : store.kept.room ≡ numbers_of store
  pub frames : store.frames ≡ store.transactions.pages.pool.limit
  pub two : 2 ≤ store.frames

-- and one that isn't down has its memory in order, whatever the chip tells, and its tables have as
-- many units
pub record IsSound (places : ℕ) (store : Store) : Type 0 where
  pub made : IsMade places store
  pub order : store.down ≡ false → IsInOrder places store.transactions
  pub count : store.down ≡ false
      → length store.transactions.pages.parts.directory.current ≡ store.units

-- ---- calls that end before they do anything

-- the store is down
abbrev pub down_fault : Store → Option StoreFault
down_fault store = if store.down then Some Down else None

-- or its numbers are used up
abbrev pub entry_fault : Store → Option StoreFault
entry_fault store = if store.down then Some Down else
    (if nat_lt LAST_NUMBER (counter_of store) then Some Spent else None)

-- the first of these comes first
abbrev pub early_fault : Option StoreFault → Option Refusal → Option StoreFault
early_fault (Some fault) refusal = Some fault
early_fault None (Some refusal) = Some (Refused refusal)
early_fault None None = None

-- the refusal of a session and a name that aren't there, which comes before all others
abbrev pub refuses_pair : Limits → ℕ → ℕ → Option Refusal
refuses_pair limits s n = first_of (bad_session limits s ∷ bad_name limits n ∷ [])

-- ---- refusals of which the model has none

-- why a name can't be meant, if it can't
abbrev pub refuses_name : Limits → ℕ → Option Refusal
refuses_name limits n = first_of (bad_name limits n ∷ [])

-- there is no such unit, or no such page in it
abbrev pub bad_page : ℕ → ℕ → ℕ → Test
bad_page units u page = (nat_le units u || nat_le PAGES page, BadUnit)

-- the page is held in a frame
abbrev pub is_held : PoolView → ℕ → ℕ → Bool
is_held pool u page = is_pinned (buffer_of pool.buffers u page)

-- the page isn't held, and all frames but one are
abbrev pub holds_full : PoolView → ℕ → ℕ → Test
holds_full pool u page =
    (not (is_held pool u page) && nat_le (pool.limit - 1) (pinned_count pool.buffers), HoldsFull)

abbrev pub not_held : PoolView → ℕ → ℕ → Test
not_held pool u page = (not (is_held pool u page), NotHeld)

abbrev pub refuses_page : ℕ → ℕ → ℕ → Option Refusal
refuses_page units u page = first_of (bad_page units u page ∷ [])

abbrev pub refuses_hold : ℕ → PoolView → ℕ → ℕ → Option Refusal
refuses_hold units pool u page = first_of (bad_page units u page ∷ holds_full pool u page ∷ [])

abbrev pub refuses_release : ℕ → PoolView → ℕ → ℕ → Option Refusal
refuses_release units pool u page = first_of (bad_page units u page ∷ not_held pool u page ∷ [])

-- what ends a call early that looks up a name for a session
abbrev pub get_fault : Store → ℕ → ℕ → Option StoreFault
get_fault store s n = early_fault (entry_fault store)
    (refuses_get (limits_of_store store) (state_of store.transactions.sessions) s n)

-- one by which the session shares it
abbrev pub share_fault : Store → ℕ → ℕ → Option StoreFault
share_fault store s n = early_fault (entry_fault store)
    (refuses_share (limits_of_store store) (state_of store.transactions.sessions) s n)

-- and one for no session
abbrev pub name_fault : Store → ℕ → Option StoreFault
name_fault store n = early_fault (entry_fault store) (refuses_name (limits_of_store store) n)

-- ---- calls that do something

-- from such a fault on the store is down: a write failed, or too many places are worn
abbrev pub puts_down : ChipFault → Bool
puts_down ReadFault = false
puts_down Stopped = true
puts_down (Damaged p s stored computed) = false
puts_down (Malformed p s) = false
puts_down (WornOut n) = true

-- the answer of work on the chip; a fault is handed on, and some leave the store down
abbrev pub EndsAs : Result (Unit {0}) ChipFault → Bool → Result (Unit {0}) StoreFault → Bool
    → Type 0
EndsAs (Ok v) was result is = (result ≡ Ok v) × (is ≡ was)
EndsAs (Err e) was result is = (result ≡ Err (Chip e)) × (is ≡ (puts_down e || was))

-- a call of the chip failed
abbrev pub IsOfTheChip : StoreFault → Type 0
IsOfTheChip fault = (e : ChipFault) × (fault ≡ Chip e) × IsFailedCall e

-- done, the store isn't down; else a fault of the chip ended the call, for its cause by the tables
-- then, and the store is down exactly where a write failed or too many places are worn
abbrev pub EndsFor : {T : Type 0} → Told → Result T StoreFault → Store → Told → Type 0
EndsFor before result new after = MatchResult result (λ v. new.down ≡ false)
    (λ fault. (e : ChipFault) × (fault ≡ Chip e)
    × PageCause new.transactions.pages.parts.directory e before after
    × (new.down ≡ puts_down e))

-- the fault tells that too many places are worn
abbrev pub tells_wear : StoreFault → Bool
tells_wear Down = false
tells_wear Spent = false
tells_wear (Refused r) = false
tells_wear (Chip e) = tells_worn e

-- the call ended since too many places are worn
abbrev pub ends_worn_out : {T : Type 0} → Result T StoreFault → Bool
ends_worn_out (Ok v) = false
ends_worn_out (Err fault) = tells_wear fault

-- it tells the fault of a bad page, of which this is so by the tables then, unless a call of the
-- chip failed
abbrev pub IsOfBadPage : (Tables → ℕ → ℕ → ChipFault → Type 0) → Contents → Layout → Store → StoreFault
    → Type 0
IsOfBadPage Finds x it new fault =
    let t = tables_in new.transactions.pages in
    (e : ChipFault) × (fault ≡ Chip e) × FailsByPage (Finds t) x it t e

-- Over contents that the memory fits, whatever their pages say, the fault is of a page that didn't
-- read well or had no room for its values, at the place where its unit is then; or a call of the
-- chip failed.
abbrev pub BlamesPagesBy : {T : Type 0} → (Contents → Layout → Tables → ℕ → ℕ → ChipFault → Type 0)
    → Store → Told → Result T StoreFault → Store → Type 0
BlamesPagesBy Finds old before result new = OfContents before (λ x. (it : Layout) (state : State)
    → MemoryFits before.places (chart_of x) it (memory_of_store old) state
    → IfErr result (IsOfBadPage (Finds x it) x it new))

-- The fault is exactly what is wrong with that page, over what the chip holds before the call or
-- after it.
abbrev pub BlamesPages : {T : Type 0} → Store → Told → Result T StoreFault → Store → Told → Type 0
BlamesPages old before result new after =
    BlamesPagesBy (λ x it t. StandsEver x it t after) old before result new

-- the same, whether the chip tells its story or not
abbrev pub BlamesPagesSurely : {T : Type 0} → Store → Told → Result T StoreFault → Store → Told → Type 0
BlamesPagesSurely old before result new after =
    BlamesPagesBy (λ x it t. StandsSurely x it t after) old before result new

-- A call that is let in. It leads from each state that memory and chip stand for to the next one,
-- at most so many numbers were drawn, and however it ends the tables have as many units as the
-- store. Over contents that the memory shows a state of, it fails only where a call of the chip
-- failed; and else by a page that doesn't read well or has no room, with exactly what is wrong with
-- it.
pub record Serves {T : Type 0} (next : State → State) (most : ℕ) (old : Store) (before : Told)
    (result : Result T StoreFault) (new : Store) (after : Told) : Type 0 where
  pub leads : LeadsTo next (memory_of_store old) before result (memory_of_store new) after
  pub ends : EndsFor before result new after
  pub counted : length new.transactions.pages.parts.directory.current ≡ new.units
  pub least : counter_of old ≤ counter_of new
  pub drawn : counter_of new ≤ counter_of old + most
  pub complete : OfContents before (λ x. (state : State)
      → ShowsState before.places every (view_of old) state x
      → IfErr result IsOfTheChip)
  pub faults : BlamesPages old before result new after

-- the same pages are held
abbrev pub KeepsHolds : Store → Store → Type 0
KeepsHolds old new = KeepsPins old.transactions.pages.pool new.transactions.pages.pool

-- A call of a store: it ends early with this fault, and nothing was done; or it does what it is
-- for. The store is sound either way, with as many units and sessions and with room for as many
-- numbers, and whatever the chip tells, its events are lawful by the tables, what is retired besides
-- was found worn, and a unit whose place was erased is known.
pub record Calls {T : Type 0} (early : Option StoreFault) (next : State → State) (most : ℕ)
    (old : Store) (before : Told) (result : Result T StoreFault) (new : Store) (after : Told)
    : Type 0 where
  pub refuses : (fault : StoreFault) → early ≡ Some fault
      → (result ≡ Err fault) × (new ≡ old) × (after ≡ before)
  pub serves : early ≡ None → Serves next most old before result new after
  pub sound : IsSound before.places new
  pub units : new.units ≡ old.units
  pub sessions : length new.transactions.sessions ≡ length old.transactions.sessions
  pub numbers : numbers_of new ≡ numbers_of old
  pub tidy : Tidies (tables_in old.transactions.pages) result (tables_in new.transactions.pages)
      before after
  pub wears : TellsOfWear (tables_in old.transactions.pages) (tables_in new.transactions.pages) (is_ok result)
      (ends_worn_out result) before after
  pub counts : Counts before after
