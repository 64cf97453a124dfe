-- What an opening of a chip leaves of a store.
use Rattle.std.specs.Prelude.{ℕ, ◌≡◌, ◌≢◌, ◌⊎◌, IfErr, Bool, ◌≤◌, ◌+◌, ◌^◌, false, true, [], length, replicate, None, Result, Ok, Err, MatchResult, OnOk}
use Rattle.chip_trait.specs.Told.{History, Told}
use Rattle.ipl_base.specs.declared.fault.ChipFault.{ChipFault}
use Rattle.ipl_base.specs.declared.fault.ImageFault.{ImageFault}
use Rattle.ipl_base.specs.declared.fault.ImageFault.TheVariants.{Geometry, TooManyNumbers}
use Rattle.ipl_base.specs.Places.{KeepsUnits}
use Rattle.ipl_model.specs.Operations.{after_restart}
use Rattle.ipl_model.specs.State.{Map, State, at_rest}
use Rattle.ipl_meaning.specs.Legible.{Legibility, of}
use Rattle.ipl_meaning.specs.Agrees.{IsTidy}
use Rattle.std.specs.FinMap.{empty}
use Rattle.ipl_meaning.specs.Chart.{Chart, chart_of}
use Rattle.ipl_meaning.specs.Layout.{Layout}
use Rattle.ipl_meaning.specs.Rests.{StoryRests}
use Rattle.ipl_meaning.specs.Stands.{Stands}
use Rattle.ipl_meaning.specs.Tables.{Tables}
use Rattle.ipl_meaning.specs.Chosen.{units_at}
use Rattle.ipl_meaning.specs.Faults.{greatest_found}
use Rattle.restart.specs.Bytes.{ReadsBytes}
use Rattle.unit_io.specs.Accounts.{Accounts}
use Rattle.unit_io.specs.Charts.{Charts}
use Rattle.unit_io.specs.Costs.{Spends}
use Rattle.unit_io.specs.Leads.{IsSteady}
use Rattle.unit_io.specs.Reads.{OfContents}
use Rattle.restart.specs.Passes.{HasErased, ListsRetired}
use Rattle.restart.specs.Looks.{OnlyReads}
use Rattle.restart.specs.Recovers.{CompletesOpening, CountsMarks, ErasesOpening, IsDrawnBehind, RecoversTold, LooksAtFaults, RecoversInSteps, TidiesOpening, OpeningCause}
use Rattle.store_laws.specs.Advances.{Memory, MemoryFits, LeadsTo}
use Rattle.store_laws.specs.Keeps.{ShowsState, KeepsStore}
use Rattle.page_frames.specs.Pages.{tables_in}
use Rattle.ipl_store.specs.declared.store.Store.{Store}
use Rattle.ipl_store.specs.Calls.{memory_of_store, view_of, limits_of_store, counter_of, numbers_of, IsSound}

-- the store isn't down, no session is open, and no page is in a frame
pub record IsJustOpened (store : Store) : Type 0 where
  pub up : store.down ≡ false
  pub unclosed : store.closed ≡ false
  pub idle : store.transactions.sessions ≡ replicate (length store.transactions.sessions) None
  pub empty : store.transactions.pages.pool.buffers.slots ≡ []

-- The memory fits the chart, with no session open, and the header of the status place lists exactly the
-- places that are retired.
pub record FitsAnew (places : ℕ) (store : Store) (y : Chart) : Type 0 where
  pub layout : Layout
  pub fits : MemoryFits places y layout (memory_of_store store) (at_rest empty)
  pub lists : ListsRetired (tables_in store.transactions.pages) y

-- A store of which a chip was opened. It has as many units as its status header says, and over a chip
-- that tells what it holds its memory fits that, whatever the pages say. Where the
-- contents before stood for records of some pages, its memory and the contents then show these; and it keeps them
-- over each history then that rests on them, and leaves clean what the tables count as clean.
pub record OpensStore (places : ℕ) (old : Told) (store : Store) (new : Told) : Type 0 where
  pub fresh : IsJustOpened store
  pub units : OfContents old (λ x. store.units ≡ units_at (chart_of x) places)
  pub anew : Charts (λ c y. FitsAnew places store y) old new
  pub shows : (pages : Legibility) (m : Map) → OfContents old (λ x. Stands places (chart_of x) (of pages m)
      → OfContents new (ShowsState places pages (view_of store) (at_rest m)))
  pub keeps : (pages : Legibility) (m : Map) (k : History) → OfContents old (λ x. Stands places (chart_of x) (of pages m)
      → IsSteady k new → StoryRests places (of pages m) k
      → IsTidy k (tables_in store.transactions.pages)
      → KeepsStore places pages (limits_of_store store) (view_of store) new k (at_rest m))
  pub number : OfContents old (λ x. IsDrawnBehind (greatest_found (chart_of x) places) (counter_of store))
  pub left : counter_of store ≤ 2 ^ 63 + 2 ^ 14

-- each state for which the memory and the chip stood is left, with no session open
abbrev pub Restarts : Memory → Told → Memory → Told → Type 0
Restarts before old after new = LeadsTo {T = Unit {0}} {E = ChipFault}
    (λ state. after_restart state) before old (Ok tt) after new

-- What an opening does to the chip, where a mark counts or doesn't, which fails so or leaves these tables:
-- what it tells, what a power cut leaves, that a faulty chip is only read, when it may fail, that one of more numbers
-- than have room is only read too, that what it read is bytes, that its events are lawful after any lawful ones that leave clean what a mark said was so,
-- and done, leave clean what the tables count so, and that they count what a mark said; how many erases it
-- makes and what it retires, done, one of the place that the status has then; why it fails, by how many committed
-- numbers have room there; and that the tables have as many units as may be kept.
pub record Tries (marks : Bool) (places : ℕ) (old : Told) (result : Result (Unit {0}) ImageFault) (t : Tables)
    (new : Told) : Type 0 where
  pub tells : RecoversTold places old result t new
  pub steps : RecoversInSteps marks places old result t new
  pub looks : LooksAtFaults places old result new
  pub complete : CompletesOpening t.status.most places result old
  pub unwritten : IfErr result (λ e. e ≡ TooManyNumbers → OnlyReads old new)
  pub bytes : ReadsBytes places old result
  pub tidy : TidiesOpening marks places old result t new
  pub marked : OnOk result (CountsMarks marks places old t)
  pub costs : ErasesOpening marks places result t.places old new
  pub renewed : OnOk result (Spends (HasErased t.status.place) old new)
  pub accounts : Accounts (OpeningCause t.status.most t.places) result old new
  pub all : length t.places.in_use ≡ places
  pub units : KeepsUnits places (length t.places.current)

-- Over a chip that this memory stood for, with any state, an opening never ends since numbers have no room.
abbrev pub KeepsRoom : Memory → Told → Result (Unit {0}) ImageFault → Type 0
KeepsRoom before told result = OfContents told (λ x. (it : Layout) (state : State)
    → MemoryFits told.places (chart_of x) it before state → IfErr result (λ e. e ≢ TooManyNumbers))

-- a chip was opened again; or it wasn't, and the store is down then and has the units that it had
abbrev pub Reopens : ℕ → Store → Told → Result (Unit {0}) ImageFault → Store → Told → Type 0
Reopens places before old result store new = MatchResult result
    (λ done. OpensStore places old store new)
    (λ e. (store.down ≡ true) × (store.units ≡ before.units))

-- The chip hasn't as many places as the memory is for, and it wasn't asked anything else; or it failed, where so
-- many committed numbers had room.
abbrev pub FailsToOpen : ℕ → ℕ → Told → ImageFault → Told → Type 0
FailsToOpen size numbers old e new = ((old.places ≢ size) × (e ≡ Geometry) × (new ≡ old))
    ⊎ ((old.places ≡ size) × ((t : Tables) × (t.status.most ≡ numbers) × Tries true old.places old (Err e) t new))

-- in memory for chips of so many places, with room for so many committed numbers, a chip was opened, or wasn't
abbrev pub OpensAs : ℕ → ℕ → Told → Result Store ImageFault → Told → Type 0
OpensAs size numbers old (Ok store) new = (old.places ≡ size) × IsSound old.places store
    × (numbers_of store ≡ numbers) × OpensStore old.places old store new
    × Tries true old.places old (Ok tt) (tables_in store.transactions.pages) new
OpensAs size numbers old (Err e) new = FailsToOpen size numbers old e new
