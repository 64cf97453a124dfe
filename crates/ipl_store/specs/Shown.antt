-- What a store's frames tell of a name, and which pages are held.
use Rattle.std.specs.Prelude.{ℕ, ◌≡◌, ◌≢◌, ◌<◌, ◌⊎◌, ◌↔◌, ◌≤◌, Bool, Option, Some, None, IfSome, List, [], length, option_map, Result, Ok, Err, IfErr, OnOk}
use Rattle.std.specs.Borrow.{Bor}
use Rattle.std.specs.FinMap.{get}
use Rattle.chip_trait.specs.Story.{Contents}
use Rattle.chip_trait.specs.Told.{Told}
use Rattle.ipl_base.specs.declared.fault.ChipFault.{ChipFault}
use Rattle.ipl_base.specs.declared.fault.ChipFault.TheVariants.{ReadFault}
use Rattle.ipl_base.specs.declared.fault.StoreFault.{StoreFault}
use Rattle.ipl_base.specs.declared.fault.StoreFault.TheVariants.{Chip}
use Rattle.ipl_base.specs.Places.{home_of}
use Rattle.ipl_base.specs.declared.limits.TheConstants.{VALUE_LEN}
use Rattle.ipl_model.specs.State.{State, see}
use Rattle.ipl_meaning.specs.Chart.{chart_of}
use Rattle.ipl_meaning.specs.Layout.{Layout}
use Rattle.ipl_meaning.specs.Mirrors.{Mirrors}
use Rattle.ipl_meaning.specs.Stands.{Shows, page_in}
use Rattle.ipl_meaning.specs.Tables.{Tables}
use Rattle.number_set.specs.Numbers.{among}
use Rattle.page_rebuild.specs.Loaded.{load_fault}
use Rattle.unit_io.specs.Costs.{Costs, Spends}
use Rattle.unit_io.specs.Reads.{OfContents}
use Rattle.store_laws.specs.Frames.{PageFrame}
use Rattle.buffer_pool.specs.Pools.{PoolView}
use Rattle.buffer_pool.specs.Holding.{IsHeld, IsSamePage, IsAtRest}
use Rattle.buffer_pool.specs.Uses.{IsUsedLast, UsesPage}
use Rattle.store_laws.specs.Advances.{MemoryFits}
use Rattle.record_locks.specs.Held.{number_of}
use Rattle.store_laws.specs.Keeps.{View, TellsName}
use Rattle.store_laws.specs.Refusals.{IsOpenSession}
use Rattle.page_frames.specs.Asks.{AsksForFrame}
use Rattle.page_frames.specs.Spending.{ErasesAndLogs}
use Rattle.page_frames.specs.Pages.{tables_in, frames_in, IsFramed, KeepsFramed, KeepsFramedFor, HasFreeFrame}
use Rattle.ipl_store.specs.declared.store.Store.{Store}
use Rattle.ipl_store.specs.Calls.{view_of, BlamesPagesSurely, KeepsHolds, Calls, ends_worn_out}

-- ---- names

-- The memory fits what the chip of so many places holds, which is laid out in as many units, and
-- the page of the name shows what the state has there. Of other pages nothing is asked: they may
-- not read well.
pub record ShowsName (places : ℕ) (store : View) (state : State) (n : ℕ) (x : Contents)
    : Type 0 where
  pub layout : Layout
  pub count : layout.count ≡ store.units
  pub fits : MemoryFits places (chart_of x) layout store.memory state
  pub shows : (home_of n).unit < store.units → Shows (chart_of x) layout.committed (home_of n).unit
      (layout.units (home_of n).unit) (home_of n).page
      (page_in state.map (home_of n).unit (home_of n).page)

-- The page of the name is in a frame. That tells the name as each state has it that the store
-- before and the page in the chip's contents showed.
pub record FramesName (n : ℕ) (old : Store) (before : Told) (new : Store) : Type 0 where
  pub frame : PageFrame
  pub there : frames_in new.transactions.pages (home_of n).unit (home_of n).page ≡ Some frame
  pub tells : (state : State) → OfContents before (λ x.
      ShowsName before.places (view_of old) state n x
      → TellsName old.transactions.sessions state n frame)

-- what a session sees of a name in each state that the store and the name's page in the chip's
-- contents show
abbrev pub IsSeen : ℕ → ℕ → Store → Told → Option (List ℕ) → Type 0
IsSeen s n store told found = (state : State)
    → OfContents told (λ x. ShowsName told.places (view_of store) state n x
    → found ≡ see state s n)

-- which is at most 464 bytes
pub record ShowsSeen (s n : ℕ) (store : Store) (told : Told) (found : Option (Bor (List ℕ)))
    : Type 0 where
  pub seen : IsSeen s n store told (option_map (λ b. b.now) found)
  pub short : IfSome found (λ b. length b.now ≤ VALUE_LEN)

-- the record of a name, likewise
abbrev pub HasCommitted : ℕ → Store → Told → Option (List ℕ) → Type 0
HasCommitted n store told found = (state : State)
    → OfContents told (λ x. ShowsName told.places (view_of store) state n x
    → found ≡ get state.map n)

-- the session is open, and has its number still
pub record KeepsNumber (s : ℕ) (old new : Store) : Type 0 where
  pub session : IsOpenSession old.transactions.sessions s
  pub number : number_of new.transactions.sessions s ≡ number_of old.transactions.sessions s

-- ---- pages

-- Memory alone is worked on: the pages that are held or in frames stay so, and the chip isn't
-- asked.
pub record WorksInMemory (old : Store) (before : Told) (new : Store) (after : Told) : Type 0 where
  pub holds : KeepsHolds old new
  pub framed : KeepsFramed old.transactions.pages new.transactions.pages
  pub idle : after ≡ before

-- the pages that were held are, and this one
abbrev pub HoldsAlso : Store → ℕ → ℕ → Store → Type 0
HoldsAlso old u page new = (v q : ℕ) → IsHeld new.transactions.pages.pool.buffers v q
    ↔ (IsHeld old.transactions.pages.pool.buffers v q ⊎ IsSamePage u page v q)

-- the pages that were held are, but not this one
abbrev pub HoldsBut : Store → ℕ → ℕ → Store → Type 0
HoldsBut old u page new = (v q : ℕ) → IsHeld new.transactions.pages.pool.buffers v q
    ↔ (IsHeld old.transactions.pages.pool.buffers v q × ¬ IsSamePage u page v q)

-- the store with another pool
abbrev pub with_pool : Store → PoolView → Store
with_pool store pool = record store {
  transactions = record store.transactions {
    pages = record store.transactions.pages { pool = pool };
  };
}

-- the pool alone changed: its frames are as they were, and it is at rest
pub record IsRepooled (old new : Store) : Type 0 where
  pub rest : new ≡ with_pool old new.transactions.pages.pool
  pub frames : frames_in new.transactions.pages ≡ frames_in old.transactions.pages
  pub limit : new.transactions.pages.pool.limit ≡ old.transactions.pages.pool.limit
  pub at_rest : IsAtRest new.transactions.pages.pool

-- a use of the page is counted, and nothing else changes; a call that fails changes nothing
abbrev pub HoldsAgain : Result (Unit {0}) StoreFault → ℕ → ℕ → Store → Store → Type 0
HoldsAgain (Ok v) u page old new = (new ≡ with_pool old new.transactions.pages.pool)
    × UsesPage old.transactions.pages.pool new.transactions.pages.pool u page
HoldsAgain (Err e) u page old new = new ≡ old

-- the page is in a frame, and the one used last
abbrev pub IsUsedLastIn : Store → ℕ → ℕ → Type 0
IsUsedLastIn store u page = IsUsedLast store.transactions.pages.pool u page

-- ---- what is asked of the chip for a page

-- nothing where it is in a frame, only reads where a frame is free or the page that leaves one has
-- no records in memory, and no erase where a log sector is clean for them at home
pub record AsksLittle (u page : ℕ) (store : Store) (before after : Told) : Type 0 where
  pub idle : IsFramed store.transactions.pages u page → after ≡ before
  pub free : HasFreeFrame store.transactions.pages → Spends (Costs 0 0 0 []) before after
  pub frame : (after ≡ before) ⊎ AsksForFrame store.transactions.pages before after

-- for that of a name
abbrev pub AsksFor : ℕ → Store → Told → Told → Type 0
AsksFor n store before after = AsksLittle (home_of n).unit (home_of n).page store before after

-- and at most what writes the records of one page out, by the tables before and then
abbrev pub CostsOnePage : Bool → Store → Store → Told → Told → Type 0
CostsOnePage worn_out old new before after =
    Spends (ErasesAndLogs old.transactions.pages.parts.directory
    new.transactions.pages.parts.directory worn_out) before after

-- ---- calls that bring a name's page into a frame

-- it is what is wrong, unless a read failed
abbrev pub IsExactly : Option ChipFault → StoreFault → Type 0
IsExactly wrong fault = (e : ChipFault) × (fault ≡ Chip e) × (e ≢ ReadFault → wrong ≡ Some e)

-- Over contents that the tables mirror, it fails exactly with what is wrong with this page.
abbrev pub FailsAsPageOf : {T : Type 0} → ℕ → ℕ → Tables → Told → Result T StoreFault → Type 0
FailsAsPageOf u page t before result = OfContents before (λ x. (it : Layout)
    → Mirrors before.places (chart_of x) it t
    → IfErr result (IsExactly (load_fault x it (among t.active) u page)))

-- so does a call that is let in, where the page of the name is in a frame or a frame is free
abbrev pub FailsAsName : {T : Type 0} → Option StoreFault → ℕ → Store → Told → Result T StoreFault
    → Type 0
FailsAsName early n old before result = early ≡ None
    → (IsFramed old.transactions.pages (home_of n).unit (home_of n).page
    ⊎ HasFreeFrame old.transactions.pages)
    → FailsAsPageOf (home_of n).unit (home_of n).page (tables_in old.transactions.pages) before result

-- Such a call; done, the frame tells the name, and its page is the one used last. Where the page is
-- in a frame or a frame is free, no page leaves its frame, and it fails exactly with what is wrong
-- with that page; else with what is wrong with a page. It costs at most to write one page out.
pub record Fetches (early : Option StoreFault) (next : State → State) (n : ℕ) (old : Store)
    (before : Told) (result : Result (Unit {0}) StoreFault) (new : Store) (after : Told)
    : Type 0 where
  pub calls : Calls early next 14 old before result new after
  pub holds : KeepsHolds old new
  pub exact : FailsAsName early n old before result
  pub surely : early ≡ None → BlamesPagesSurely old before result new after
  pub names : OnOk result (FramesName n old before new)
  pub used : OnOk result (IsUsedLastIn new (home_of n).unit (home_of n).page)
  pub stays : KeepsFramedFor (home_of n).unit (home_of n).page old.transactions.pages
      new.transactions.pages
  pub costs : CostsOnePage (ends_worn_out result) old new before after

-- its answer, where one that lends what it found does all else
abbrev pub answered : {U : Type 0} → Result (Unit {0}) StoreFault → U → Result U StoreFault
answered (Ok v) found = Ok found
answered (Err e) found = Err e

-- A call that lends what the frame has of the name; done, the page is in a frame and the one used
-- last, and no other page leaves one where it was there before or a frame was free; then it fails
-- exactly with what is wrong with that page, else with what is wrong with a page. It costs at most
-- to write one page out.
pub record LooksAtStore {T : Type 0} (early : Option StoreFault) (next : State → State) (n : ℕ)
    (old : Store) (before : Told) (result : Result T StoreFault) (new : Store) (after : Told)
    : Type 0 where
  pub calls : Calls early next 14 old before result new after
  pub holds : KeepsHolds old new
  pub exact : FailsAsName early n old before result
  pub surely : early ≡ None → BlamesPagesSurely old before result new after
  pub framed : OnOk result (IsFramed new.transactions.pages (home_of n).unit (home_of n).page)
  pub used : OnOk result (IsUsedLastIn new (home_of n).unit (home_of n).page)
  pub stays : KeepsFramedFor (home_of n).unit (home_of n).page old.transactions.pages
      new.transactions.pages
  pub costs : CostsOnePage (ends_worn_out result) old new before after
