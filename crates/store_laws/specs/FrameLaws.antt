-- What each step makes of the frame of a page.
use Rattle.std.specs.Prelude.{ℕ, ◌≡◌, ◌<◌, ◌∷◌, ◌++◌, Bool, List, [], Some, None, ◌≤◌}
use Rattle.std.specs.FinMap.{get}
use Rattle.ipl_base.specs.Sizes.{size_of_values}
use Rattle.ipl_base.specs.declared.limits.TheConstants.{PAGES, SLOTS, PAGE_LEN}
use Rattle.ipl_model.specs.State.{State, see}
use Rattle.ipl_format.specs.Record.{Record}
use Rattle.ipl_format.specs.Page.{Slots, value_in}
use Rattle.ipl_meaning.specs.Chart.{Chart}
use Rattle.ipl_meaning.specs.Values.{Values, counts_for, after_records}
use Rattle.ipl_meaning.specs.Layout.{Entry, Shape, Layout, ReadsWell, records_of}
use Rattle.ipl_meaning.specs.Last.{last_that, carried}
use Rattle.ipl_meaning.specs.Stands.{Shows, page_in}
use Rattle.ipl_meaning.specs.Steps.{KeepsPages, with_unit, with_log, with_committed}
use Rattle.page_ops.specs.Pending.{Pendings, seen_by, without_pending, with_pending}
use Rattle.store_laws.specs.Pending.{Logs, SessionNumbers, with_records, without_number, with_number, name_at, HasPending, HasNoRecords, IsWrittenOut}
use Rattle.store_laws.specs.PendingLaws.{StateHasOneWriter, AreActive, NumberJoins, IsSameOrMerged}
use Rattle.store_laws.specs.Room.{PagesHaveRoom}
use Rattle.store_laws.specs.Frames.{IsFrameOf, pending_of}

-- a frame tells the record of a name of its page, and what each session sees of it
pub record TellsSlot (numbers : SessionNumbers) (state : State) (u page slot : ℕ) (values : Values)
    (pending : Pendings) : Type 0 where
  pub committed : values slot ≡ get state.map (name_at u page slot)
  pub seen : (s tid : ℕ) → numbers s ≡ Some tid
      → seen_by tid (values slot) (pending slot) ≡ see state s (name_at u page slot)

-- so it does where its page shows the map, whatever other pages do
abbrev pub FramesTell : Type 0
FramesTell =
    (units : ℕ) (c : Chart) (it : Layout) (logs : Logs) (numbers : SessionNumbers) (state : State) (active : ℕ → Bool)
    (u page slot : ℕ) (values : Values) (pending : Pendings)
    → HasPending units it logs numbers state → StateHasOneWriter state → AreActive numbers active
    → Shows c it.committed u (it.units u) page (page_in state.map u page) → u < units → page < PAGES → slot < SLOTS
    → IsFrameOf c it logs active u page values pending
    → TellsSlot numbers state u page slot values pending

-- ---- the steps

-- a page is read from the chip, where none of its records is in memory, and has room for its values
abbrev pub LoadsMakeFrames : Type 0
LoadsMakeFrames =
    (c : Chart) (it : Layout) (logs : Logs) (active : ℕ → Bool) (u page : ℕ) (base : Slots) (values : Values)
    (pending : Pendings)
    → ReadsWell c u (it.units u) page base → logs u page ≡ []
    → ((slot : ℕ) → slot < SLOTS
    → values slot ≡ after_records it.committed page slot (records_of (it.units u).log) (value_in base slot))
    → size_of_values values ≤ PAGE_LEN
    → ((slot : ℕ) → slot < SLOTS
    → pending slot ≡ pending_of (last_that (counts_for active page slot) (records_of (it.units u).log) None))
    → IsFrameOf c it logs active u page values pending

-- a session is opened, under a number that no record has
abbrev pub BeginsKeepFrames : Type 0
BeginsKeepFrames =
    (units : ℕ) (c : Chart) (it : Layout) (logs : Logs) (numbers : SessionNumbers) (active rest : ℕ → Bool) (s tid u page : ℕ)
    (values : Values) (pending : Pendings)
    → AreActive numbers active → AreActive (with_number numbers s (Some tid)) rest → numbers s ≡ None
    → HasNoRecords units it logs tid → u < units
    → IsFrameOf c it logs active u page values pending → IsFrameOf c it logs rest u page values pending

-- a write: the record is put behind those of its page, and its change into the slot
abbrev pub WritesKeepFrames : Type 0
WritesKeepFrames =
    (c : Chart) (it : Layout) (logs : Logs) (numbers : SessionNumbers) (active : ℕ → Bool) (s u : ℕ) (r : Record)
    (values : Values) (pending : Pendings)
    → AreActive numbers active → numbers s ≡ Some r.tid → IsFrameOf c it logs active u r.page values pending
    → IsFrameOf c it (with_records logs u r.page (logs u r.page ++ r ∷ [])) active u r.page values
    (with_pending pending r.slot (r.tid, r.change))

-- and on another page
abbrev pub OtherWritesKeepFrames : Type 0
OtherWritesKeepFrames =
    (c : Chart) (it : Layout) (logs : Logs) (active : ℕ → Bool) (u page v q : ℕ) (records : List Record)
    (values : Values) (pending : Pendings)
    → (v ≡ u → q ≡ page → ⊥) → IsFrameOf c it logs active v q values pending
    → IsFrameOf c it (with_records logs u page records) active v q values pending

-- records in memory are written to a log sector
abbrev pub LogSectorsKeepFrames : Type 0
LogSectorsKeepFrames =
    (places : ℕ) (c y : Chart) (it : Layout) (logs : Logs) (numbers : SessionNumbers) (state : State) (active : ℕ → Bool)
    (u page v q : ℕ) (e : Entry) (values : Values) (pending : Pendings)
    → HasPending it.count it logs numbers state → e.records ≡ logs u page
    → KeepsPages places c it y (with_log it u e) → v < it.count → q < PAGES
    → IsFrameOf c it logs active v q values pending
    → IsFrameOf y (with_log it u e) (with_records logs u page []) active v q values pending

-- a unit is merged
abbrev pub MergesKeepFrames : Type 0
MergesKeepFrames =
    (places : ℕ) (c y : Chart) (it : Layout) (logs : Logs) (active : ℕ → Bool) (u v q : ℕ) (fresh : Shape)
    (values : Values) (pending : Pendings)
    → records_of fresh.log ≡ carried active (records_of (it.units u).log)
    → KeepsPages places c it y (with_unit it u fresh) → v < it.count → q < PAGES
    → IsFrameOf c it logs active v q values pending → IsFrameOf y (with_unit it u fresh) logs active v q values pending

-- the status moves, perhaps after merges, or what doesn't count changes
abbrev pub OtherStepsKeepFrames : Type 0
OtherStepsKeepFrames =
    (places : ℕ) (c y : Chart) (it new : Layout) (logs : Logs) (active : ℕ → Bool) (v q : ℕ) (values : Values)
    (pending : Pendings)
    → IsSameOrMerged active (it.units v) (new.units v) → KeepsPages places c it y new → v < it.count → q < PAGES
    → IsFrameOf c it logs active v q values pending → IsFrameOf y new logs active v q values pending

-- a session is committed, all its records being on the chip: its changes become values, for which the page has room
abbrev pub CommitsKeepFrames : Type 0
CommitsKeepFrames =
    (places : ℕ) (c y : Chart) (it : Layout) (logs : Logs) (numbers : SessionNumbers) (state : State)
    (active rest after : ℕ → Bool) (s tid u page : ℕ) (values : Values) (pending : Pendings)
    → HasPending it.count it logs numbers state → PagesHaveRoom it.count c it state
    → StateHasOneWriter state → AreActive numbers active
    → AreActive (with_number numbers s None) rest → numbers s ≡ Some tid → IsWrittenOut logs tid
    → NumberJoins it.committed tid after → KeepsPages places c (with_committed it after) y (with_committed it after)
    → u < it.count → page < PAGES → IsFrameOf c it logs active u page values pending
    → IsFrameOf y (with_committed it after) logs rest u page
    (λ slot. seen_by tid (values slot) (pending slot)) (λ slot. without_pending tid (pending slot))

-- a session is aborted: its changes are dropped
abbrev pub AbortsKeepFrames : Type 0
AbortsKeepFrames =
    (units : ℕ) (c : Chart) (it : Layout) (logs : Logs) (numbers : SessionNumbers) (state : State) (active rest : ℕ → Bool)
    (s tid u page : ℕ) (values : Values) (pending : Pendings)
    → HasPending units it logs numbers state → StateHasOneWriter state → AreActive numbers active
    → AreActive (with_number numbers s None) rest → numbers s ≡ Some tid → u < units → page < PAGES
    → IsFrameOf c it logs active u page values pending
    → IsFrameOf c it (without_number logs tid) rest u page values (λ slot. without_pending tid (pending slot))
