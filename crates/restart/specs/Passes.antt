-- What a pass over the units makes of a chip and of its tables.
use Rattle.std.specs.Prelude.{ℕ, zero, suc, ◌≡◌, ◌≢◌, ◌⊎◌, ◌↔◌, ◌<◌, ◌≤◌, ◌*◌, nat_le, Bool, true, false, IsTrue, List, [], Contains, length, Some, Result, MatchResult, IfErr, if◌then◌else◌}
use Rattle.ipl_base.specs.declared.limits.TheConstants.{PAGES, FIRST_LOG_SECTOR}
use Rattle.chip_trait.specs.Story.{Story, Contents}
use Rattle.chip_trait.specs.Told.{History, Told, Rose}
use Rattle.ipl_base.specs.declared.fault.ChipFault.{ChipFault}
use Rattle.ipl_base.specs.Calls.{IsFailedCall}
use Rattle.ipl_base.specs.declared.fault.ChipFault.TheVariants.{ReadFault, Stopped, Damaged, Malformed, WornOut}
use Rattle.ipl_meaning.specs.Legible.{Legible}
use Rattle.ipl_meaning.specs.Agrees.{Agrees}
use Rattle.ipl_meaning.specs.Chart.{Chart, chart_of}
use Rattle.ipl_meaning.specs.Layout.{Entry, Shape, Layout, HasNoMark, records_of}
use Rattle.ipl_meaning.specs.Mirrors.{Mirrors}
use Rattle.ipl_meaning.specs.Rests.{StoryRests}
use Rattle.ipl_meaning.specs.Steps.{KeepsPages}
use Rattle.ipl_meaning.specs.Tables.{Places, StatusTable, Tables}
use Rattle.selective_merge.specs.Faults.{merge_fault, IsMergeable, FailsByChipAlone}
use Rattle.selective_merge.specs.Known.{KnowsPlaces}
use Rattle.selective_merge.specs.Pages.{IsBaseSpotBelow}
use Rattle.selective_merge.specs.Packs.{among, packs_of, entries_from}
use Rattle.place_taking.specs.Homes.{LeavesPlaces}
use Rattle.place_taking.specs.Spending.{RetiringCosts}
use Rattle.selective_merge.specs.Homes.{WearCause}
use Rattle.selective_merge.specs.Placing.{SaysErases}
use Rattle.selective_merge.specs.Throughout.{ChartsThroughout}
use Rattle.unit_io.specs.StepLaws.{Preserves}
use Rattle.txn_status.specs.Status.{keeps_of, room_of}
use Rattle.txn_status.specs.Switching.{ListsAt}
use Rattle.unit_io.specs.Costs.{is_erased}
use Rattle.unit_io.specs.Leads.{IsSteady}
use Rattle.unit_io.specs.Reads.{OfContents}
use Rattle.restart.specs.Joins.{joined}
use Rattle.restart.specs.Stuck.{HasFault, OneIsStuck}
use Rattle.restart.specs.Keeps.{IsLogged, IsLoggedBelow, KeepsBelow}

-- ---- which numbers are kept

-- with the committed numbers of this log, those that are kept are at most as many as a new status place is given
abbrev pub fits : StatusTable → List Entry → List ℕ → Bool
fits status log kept = nat_le (length (joined status.numbers (records_of log) kept)) (keeps_of status.most)

-- what is kept once the first n units were passed: the numbers of each join, unless they don't fit
unfoldable pub kept_below : StatusTable → Layout → ℕ → List ℕ
kept_below status it zero = []
kept_below status it (suc n) =
    if fits status (it.units n).log (kept_below status it n)
    then joined status.numbers (records_of (it.units n).log) (kept_below status it n)
    else kept_below status it n

-- the numbers of the n-th unit fit
abbrev pub has_room : StatusTable → Layout → ℕ → Bool
has_room status it n = fits status (it.units n).log (kept_below status it n)

-- ---- which units are merged

-- the log is what a merge carries of the old one, packed in order
pub record IsRepacked (active : List ℕ) (u : ℕ) (old new : Shape) : Type 0 where
  pub serial : ℕ
  pub log_is : new.log ≡ entries_from new.home u new.head.generation FIRST_LOG_SECTOR serial
      (packs_of active (records_of old.log))

-- There are as many units. Of the first n those whose numbers fit are as they were, and the others
-- were merged; all units behind them are as they were.
pub record ArePassed (n : ℕ) (active : List ℕ) (status : StatusTable) (it now : Layout) : Type 0 where
  pub count : now.count ≡ it.count
  pub same : (u : ℕ) → u < it.count → (n ≤ u) ⊎ IsTrue (has_room status it u)
      → now.units u ≡ it.units u
  pub merged : (u : ℕ) → u < n → has_room status it u ≡ false
      → IsRepacked active u (it.units u) (now.units u)

-- there are as many units, and each is as it was, or was merged
pub record AreAlike (active : List ℕ) (it now : Layout) : Type 0 where
  pub count : now.count ≡ it.count
  pub units : (u : ℕ) → u < it.count
      → (now.units u ≡ it.units u) ⊎ IsRepacked active u (it.units u) (now.units u)

-- ---- the pass

-- All units were passed, and the tables mirror what the chip holds then. Some units were merged: where none
-- is stuck, those whose numbers don't fit. All pages show what they showed, and the same numbers are
-- committed. Of the numbers in live records exactly the committed ones are kept.
pub record HasFound (places : ℕ) (c : Chart) (it : Layout) (t : Tables) (kept : List ℕ)
    (new : Told) (after : Tables) : Type 0 where
  pub contents : Contents
  pub told : new.contents ≡ Some contents
  pub now : Layout
  pub mirrors : Mirrors places (chart_of contents) now after
  pub pages : KeepsPages places c it (chart_of contents) now
  pub alike : AreAlike t.active it now
  pub passed : (ArePassed it.count t.active t.status it now
      × (kept ≡ kept_below t.status it it.count)) ⊎ OneIsStuck c it t
  pub committed : now.committed ≡ it.committed
  pub keeps : KeepsBelow now.count now kept

-- It ended before all units were passed: some were merged, and where none is stuck, of the first ones
-- those whose numbers don't fit. The tables mirror the chart, all pages show what they showed, and the same
-- numbers are committed.
pub record HasStopped (places : ℕ) (c : Chart) (it : Layout) (t after : Tables)
    (y : Chart) : Type 0 where
  pub now : Layout
  pub mirrors : Mirrors places y now after
  pub pages : KeepsPages places c it y now
  pub alike : AreAlike t.active it now
  pub passed : ((n : ℕ) × ArePassed n t.active t.status it now) ⊎ OneIsStuck c it t
  pub committed : now.committed ≡ it.committed

-- the chip tells contents whose chart is so
abbrev pub TellsChart : (Chart → Type 0) → Told → Type 0
TellsChart F new = (y : Contents) × (new.contents ≡ Some y) × F (chart_of y)

-- where the tables mirror what the chip holds, exactly the committed numbers that a live record
-- has are kept
abbrev pub KeepsAll : ℕ → Tables → List ℕ → Told → Type 0
KeepsAll places t kept told = OfContents told (λ x. (it : Layout)
    → Mirrors places (chart_of x) it t → KeepsBelow it.count it kept)

-- over contents that are told: done, or it ended before; and where a write failed nothing is
-- promised
abbrev pub PassEnds : ℕ → Chart → Layout → Tables → Result (Unit {0}) ChipFault → Told → Tables
    → Type 0 → Type 0
PassEnds places c it t result new after Done = MatchResult result
    (λ _. Done) (λ fault. fault ≢ Stopped → TellsChart (HasStopped places c it t after) new)

-- a chip that tells its contents goes on telling them, unless a write failed
abbrev pub GoesOnTelling : Result (Unit {0}) ChipFault → Told → Told → Type 0
GoesOnTelling result old new =
    ChartsThroughout (λ done c y. Unit {0}) (λ c y. Unit {0}) result old new

-- ---- the renewal

-- the header of the status place lists exactly the places that are retired
abbrev pub ListsRetired : Tables → Chart → Type 0
ListsRetired t c = ListsAt t.status.place t.places.retired c

-- All units were passed, and the status has a new place with the numbers that are kept, whose header
-- says how often the tables have it erased, and lists exactly the places that are retired in them; no
-- mark stands there. Some units were merged: where none is stuck, those whose numbers don't fit.
-- All pages show what they showed. Of the numbers that were committed exactly those are so still that a
-- live record has.
pub record HasRenewed (places : ℕ) (c : Chart) (it : Layout) (t after : Tables)
    (y : Chart) : Type 0 where
  pub now : Layout
  pub mirrors : Mirrors places y now after
  pub pages : KeepsPages places c it y now
  pub alike : AreAlike t.active it now
  pub passed : (ArePassed it.count t.active t.status it now
      × (now.committed ≡ among (kept_below t.status it it.count))) ⊎ OneIsStuck c it t
  pub exact : (tid : ℕ) → IsTrue (now.committed tid)
      ↔ (IsTrue (it.committed tid) × IsLoggedBelow now.count now tid)
  pub unmarked : HasNoMark y now.status now.head.generation
  pub says : SaysErases after after.status.place y
  pub lists : ListsRetired after y

-- whatever layout the tables mirrored, the status was renewed
abbrev pub RenewsAny : ℕ → Tables → Tables → Chart → Chart → Type 0
RenewsAny places t after c y = (it : Layout) → Mirrors places c it t
    → HasRenewed places c it t after y

-- whatever layout the tables mirrored, it ended before that
abbrev pub StopsAny : ℕ → Tables → Tables → Chart → Chart → Type 0
StopsAny places t after c y = (it : Layout) → Mirrors places c it t
    → HasStopped places c it t after y

-- a chip that tells its contents goes on telling them, unless a write failed: renewed, or it ended
-- before that
abbrev pub RenewsTold : ℕ → Tables → Tables → Told → Result (Unit {0}) ChipFault → Told → Type 0
RenewsTold places t after old result new =
    ChartsThroughout (λ done. RenewsAny places t after) (StopsAny places t after) result old new

-- over a story that rests on a map and with which the tables agree: it keeps the map, however it
-- ends
abbrev pub KeepsInSteps : ℕ → Tables → Tables → Told → Result (Unit {0}) ChipFault → Told → Type 0
KeepsInSteps places t after old result new = (m : Legible) (it : Layout) (h : History)
    → IsSteady h old → StoryRests places m h → Agrees places h it t
    → Preserves places m t after h result old new

-- whatever the chip tells: the same sessions are open, there are as many units, the tables know each
-- place, and as many numbers have room; done, the status place takes at least 191 commit sectors more, and not
-- done, the status is as it was
pub record HoldsRenewed (places : ℕ) (before : Tables) (result : Result (Unit {0}) ChipFault)
    (after : Tables) : Type 0 where
  pub active : after.active ≡ before.active
  pub units : length after.places.current ≡ length before.places.current
  pub known : KnowsPlaces places after
  pub most : after.status.most ≡ before.status.most
  pub ends : MatchResult result
      (λ _. 191 ≤ room_of after.status) (λ _. after.status ≡ before.status)

-- ---- why it fails over what the chip holds

-- at most as many numbers as a new status place is given, where so many have room, have each committed one that a
-- live record of these units has
abbrev pub FitTogether : ℕ → Layout → (ℕ → Bool) → Type 0
FitTogether most it some = (numbers : List ℕ) × (length numbers ≤ keeps_of most)
    × ((u tid : ℕ) → u < it.count → some u ≡ true → IsTrue (it.committed tid)
    → IsLogged (it.units u).log tid → Contains numbers tid)

-- the numbers of some units that can't be merged are too many
pub record StuckDontFit (x : Contents) (it : Layout) (t : Tables) : Type 0 where
  pub some : ℕ → Bool
  pub stuck : (u : ℕ) → u < it.count → some u ≡ true → HasFault x it t u
  pub many : ¬ FitTogether t.status.most it some

-- This is wrong with a unit that has to be merged: a page, or how many log sectors are carried. And the numbers of
-- the units with which something is wrong are too many, whatever the others have.
pub record IsRenewalFault (x : Contents) (it : Layout) (t : Tables) (e : ChipFault) : Type 0 where
  pub unit : ℕ
  pub low : unit < it.count
  pub fault : merge_fault x t (it.units unit) unit ≡ Some e
  pub many : StuckDontFit x it t

-- it is such a fault, unless a call of the chip failed
abbrev pub FailsAsPass : Contents → Layout → Tables → ChipFault → Type 0
FailsAsPass x it t e = ¬ IsFailedCall e → IsRenewalFault x it t e

-- over contents that the tables mirror it fails so alone
abbrev pub FailsAsRenewal : ℕ → Tables → Result (Unit {0}) ChipFault → Told → Type 0
FailsAsRenewal places t result told = OfContents told (λ x. (it : Layout)
    → Mirrors places (chart_of x) it t → IfErr result (FailsAsPass x it t))

-- of each unit but these all pages show values, and at most 12 log sectors would be carried
abbrev pub AreMergeableBut : (ℕ → Bool) → Chart → Layout → Tables → Type 0
AreMergeableBut some c it t = (u : ℕ) → u < it.count → some u ≡ false
    → IsMergeable c it.committed t (it.units u) u

-- over contents that the tables mirror, where all units can be merged but some, and the numbers of those fit
-- together, it fails only where a call of the chip failed
abbrev pub CompletesRenewal : ℕ → Tables → Result (Unit {0}) ChipFault → Told → Type 0
CompletesRenewal places t result told = OfContents told (λ x. (it : Layout)
    → Mirrors places (chart_of x) it t → (some : ℕ → Bool)
    → AreMergeableBut some (chart_of x) it t → FitTogether t.status.most it some → FailsByChipAlone result)

-- ---- costs

-- At most so many erases are tried, and one more for each place that is retired; there are at most
-- three barriers for each of so many; only what was erased before is programmed; what is found worn is
-- retired; and a unit whose place was erased is known.
pub record ErasesAtMost (before after : Places) (n : ℕ) (worn_out : Bool) (added : Story)
    : Type 0 where
  pub costs : RetiringCosts before after n 0 (3 * n) [] added
  pub places : LeavesPlaces before after worn_out added

-- the place was erased among these events
abbrev pub HasErased : ℕ → Story → Type 0
HasErased place added = is_erased added place ≡ true

-- ---- causes

-- why a renewal fails, whatever the chip tells: a read or a write failed, or too many places are worn,
-- by the directory then, and that count rose; or a sector isn't what it must be, and where it is damaged
-- it is a base sector whose sums differ
abbrev pub RenewCause : Places → ChipFault → Told → Told → Type 0
RenewCause after ReadFault old new = Rose old.read_faults new.read_faults
RenewCause after Stopped old new = Rose old.write_faults new.write_faults
RenewCause after (Damaged p s stored computed) old new =
    IsBaseSpotBelow PAGES s × (stored ≢ computed)
RenewCause after (Malformed p s) old new = Unit {0}
RenewCause after (WornOut n) old new = WearCause after n old new
