-- What an opening leaves that ends with a new status place.
use Rattle.std.specs.Prelude.{ℕ, ◌≡◌, ◌≢◌, ◌⊎◌, ◌↔◌, ◌<◌, ◌≤◌, ◌+◌, ◌*◌, ◌^◌, ◌||◌, [], Bool, true, false, IsTrue, is_ok, List, length, Contains, Some, None, Result, Ok, Err, MatchResult, OnOk, IfErr}
use Rattle.ipl_base.specs.declared.limits.TheConstants.{PAGES}
use Rattle.chip_trait.specs.Story.{Story, Contents}
use Rattle.chip_trait.specs.Told.{History, Told, Rose}
use Rattle.ipl_base.specs.declared.fault.ChipFault.{ChipFault}
use Rattle.ipl_base.specs.Calls.{IsFailedCall}
use Rattle.ipl_base.specs.declared.fault.ChipFault.TheVariants.{ReadFault, Stopped, Damaged, WornOut}
use Rattle.ipl_base.specs.declared.fault.ImageFault.{ImageFault}
use Rattle.ipl_base.specs.declared.fault.ImageFault.TheVariants.{Geometry, NotFormatted, Missing, Chip, Spent, NoSpare, TooManyNumbers}
use Rattle.ipl_meaning.specs.Legible.{Legible, Legibility}
use Rattle.ipl_meaning.specs.Agrees.{IsTidy}
use Rattle.ipl_meaning.specs.Chart.{Chart, chart_of}
use Rattle.ipl_meaning.specs.Layout.{Layout, Laid, HasNoMark}
use Rattle.ipl_meaning.specs.Mirrors.{Mirrors}
use Rattle.ipl_meaning.specs.Rests.{EachStands, StoryRests}
use Rattle.ipl_meaning.specs.Stands.{Says}
use Rattle.ipl_meaning.specs.Steps.{KeepsPages}
use Rattle.ipl_meaning.specs.Tables.{Places, Tables, IsCountedClean}
use Rattle.selective_merge.specs.Faults.{unit_fault}
use Rattle.selective_merge.specs.Known.{KnowsPlaces}
use Rattle.ipl_meaning.specs.Chosen.{units_at}
use Rattle.ipl_meaning.specs.Faults.{first_fault, greatest_found}
use Rattle.ipl_meaning.specs.Opened.{IsUnused}
use Rattle.ipl_meaning.specs.LaidOut.{layout_in, retired_at}
use Rattle.place_taking.specs.Homes.{LeavesPlaces}
use Rattle.place_taking.specs.Spending.{RetiringCosts, tells_worn}
use Rattle.restart.specs.Bytes.{ReadsBytes}
use Rattle.restart.specs.Looks.{OnlyReads, AreTooMany, numbers_in}
use Rattle.restart.specs.Opened.{NoneIsClean, CountsMarked, CountsWhole, KnowsWhole}
use Rattle.selective_merge.specs.Homes.{WearCause}
use Rattle.selective_merge.specs.Placing.{SaysErases}
use Rattle.unit_io.specs.Steps.{Settled, EndsWith, Outcome, TidyWork}
use Rattle.txn_status.specs.Status.{keeps_of, room_of}
use Rattle.unit_io.specs.Accounts.{Accounts}
use Rattle.unit_io.specs.Costs.{Spends}
use Rattle.unit_io.specs.Leads.{IsSteady}
use Rattle.unit_io.specs.Reads.{OfContents}
use Rattle.unit_io.specs.Unread.{ReadsEachOnce}
use Rattle.restart.specs.Keeps.{IsLoggedBelow}
use Rattle.restart.specs.Passes.{FitTogether, HasErased, TellsChart, ListsRetired}
use Rattle.restart.specs.Securing.{knows_logs, waits_for, NoneMarked}

-- ---- what the chip holds

-- The chart had no fault, and was laid out so. There are as many units, all pages show what they
-- showed, and of the numbers that were committed exactly those are so still that a live record has;
-- the tables mirror the new chart, in whose status place no mark stands, and whose header says how often
-- they have it erased, and lists exactly the places that are retired in them.
pub record HasOpened (places : ℕ) (c : Chart) (after : Tables) (y : Chart) : Type 0 where
  pub none : first_fault c places ≡ None
  pub laid : Laid places c (layout_in c places)
  pub now : Layout
  pub count : now.count ≡ (layout_in c places).count
  pub mirrors : Mirrors places y now after
  pub pages : KeepsPages places c (layout_in c places) y now
  pub exact : (tid : ℕ) → IsTrue (now.committed tid)
      ↔ (IsTrue ((layout_in c places).committed tid) × IsLoggedBelow now.count now tid)
  pub unmarked : HasNoMark y now.status now.head.generation
  pub says : SaysErases after after.status.place y
  pub lists : ListsRetired after y

-- it is what is wrong with the first page of a unit that doesn't read well or, with its committed
-- records, is more than a page holds
pub record IsPageFault (places : ℕ) (x : Contents) (e : ImageFault) : Type 0 where
  pub fault : ChipFault
  pub is : e ≡ Chip fault
  pub unit : ℕ
  pub low : unit < (layout_in (chart_of x) places).count
  pub page : unit_fault x (layout_in (chart_of x) places) unit ≡ Some fault

-- the fault is the first one of the chart; or it has none, and it is that of a page of a unit
abbrev pub IsOpeningFault : ℕ → Contents → ImageFault → Type 0
IsOpeningFault places x e =
    (first_fault (chart_of x) places ≡ Some e)
    ⊎ ((first_fault (chart_of x) places ≡ None) × IsPageFault places x e)

-- a call of the chip failed
abbrev pub FailsByCallAlone : ImageFault → Type 0
FailsByCallAlone e = (fault : ChipFault) × (e ≡ Chip fault) × IsFailedCall fault

-- it failed for no fault of what the chip holds: a call of the chip failed, or the committed numbers have no
-- room in memory, of which `OpeningCause` says when it is so
abbrev pub FailsApart : ImageFault → Type 0
FailsApart e = FailsByCallAlone e ⊎ (e ≡ TooManyNumbers)

-- over contents that are told: opened, or this fault, unless it failed apart from what they hold
abbrev pub RecoversTold : ℕ → Told → Result (Unit {0}) ImageFault → Tables → Told → Type 0
RecoversTold places old result after new = (x : Contents) → old.contents ≡ Some x
    → MatchResult result (λ _. TellsChart (HasOpened places (chart_of x) after) new)
    (λ e. ¬ FailsApart e → IsOpeningFault places x e)

-- a chip whose contents have a fault was only read, and it fails with that one, or since a read
-- failed or the committed numbers have no room
abbrev pub LooksAtFaults : ℕ → Told → Result (Unit {0}) ImageFault → Told → Type 0
LooksAtFaults places old result new = OfContents old (λ x. (e : ImageFault)
    → first_fault (chart_of x) places ≡ Some e
    → OnlyReads old new × IfErr result (λ f. (f ≡ e) ⊎ (f ≡ Chip ReadFault) ⊎ (f ≡ TooManyNumbers)))

-- of all units but these each page is said of
abbrev pub SaysAllBut : (ℕ → Bool) → ℕ → Legibility → Type 0
SaysAllBut some count pages = (u page : ℕ) → u < count → page < PAGES → some u ≡ false → pages.reads u page ≡ true

-- Over contents that have no fault, and of which all pages say a map but those of some units, it fails only so, if the
-- numbers of these units fit together.
abbrev pub CompletesOpening : ℕ → ℕ → Result (Unit {0}) ImageFault → Told → Type 0
CompletesOpening most places result told = OfContents told (λ x. (m : Legible) (some : ℕ → Bool)
    → first_fault (chart_of x) places ≡ None
    → Says places (chart_of x) (layout_in (chart_of x) places) m
    → SaysAllBut some (layout_in (chart_of x) places).count m.pages
    → FitTogether most (layout_in (chart_of x) places) some
    → IfErr result FailsApart)

-- ---- how often it reads

-- at most as many numbers as a new status place is given, where so many have room, have each committed one that a
-- live record of the chart has
abbrev pub NumbersFit : ℕ → ℕ → Chart → Type 0
NumbersFit most places c = (numbers : List ℕ) × (length numbers ≤ keeps_of most)
    × ((tid : ℕ) → IsTrue ((layout_in c places).committed tid)
    → IsLoggedBelow (layout_in c places).count (layout_in c places) tid → Contains numbers tid)

-- over contents whose numbers fit it reads each sector at most once, whatever else it does
abbrev pub ReadsOnceWhereFit : ℕ → ℕ → Told → Told → Type 0
ReadsOnceWhereFit most places old new =
    OfContents old (λ x. NumbersFit most places (chart_of x) → Spends ReadsEachOnce old new)

-- ---- what it erases

-- the fault tells that too many places are worn
abbrev pub tells_wear : ImageFault → Bool
tells_wear Geometry = false
tells_wear NotFormatted = false
tells_wear (Missing u) = false
tells_wear (Chip fault) = tells_worn fault
tells_wear Spent = false
tells_wear (NoSpare p) = false
tells_wear TooManyNumbers = false

-- it ended since too many places are worn
abbrev pub ends_worn_out : Result (Unit {0}) ImageFault → Bool
ends_worn_out (Ok v) = false
ends_worn_out (Err fault) = tells_wear fault

-- of the places that aren't used those are retired that the status header lists
abbrev pub FindsRetired : ℕ → Chart → Places → Type 0
FindsRetired places c found = (p : ℕ) → Contains found.retired p
    ↔ (Contains (retired_at c places) p × IsUnused places c p)

-- At most so many erases are tried, and one more for each place that is retired; there are at most
-- three barriers for each of so many, and so many more that were waited for before; only what was
-- erased before is programmed; what is found worn is retired; and a unit whose place was erased is known.
pub record ErasesWaiting (before after : Places) (n waits : ℕ) (worn_out : Bool) (added : Story)
    : Type 0 where
  pub costs : RetiringCosts before after n 0 (waits + 3 * n) [] added
  pub places : LeavesPlaces before after worn_out added

-- From the directory that it found at most one erase is tried for each unit and one for the status
-- place, and one more for each place that is retired; what is found worn is retired, and a unit whose
-- place was erased is known; and one barrier more is asked where something is known by a mark. Done, or where too many places are worn, the chip
-- holds what that directory was found by, and it has as many units as that says.
pub record ErasesOpening (marks : Bool) (places : ℕ) (result : Result (Unit {0}) ImageFault)
    (after : Places) (old new : Told) : Type 0 where
  pub found : Places
  pub erases : Spends (ErasesWaiting found after (length after.current + 1) (waits_for found)
      (ends_worn_out result)) old new
  pub unmarked : marks ≡ false → knows_logs found ≡ false
  pub finds : (is_ok result || ends_worn_out result) ≡ true
      → OfContents old (λ x. FindsRetired places (chart_of x) found)
  pub units : (is_ok result || ends_worn_out result) ≡ true
      → OfContents old (λ x. length after.current ≡ units_at (chart_of x) places)

-- ---- what it takes from marks

-- The tables, as they were read, count as clean what is marked; and nothing, where marks don't count.
pub record TakesMarks (marks : Bool) (places : ℕ) (old : Told) (first : Tables) : Type 0 where
  pub none : marks ≡ false → NoneIsClean first
  pub marked : OfContents old (λ x. CountsMarked places x first)

-- Where marks count, something is known of each unit that was marked and whose log is whole; and where the numbers
-- fit, so that no unit is merged, each of its sectors that was marked counts as clean.
pub record CountsMarks (marks : Bool) (places : ℕ) (old : Told) (after : Tables) : Type 0 where
  pub knows : marks ≡ true → OfContents old (λ x. KnowsWhole places x after)
  pub counts : marks ≡ true
      → OfContents old (λ x. NumbersFit after.status.most places (chart_of x) → CountsWhole places x after)

-- Whatever the chip holds, the events are lawful after any lawful ones that leave clean what was counted
-- so by marks at first; and done, what the tables count as clean is clean.
pub record TidiesOpening (marks : Bool) (places : ℕ) (old : Told)
    (result : Result (Unit {0}) ImageFault) (after : Tables) (new : Told) : Type 0 where
  pub first : Tables
  pub takes : TakesMarks marks places old first
  pub tidies : Spends (TidyWork (IsCountedClean first) (IsCountedClean after)
      (is_ok result ≡ true)) old new

-- ---- what a power cut leaves

-- the story rests on the map, and what the tables count as clean is blank and untouched
pub record RestsTidily (places : ℕ) (m : Legible) (after : Tables) (k : History) : Type 0 where
  pub rests : StoryRests places m k
  pub tidy : IsTidy k after

-- Over a story that rests on a map: at each moment a power cut leaves the map, and where no write
-- failed the story rests on it. The events are lawful after any lawful ones that leave clean what was
-- counted so by marks at first; and done, what the tables count as clean is clean after such events,
-- and in any case blank and untouched.
abbrev pub RecoversInSteps : Bool → ℕ → Told → Result (Unit {0}) ImageFault → Tables → Told → Type 0
RecoversInSteps marks places old result after new = (m : Legible) (h : History)
    → IsSteady h old → StoryRests places m h
    → (first : Tables) × TakesMarks marks places old first
    × Outcome (EachStands places m)
    (TidyWork (IsCountedClean first) (IsCountedClean after) (is_ok result ≡ true))
    (Settled result old new)
    (EndsWith result (λ v k. RestsTidily places m after k) (λ k. StoryRests places m k)) h old new

-- ---- whatever the chip tells

-- no session is open, the tables know each place, the status place takes at least 191 commit sectors more,
-- and nothing is known by a mark any more
pub record HoldsOpened (places : ℕ) (after : Tables) : Type 0 where
  pub active : after.active ≡ []
  pub known : KnowsPlaces places after
  pub room : 191 ≤ room_of after.status
  pub ended : NoneMarked after.places

-- why it fails: a read or a write failed, or too many places are worn, by the directory then, and that
-- count rose; or the chip has a fault, and where a sector is damaged its sums differ; or more numbers are committed in
-- its status place than have room
pub record OpeningCause (most : ℕ) (after : Places) (e : ImageFault) (old new : Told) : Type 0 where
  pub read : e ≡ Chip ReadFault → Rose old.read_faults new.read_faults
  pub stopped : e ≡ Chip Stopped → Rose old.write_faults new.write_faults
  pub worn : (n : ℕ) → e ≡ Chip (WornOut n) → WearCause after n old new
  pub damaged : (p s stored computed : ℕ) → e ≡ Chip (Damaged p s stored computed) → stored ≢ computed
  pub many : e ≡ TooManyNumbers → AreTooMany most (numbers_in old.places) old

-- ---- an opening, however it ends

-- Why it fails over what the chip holds: a chip with a fault was only read; where it has none and its pages say a
-- map, only since a call of the chip failed or the committed numbers have no room, and then the chip was only read too; and
-- what it read is bytes, also where the numbers are used up.
pub record OpeningFails (most places : ℕ) (result : Result (Unit {0}) ImageFault) (old new : Told) : Type 0 where
  pub looks : LooksAtFaults places old result new
  pub complete : CompletesOpening most places result old
  pub unwritten : IfErr result (λ e. e ≡ TooManyNumbers → OnlyReads old new)
  pub bytes : ReadsBytes places old result

-- the next number comes behind the greatest that was found, and few were drawn in between
abbrev pub IsDrawnBehind : ℕ → ℕ → Type 0
IsDrawnBehind found next = (found + 1 ≤ next) × (next ≤ found + 1 + 2 ^ 14)

-- What it leaves: done, the tables know each place of the chip, and few numbers were drawn behind the greatest that
-- was found, which leaves most of them. What they count as clean is clean after lawful events, and what was marked is
-- counted so; and where it failed, this is its cause.
pub record LeavesOpened (marks : Bool) (after : Tables) (result : Result (Unit {0}) ImageFault) (old new : Told)
    : Type 0 where
  pub holds : OnOk result (HoldsOpened old.places after)
  pub number : OnOk result (OfContents old (λ x. IsDrawnBehind (greatest_found (chart_of x) old.places) after.next))
  pub left : OnOk result (after.next ≤ 2 ^ 63 + 2 ^ 14)
  pub tidy : TidiesOpening marks old.places old result after new
  pub marked : OnOk result (CountsMarks marks old.places old after)
  pub accounts : Accounts (OpeningCause after.status.most after.places) result old new

-- What it costs: so many erases and barriers; where the numbers fit, each sector is read at most once; and done,
-- the place that the status has then was erased.
pub record OpeningSpends (marks : Bool) (after : Tables) (result : Result (Unit {0}) ImageFault) (old new : Told)
    : Type 0 where
  pub costs : ErasesOpening marks old.places result after.places old new
  pub once : ReadsOnceWhereFit after.status.most old.places old new
  pub renewed : OnOk result (Spends (HasErased after.status.place) old new)
