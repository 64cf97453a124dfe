-- What a new status place makes of all tables.
use Rattle.std.specs.Prelude.{ℕ, ◌≡◌, ◌⊎◌, ◌<◌, ◌≤◌, ◌+◌, List, length, false, Result, is_ok, OnOk, IfErr}
use Rattle.chip_trait.specs.Told.{History, Told}
use Rattle.ipl_base.specs.declared.fault.ChipFault.{ChipFault}
use Rattle.ipl_base.specs.declared.fault.ChipFault.TheVariants.{Stopped}
use Rattle.ipl_meaning.specs.Legible.{Legible}
use Rattle.ipl_meaning.specs.Agrees.{Agrees}
use Rattle.ipl_meaning.specs.Chart.{Chart}
use Rattle.ipl_meaning.specs.Layout.{Layout}
use Rattle.ipl_meaning.specs.Mirrors.{Mirrors}
use Rattle.ipl_meaning.specs.Rests.{EachStands, StoryRests}
use Rattle.ipl_meaning.specs.Steps.{KeepsNumbers}
use Rattle.ipl_meaning.specs.Tables.{IsFree, Places, StatusTable, Tables, with_use, with_erased}
use Rattle.selective_merge.specs.Known.{KnowsPlaces}
use Rattle.number_set.specs.Numbers.{among}
use Rattle.txn_status.specs.Status.{parts_of, room_of, switched_to}
use Rattle.unit_io.specs.Steps.{Steps, RestsAgreeing, Tidies}
use Rattle.txn_status.specs.Switching.{MayKeep, Switched, RestsSwitched}
use Rattle.place_taking.specs.Spending.{ErasesFor, is_worn_out}
use Rattle.place_taking.specs.Takes.{IsAsideFrom, IsNotTaken, IsTakenFrom}
use Rattle.unit_directory.specs.Free.{free_count, IsNextFree, IsReadyToTake}
use Rattle.unit_io.specs.Accounts.{Accounts}
use Rattle.unit_io.specs.Costs.{Spends}
use Rattle.unit_io.specs.Leads.{IsSteady}
use Rattle.unit_io.specs.Unread.{ReadsNothing}

-- ---- tables

-- the tables have this directory, this status and this counter
pub record HasTables (t : Tables) (directory : Places) (status : StatusTable) (next : ℕ) : Type 0 where
  pub places_is : t.places ≡ directory
  pub status_is : t.status ≡ status
  pub next_is : t.next ≡ next

-- the tables with another directory, another status and another counter
abbrev pub with_tables : Tables → Places → StatusTable → ℕ → Tables
with_tables t directory status next =
    record t { places = directory; status = status; next = next }

-- the next free place in its turn was taken and is the status place, under the number that was next
-- and with exactly these numbers, and the old one is free
pub record MovesStatus (before : Places) (old : StatusTable) (next : ℕ) (kept : List ℕ)
    (after : Places) (new : StatusTable) : Type 0 where
  pub place : ℕ
  pub mid : Places
  pub taken : IsTakenFrom before place mid
  pub status_is : new ≡ switched_to old.most place next kept
  pub places_is : after ≡ with_use mid old.place false

-- Some places were found worn and are retired, and else the directory is as it was; or besides a write
-- failed once the next free place was erased, which is free again, and one erase more counts for it.
abbrev pub IsGivenBack : Places → ChipFault → Places → Type 0
IsGivenBack before fault after = IsAsideFrom before after
    ⊎ ((fault ≡ Stopped) × ((mid : Places) × (place : ℕ)
    × IsAsideFrom before mid × IsNextFree mid place × (after ≡ with_erased mid place)))

-- each unit is where it was, with as much known of its log sectors, and the overflow lists are as they were
pub record KeepsLogs (t after : Tables) : Type 0 where
  pub current : after.places.current ≡ t.places.current
  pub written : after.places.written ≡ t.places.written
  pub overflow : after.overflow ≡ t.overflow

-- the numbers may be kept: of those in live log sectors they are the committed ones, they were
-- drawn, and none is of an open session
pub record MayRenew (it : Layout) (t : Tables) (kept : List ℕ) : Type 0 where
  pub keeps : KeepsNumbers it (among kept)
  pub may : MayKeep t kept

-- ---- a new status place

-- The status may get another place on a chip of so many: a place may be taken, and the old one is in use.
pub record MayMoveStatus (places : ℕ) (directory : Places) (status : StatusTable) : Type 0 where
  pub size : length directory.in_use ≡ places
  pub ready : IsReadyToTake directory
  pub held : ¬ IsFree directory status.place
  pub placed : status.place < places

-- Done, the status has another place, which takes at least 191 commit sectors more; else it is as it was, and the
-- place that was taken is given back. No place is lost to it, and the numbers that it took were drawn.
pub record PlacesStatus (before : Places) (old : StatusTable) (next : ℕ) (kept : List ℕ)
    (result : Result (Unit {0}) ChipFault) (after : Places) (new : StatusTable) (then : ℕ) : Type 0 where
  pub moved : OnOk result (MovesStatus before old next kept after new)
  pub same : IfErr result (λ fault. IsGivenBack before fault after × (new ≡ old))
  pub room : OnOk result (191 ≤ room_of new)
  pub free : free_count after.in_use + length after.retired ≡ free_count before.in_use + length before.retired
  pub drawn : OnOk result (then ≡ next + 1 + parts_of kept)
  pub draws : (next < then) × (then ≤ next + 65)

-- Tables with that directory, status and counter that know each place of the chip know each then, and what they
-- count as clean is erased and programmed as they say.
pub record KeepsRenewed (before : Places) (old : StatusTable) (next : ℕ) (result : Result (Unit {0}) ChipFault)
    (after : Places) (new : StatusTable) (then : ℕ) (chip told : Told) : Type 0 where
  pub known : (t : Tables) → HasTables t before old next → KnowsPlaces chip.places t
      → KnowsPlaces chip.places (with_tables t after new then)
  pub tidy : (t : Tables) → HasTables t before old next → KnowsPlaces chip.places t
      → Tidies t result (with_tables t after new then) chip told

-- One erase more is tried than places are retired, each of the next free place in its turn, then programs of the
-- place that is taken alone, and three barriers; nothing is read. Where it failed, this is its cause.
pub record WritesStatus (before after : Places) (new : StatusTable) (result : Result (Unit {0}) ChipFault)
    (chip told : Told) : Type 0 where
  pub costs : Spends (ErasesFor before after 3 new.place (is_ok result) (is_worn_out result)) chip told
  pub unread : Spends ReadsNothing chip told
  pub accounts : Accounts (IsNotTaken after) result chip told

-- ---- what the chip holds

-- whatever tables of this directory, status and counter mirrored the old chart: with the new ones
-- they mirror the new chart, and it has the pages of the old one
abbrev pub Renews : ℕ → Places → StatusTable → ℕ → List ℕ → Places → StatusTable → ℕ → Chart → Chart → Type 0
Renews places directory status next kept after new drawn c y = (it : Layout) (t : Tables)
    → HasTables t directory status next → Mirrors places c it t → MayRenew it t kept
    → Switched places c y it (with_tables t after new drawn) new.place next kept

-- ---- what a power cut leaves

-- At each moment a power cut leaves the map. Where no write failed, the story rests on it and the
-- tables agree: done, with the new status place; and where too many places are worn, as they were but
-- for the counter and the places that are retired.
abbrev pub RenewsInSteps : ℕ → Places → StatusTable → ℕ → List ℕ → Places → StatusTable → ℕ
    → Result (Unit {0}) ChipFault → Told → Told → Type 0
RenewsInSteps places directory status next kept after new drawn result old told =
    (m : Legible) (it : Layout) (t : Tables) (h : History)
    → IsSteady h old → HasTables t directory status next
    → StoryRests places m h → Agrees places h it t → MayRenew it t kept
    → Steps (EachStands places m) t (with_tables t after new drawn)
    (λ done k. RestsSwitched places m it (with_tables t after new drawn) new.place next kept k)
    (λ k. RestsAgreeing places m it (with_tables t after new drawn) k) h result old told
