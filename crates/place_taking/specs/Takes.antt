-- What is left where a place is taken.
use Rattle.std.specs.Prelude.{ℕ, ◌≡◌, ◌≢◌, ◌⊎◌, ◌+◌, true, List, length, Result, MatchResult, IfOk, OnOk}
use Rattle.chip_trait.specs.Story.{Story}
use Rattle.chip_trait.specs.Told.{History, Told, Rose}
use Rattle.ipl_base.specs.declared.fault.ChipFault.{ChipFault}
use Rattle.ipl_base.specs.declared.fault.ChipFault.TheVariants.{Stopped, WornOut}
use Rattle.ipl_meaning.specs.Legible.{Legible}
use Rattle.ipl_meaning.specs.Chart.{Chart}
use Rattle.ipl_meaning.specs.Layout.{Layout}
use Rattle.ipl_meaning.specs.Rests.{now, EachStands}
use Rattle.ipl_meaning.specs.Tables.{Places, Tables, with_use, with_erased}
use Rattle.unit_directory.specs.Free.{IsNextFree, IsReadyToTake, spares_of, aside, AreNext}
use Rattle.unit_io.specs.Accounts.{Accounts}
use Rattle.unit_io.specs.Charts.{Charts, IsCleared}
use Rattle.unit_io.specs.Costs.{Spends, is_erased}
use Rattle.unit_io.specs.Leads.{IsSteady, IsStopped}
use Rattle.unit_io.specs.Unread.{ReadsNothing}
use Rattle.unit_io.specs.Steps.{Settled, EndsWith, Outcome, RestsAgreeing}
use Rattle.place_taking.specs.Spending.{ErasesFree, SparesClean, IsFreshFrom, SparesUsed, is_worn_out}

-- ---- the directory

-- A place of the chip may be taken: the directory is made for as many, and one place more is free or retired
-- than are spare.
pub record MayTakeFrom (told : Told) (directory : Places) : Type 0 where
  pub places : length directory.in_use ≡ told.places
  pub ready : IsReadyToTake directory

-- These places were found worn, each the next free one in its turn: they are in use and retired.
pub record IsAsideFrom (before after : Places) : Type 0 where
  pub worn : List ℕ
  pub in_turn : AreNext before worn
  pub places_is : after ≡ aside before worn

-- Once such places were set aside, the next free one is in use then and erased once more; and all else
-- is as it was.
pub record IsTakenFrom (before : Places) (place : ℕ) (after : Places) : Type 0 where
  pub worn : List ℕ
  pub in_turn : AreNext before worn
  pub next : IsNextFree (aside before worn) place
  pub places_is : after ≡ with_erased (with_use (aside before worn) place true) place

-- ---- the events

-- The next free place in its turn is erased, or found worn, with at most one barrier; where a place was
-- taken, it was erased.
pub record ErasesNext (before : Places) (result : Result ℕ ChipFault) (after : Places)
    (added : Story) : Type 0 where
  pub erases : ErasesFree before after 1 (is_worn_out result) added
  pub erased : IfOk result (λ place. is_erased added place ≡ true)

-- What was clean at a place in use is so after them; and where a place was taken, each sector of it is
-- clean.
pub record ClearsNext (before : Places) (result : Result ℕ ChipFault) (added : Story) : Type 0 where
  pub spares : SparesClean before added
  pub fresh : IfOk result (λ place. IsFreshFrom place 0 added)

-- ---- why none was taken

-- an erase found its place worn where as many places were retired as are spare, and the count of such
-- erases rose
abbrev pub IsWornOut : Places → ChipFault → Told → Told → Type 0
IsWornOut after fault old new = (fault ≡ WornOut (1 + spares_of after))
    × (length after.retired ≡ spares_of after) × Rose old.worn_erases new.worn_erases

-- a write failed, or so many places are worn
abbrev pub IsNotTaken : Places → ChipFault → Told → Told → Type 0
IsNotTaken after fault old new = IsStopped fault old new ⊎ IsWornOut after fault old new

-- ---- what the chip holds

-- A chip that tells its contents goes on telling them, unless a write failed: the place was cleared,
-- and where none was taken the chart is as it was.
abbrev pub TellsTaking : Told → Result ℕ ChipFault → Told → Type 0
TellsTaking old result new = MatchResult result
    (λ place. Charts (IsCleared place) old new) (λ fault. fault ≢ Stopped → Charts (λ c y. y ≡ c) old new)

-- ---- what a power cut leaves

-- the tables with this directory
abbrev pub with_places : Tables → Places → Tables
with_places t places = record {
  places = places;
  overflow = t.overflow;
  status = t.status;
  next = t.next;
  active = t.active;
}

-- the story rests on the map, the tables agree with this directory, and the place was cleared
pub record RestsTaken (places : ℕ) (m : Legible) (it : Layout) (t : Tables) (after : Places) (c : Chart)
    (place : ℕ) (k : History) : Type 0 where
  pub stands : RestsAgreeing places m it (with_places t after) k
  pub cleared : IsCleared place c (now k)

-- At each moment a power cut leaves the map. Where no write failed, the story rests on it and the
-- tables agree, with the directory then.
abbrev pub TakesPlace : Places → Told → Result ℕ ChipFault → Places → Told → Type 0
TakesPlace before old result after new = (m : Legible) (it : Layout) (t : Tables) (h : History)
    → IsSteady h old → t.places ≡ before → RestsAgreeing old.places m it t h
    → Outcome (EachStands old.places m) (ClearsNext before result) (Settled result old new)
    (EndsWith result (RestsTaken old.places m it t after (now h))
    (RestsAgreeing old.places m it (with_places t after))) h old new

-- ---- all of it

-- what taking a place leaves, however it ends
pub record TakesFree (before : Places) (old : Told) (result : Result ℕ ChipFault) (after : Places)
    (new : Told) : Type 0 where
  pub directory : MatchResult result (λ place. IsTakenFrom before place after)
      (λ fault. IsAsideFrom before after)
  pub takes : TakesPlace before old result after new
  pub tells : TellsTaking old result new
  pub spares : OnOk result (SparesUsed before old new)
  pub costs : Spends (ErasesNext before result after) old new
  pub tidy : Spends (ClearsNext before result) old new
  pub unread : Spends ReadsNothing old new
  pub accounts : Accounts (IsNotTaken after) result old new
