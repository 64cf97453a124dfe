-- What each fault says of a chart.
use Rattle.std.specs.Prelude.{ℕ, ◌≡◌, ◌≢◌, ◌⊎◌, ◌<◌, ◌≤◌, ◌/◌, ◌%◌, ◌^◌, false, true, Some}
use Rattle.ipl_base.specs.declared.limits.TheConstants.{SECTORS, LEAST_PLACES, MOST_PLACES, OVERFLOW_PLACES}
use Rattle.ipl_base.specs.declared.fault.ChipFault.TheVariants.{ReadFault, Stopped, Damaged, Malformed, WornOut}
use Rattle.ipl_base.specs.declared.fault.ImageFault.{ImageFault}
use Rattle.ipl_base.specs.declared.fault.ImageFault.TheVariants.{Geometry, NotFormatted, Missing, Chip, Spent, NoSpare, TooManyNumbers}
use Rattle.ipl_base.specs.Places.{KeepsUnits}
use Rattle.ipl_format.specs.Sector.{Sector}
use Rattle.ipl_meaning.specs.Chart.{Chart, IsChosen, IsDataHeader, IsStatusHeader}
use Rattle.ipl_meaning.specs.Payloads.{units_said_in}
use Rattle.ipl_meaning.specs.Chosen.{Winner, is_head_payload, status_at, units_at}
use Rattle.ipl_meaning.specs.Live.{sectors, noted_at}
use Rattle.ipl_meaning.specs.Faults.{malformed, is_noted_payload, greatest_found, overflows_found, first_fault}
use Rattle.ipl_meaning.specs.FaultLaws.{IsLeastMissing, IsFirstBadLog}

-- the header counts: it is the status header, or that of a unit
abbrev pub HeaderCounts : Chart → ℕ → ℕ → Sector → Type 0
HeaderCounts c places p head =
    IsChosen c places IsStatusHeader p head
    ⊎ ((u : ℕ) × (u < units_at c places) × IsChosen c places (IsDataHeader u) p head)

-- the status header says a number of units that may not be kept on so many places
pub record HasWrongUnits (c : Chart) (places : ℕ) : Type 0 where
  pub place : ℕ
  pub head : Sector
  pub counts : IsChosen c places IsStatusHeader place head
  pub units : ℕ
  pub said : units_said_in head.payload ≡ Some units
  pub refused : ¬ KeepsUnits places units

-- the header of a unit says another number of units than the status header
pub record HasOtherUnits (c : Chart) (places : ℕ) : Type 0 where
  pub unit : ℕ
  pub low : unit < units_at c places
  pub place : ℕ
  pub head : Sector
  pub counts : IsChosen c places (IsDataHeader unit) place head
  pub units : ℕ
  pub said : units_said_in head.payload ≡ Some units
  pub other : units ≢ units_at c places

-- the header at this place counts, and its payload is not in the grammar of its kind
pub record HasBadHeader (c : Chart) (places p : ℕ) : Type 0 where
  pub head : Sector
  pub counts : HeaderCounts c places p head
  pub bad : is_head_payload head.version places head.kind head.payload ≡ false

-- this commit sector or close mark is the first of the status place whose payload is not in its grammar
pub record IsFirstBadNote (c : Chart) (places p s : ℕ) : Type 0 where
  pub status : Winner
  pub here : status_at c places ≡ Some status
  pub at : status.place ≡ p
  pub low : s < sectors
  pub sector : Sector
  pub counts : noted_at c (Some status) s ≡ Some sector
  pub bad : is_noted_payload (units_at c places) sector ≡ false
  pub earlier : (t : ℕ) (other : Sector) → t < s → noted_at c (Some status) t ≡ Some other
      → is_noted_payload (units_at c places) other ≡ true

-- the sector is a header, a commit sector, a close mark or a log sector at fault
abbrev pub IsBadSector : Chart → ℕ → ℕ → ℕ → Type 0
IsBadSector c places p s =
    ((s ≡ 0) × HasBadHeader c places p)
    ⊎ IsFirstBadNote c places p s
    ⊎ ((k : ℕ) × (p ≡ k / SECTORS) × (s ≡ k % SECTORS) × IsFirstBadLog c places k (malformed p s))

-- the cause of each fault; those of failed calls have none here, nor that the numbers have no room in memory
abbrev pub IsCaused : Chart → ℕ → ImageFault → Type 0
IsCaused c places Geometry = (places < LEAST_PLACES) ⊎ (MOST_PLACES < places)
    ⊎ HasWrongUnits c places ⊎ HasOtherUnits c places
IsCaused c places NotFormatted = (p : ℕ) (head : Sector) → p < places → c p 0 ≡ Some head → ¬ IsStatusHeader head
IsCaused c places (Missing u) = IsLeastMissing c places u
IsCaused c places (Chip ReadFault) = ⊥
IsCaused c places (Chip Stopped) = ⊥
IsCaused c places (Chip (Damaged p s stored computed)) = ⊥
IsCaused c places (Chip (Malformed p s)) = IsBadSector c places p s
IsCaused c places (Chip (WornOut n)) = ⊥
IsCaused c places Spent = 2 ^ 63 ≤ greatest_found c places
IsCaused c places (NoSpare k) = (OVERFLOW_PLACES < k) × (k ≡ overflows_found c places)
IsCaused c places TooManyNumbers = ⊥

-- each fault comes where its cause is
abbrev pub FaultsAreCaused : Type 0
FaultsAreCaused =
    (c : Chart) (places : ℕ) (fault : ImageFault) → first_fault c places ≡ Some fault → IsCaused c places fault
