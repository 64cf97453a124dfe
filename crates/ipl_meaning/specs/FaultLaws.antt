-- What single faults say of a chart.
use Rattle.std.specs.Prelude.{ℕ, ◌≡◌, ◌⊎◌, ◌<◌, ◌≤◌, ◌*◌, ◌/◌, ◌%◌, ◌==◌, ◌&&◌, Bool, false, true, Some}
use Rattle.ipl_base.specs.declared.limits.TheConstants.{SECTORS, LEAST_PLACES, MOST_PLACES, OVERFLOW_SECTORS}
use Rattle.ipl_base.specs.declared.fault.ImageFault.{ImageFault}
use Rattle.ipl_base.specs.declared.fault.ImageFault.TheVariants.{NotFormatted, Missing}
use Rattle.ipl_format.specs.Sector.{Sector}
use Rattle.ipl_meaning.specs.Chart.{Chart, IsOverflow, IsChosen, IsDataHeader, IsStatusHeader}
use Rattle.ipl_meaning.specs.First.{passes, count_below}
use Rattle.ipl_meaning.specs.Payloads.{is_log_payload}
use Rattle.ipl_meaning.specs.Chosen.{header_at, current_at, units_at}
use Rattle.ipl_meaning.specs.Live.{mark_of, mark_at, live_in, marks_in}
use Rattle.ipl_meaning.specs.Faults.{malformed, is_log_well, first_log_fault, first_fault}

-- a chip of the right size is not formatted exactly where no place has a status header
abbrev pub NotFormattedIsExact : Type 0
NotFormattedIsExact =
    (c : Chart) (places : ℕ) → LEAST_PLACES ≤ places → places ≤ MOST_PLACES
    → (first_fault c places ≡ Some NotFormatted
    → (p : ℕ) (head : Sector) → p < places → c p 0 ≡ Some head → ¬ IsStatusHeader head)
    × (((p : ℕ) (head : Sector) → p < places → c p 0 ≡ Some head → ¬ IsStatusHeader head)
    → first_fault c places ≡ Some NotFormatted)

-- the unit has no header, and all lower ones have one
pub record IsLeastMissing (c : Chart) (places u : ℕ) : Type 0 where
  pub low : u < units_at c places
  pub none : (p : ℕ) (head : Sector) → p < places → c p 0 ≡ Some head → ¬ IsDataHeader u head
  pub lower : (v : ℕ) → v < u → (p : ℕ) × (head : Sector) × IsChosen c places (IsDataHeader v) p head

-- the unit that is said to be missing is the least that is
abbrev pub MissingIsLeast : Type 0
MissingIsLeast = (c : Chart) (places u : ℕ) → first_fault c places ≡ Some (Missing u) → IsLeastMissing c places u

-- the live log sector at the number k is well, after those before it
abbrev pub well_at : Chart → ℕ → ℕ → Sector → Bool
well_at c places k sector =
    is_log_well (mark_of (header_at c places) k sector) (marks_in c places k) sector.version sector.payload

-- a live log sector of the unit stands at the number k, in an overflow place
abbrev pub is_overflow_of : Chart → ℕ → ℕ → ℕ → Bool
is_overflow_of c places u k =
    passes (λ mark. mark.in_overflow && (mark.unit == u)) (mark_at (header_at c places) (current_at c places) c k)

-- an earlier live log sector of its unit has its serial
pub record HasTwin (c : Chart) (places k : ℕ) (sector : Sector) : Type 0 where
  pub number : ℕ
  pub earlier : number < k
  pub other : Sector
  pub live : live_in c places number ≡ Some other
  pub unit : other.unit ≡ sector.unit
  pub serial : other.serial ≡ sector.serial

-- it stands in an overflow place, and 16 of its unit before it
pub record IsBeyond16 (c : Chart) (places k : ℕ) (sector : Sector) : Type 0 where
  pub in_overflow : IsOverflow c (k / SECTORS)
  pub many : OVERFLOW_SECTORS ≤ count_below (is_overflow_of c places sector.unit) k

-- why a live log sector is at fault: it holds no list of records, has a serial again, or is the 17th in overflow places
abbrev pub HasLogCause : Chart → ℕ → ℕ → Sector → Type 0
HasLogCause c places k sector =
    (is_log_payload sector.version sector.payload ≡ false) ⊎ HasTwin c places k sector ⊎ IsBeyond16 c places k sector

-- the live log sector at this number is at fault, and all before it are well
pub record IsFirstBadLog (c : Chart) (places k : ℕ) (fault : ImageFault) : Type 0 where
  pub low : k < places * SECTORS
  pub sector : Sector
  pub live : live_in c places k ≡ Some sector
  pub cause : HasLogCause c places k sector
  pub named : fault ≡ malformed (k / SECTORS) (k % SECTORS)
  pub earlier : (j : ℕ) (other : Sector) → j < k → live_in c places j ≡ Some other
      → well_at c places j other ≡ true

-- the log sector that is named is the first at fault, by rising place and sector
abbrev pub BadLogsAreFirst : Type 0
BadLogsAreFirst =
    (c : Chart) (places : ℕ) (fault : ImageFault) → first_log_fault c places ≡ Some fault
    → (k : ℕ) × IsFirstBadLog c places k fault
