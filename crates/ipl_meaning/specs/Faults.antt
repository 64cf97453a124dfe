-- What is at fault on a chart, in the order in which it is told.
use Rattle.std.specs.Prelude.{ℕ, ◌≡◌, ◌+◌, ◌*◌, ◌/◌, ◌%◌, ◌^◌, nat_lt, nat_le, ◌==◌, ◌&&◌, ◌||◌, not, Bool, true, false, List, [], ◌∷◌, max, Option, Some, None, if◌then◌else◌, Result, MatchResult}
use Rattle.std.specs.List.{list_any, count_by}
use Rattle.ipl_base.specs.declared.limits.TheConstants.{SECTORS, LEAST_PLACES, MOST_PLACES, RESERVED_PLACES, MOST_SPARES, OVERFLOW_PLACES, OVERFLOW_SECTORS}
use Rattle.ipl_base.specs.declared.fault.ChipFault.TheVariants.{ReadFault, Stopped, Damaged, Malformed, WornOut}
use Rattle.ipl_base.specs.declared.fault.ImageFault.{ImageFault}
use Rattle.ipl_base.specs.declared.fault.ImageFault.TheVariants.{Geometry, NotFormatted, Missing, Chip, Spent, NoSpare, TooManyNumbers}
use Rattle.ipl_format.specs.Sector.{Sector}
use Rattle.ipl_meaning.specs.Chart.{Chart}
use Rattle.ipl_base.specs.First.{first_below}
use Rattle.unit_layout.specs.Mark.{is_mark_payload}
use Rattle.ipl_meaning.specs.First.{first_of, greatest_below, greatest_of, count_below}
use Rattle.ipl_meaning.specs.Payloads.{is_commit_payload, is_log_payload, numbers_told, tids_told}
use Rattle.ipl_meaning.specs.Chosen.{KeptHeader, Winner, header_at, current_at, status_at, units_told, units_at}
use Rattle.ipl_meaning.specs.Live.{sectors, is_commit_sector, noted_at, seen_at, live_at, is_overflow_place, Mark, mark_of, marks, marks_in}

-- the sector at fault
abbrev pub malformed : ℕ → ℕ → ImageFault
malformed p s = Chip (Malformed p s)

-- ---- size

-- a chip has 5 to 1028 places
abbrev pub size_fault : ℕ → Option ImageFault
size_fault places =
    if nat_le LEAST_PLACES places && nat_le places MOST_PLACES then None else Some Geometry

-- ---- headers

-- there is no status header
abbrev pub not_formatted : Option Winner → Option ImageFault
not_formatted None = Some NotFormatted
not_formatted (Some winner) = None

-- so many units may be kept on so many places
abbrev pub keeps_units : ℕ → ℕ → Bool
keeps_units places units =
    nat_le 1 units && (nat_le (units + RESERVED_PLACES) places && nat_le places (units + RESERVED_PLACES + MOST_SPARES))

-- the status header says a number of units that isn't kept on so many places
abbrev pub status_geometry : ℕ → Option Winner → Option ImageFault
status_geometry places None = None
status_geometry places (Some winner) = if keeps_units places (units_told places (Some winner)) then None else Some Geometry

-- another number of units is said, where one is
abbrev pub says_other : ℕ → Option ℕ → Bool
says_other units None = false
says_other units (Some said) = not (said == units)

-- the header of a unit says another number of units
abbrev pub other_geometry : ℕ → Option Winner → Option ImageFault
other_geometry units None = None
other_geometry units (Some winner) = if says_other units winner.head.said then Some Geometry else None

-- the unit has no current header
abbrev pub missing : ℕ → Option Winner → Option ImageFault
missing u None = Some (Missing u)
missing u (Some winner) = None

-- the header's payload is not in its grammar
abbrev pub bad_header : Option Winner → Option ImageFault
bad_header None = None
bad_header (Some winner) = if winner.head.well then None else Some (malformed winner.place 0)

-- what the headers are tested for, on a chip of so many places that keeps so many units
abbrev pub header_tests : ℕ → ℕ → Option Winner → (ℕ → Option Winner) → List (Option ImageFault)
header_tests places units status current =
    not_formatted status
    ∷ status_geometry places status
    ∷ first_below (λ u. other_geometry units (current u)) units
    ∷ first_below (λ u. missing u (current u)) units
    ∷ first_below (λ u. bad_header (current u)) units
    ∷ bad_header status
    ∷ []

-- the first fault of the headers
abbrev pub header_fault : Chart → ℕ → Option ImageFault
header_fault c places = first_of (header_tests places (units_at c places) (status_at c places) (current_at c places))

-- ---- commit sectors and close marks

-- the payload is in the grammar of its kind, where there are so many units
abbrev pub is_noted_payload : ℕ → Sector → Bool
is_noted_payload units sector =
    if is_commit_sector sector then is_commit_payload sector.payload else is_mark_payload units sector.payload

-- a commit sector or close mark is tested for its payload
abbrev pub noted_test : ℕ → ℕ → ℕ → Option Sector → Option ImageFault
noted_test units p s None = None
noted_test units p s (Some sector) = if is_noted_payload units sector then None else Some (malformed p s)

-- the fault of the one at this number of the status place
abbrev pub noted_fault : ℕ → Chart → Option Winner → ℕ → Option ImageFault
noted_fault units c None s = None
noted_fault units c (Some winner) s = noted_test units winner.place s (noted_at c (Some winner) s)

-- the first one at fault, where there are as many units as the status header says
abbrev pub first_noted_fault : Chart → ℕ → Option ImageFault
first_noted_fault c places = first_below (noted_fault (units_at c places) c (status_at c places)) sectors

-- ---- log sectors

-- the other is of the same unit and has the same serial
abbrev pub clashes : Mark → Mark → Bool
clashes mark other = (other.unit == mark.unit) && (other.serial == mark.serial)

-- the other is of the same unit and stands in an overflow place
abbrev pub shares_overflow : Mark → Mark → Bool
shares_overflow mark other = other.in_overflow && (other.unit == mark.unit)

-- it stands in an overflow place, as 16 of its unit already do
abbrev pub is_full : Mark → List Mark → Bool
is_full mark earlier =
    mark.in_overflow && nat_le OVERFLOW_SECTORS (count_by (shares_overflow mark) earlier)

-- a live log sector is tested for its payload, and against those before it
abbrev pub is_log_well : Mark → List Mark → ℕ → List ℕ → Bool
is_log_well mark earlier version payload =
    is_log_payload version payload && not (list_any (clashes mark) earlier || is_full mark earlier)

-- the fault of the one at the number k, after those with these marks
abbrev pub log_test : (ℕ → Option KeptHeader) → List Mark → ℕ → Option Sector → Option ImageFault
log_test heads earlier k None = None
log_test heads earlier k (Some sector) =
    if is_log_well (mark_of heads k sector) earlier sector.version sector.payload then None
    else Some (malformed (k / SECTORS) (k % SECTORS))

-- the same, after all those before it
abbrev pub log_fault : (ℕ → Option KeptHeader) → (ℕ → Option Winner) → Chart → ℕ → Option ImageFault
log_fault heads current c k = log_test heads (marks heads current c k) k (live_at heads current c k)

-- the first log sector at fault
abbrev pub first_log_fault : Chart → ℕ → Option ImageFault
first_log_fault c places = first_below (log_fault (header_at c places) (current_at c places) c) (places * SECTORS)

-- ---- numbers found

-- the greater number of a header
abbrev pub head_number : Option KeptHeader → ℕ
head_number None = 0
head_number (Some head) = max head.generation head.serial

-- the numbers in a commit sector; a close mark has none
abbrev pub numbers_noted : Sector → List ℕ
numbers_noted sector = if is_commit_sector sector then numbers_told sector.payload else []

-- the greatest in a commit sector or close mark
abbrev pub noted_number : Option Sector → ℕ
noted_number None = 0
noted_number (Some sector) = greatest_of (max sector.generation sector.serial) (numbers_noted sector)

-- in a log sector
abbrev pub log_number : Option Sector → ℕ
log_number None = 0
log_number (Some sector) = greatest_of (max sector.generation sector.serial) (tids_told sector.version sector.payload)

-- in the headers
abbrev pub greatest_of_heads : (ℕ → Option KeptHeader) → ℕ → ℕ
greatest_of_heads heads places = greatest_below 0 (λ p. head_number (heads p)) places

-- and in the commit sectors and close marks of the status place, below this number
abbrev pub greatest_of_notes : ℕ → Chart → Option Winner → ℕ → ℕ
greatest_of_notes least c status n = greatest_below least (λ s. noted_number (noted_at c status s)) n

-- and in the log sectors below the number k
abbrev pub greatest_of_logs : ℕ → (ℕ → Option KeptHeader) → (ℕ → Option Winner) → Chart → ℕ → ℕ
greatest_of_logs least heads current c k = greatest_below least (λ j. log_number (seen_at heads current c j)) k

-- the greatest number found on a chart
abbrev pub greatest_found : Chart → ℕ → ℕ
greatest_found c places =
    let heads = header_at c places in
    greatest_of_logs (greatest_of_notes (greatest_of_heads heads places) c (status_at c places) sectors)
    heads (current_at c places) c (places * SECTORS)

-- numbers are used up
abbrev pub spent : ℕ → Option ImageFault
spent greatest = if nat_lt greatest (2 ^ 63) then None else Some Spent

-- the numbers are tested, or aren't
abbrev pub spent_for : Bool → ℕ → Option ImageFault
spent_for true greatest = spent greatest
spent_for false greatest = None

-- ---- overflow places

-- the mark is of this place
abbrev pub is_in : ℕ → Mark → Bool
is_in p mark = mark.place == p

-- the place is an overflow place with a live log sector
abbrev pub holds_live : (ℕ → Option KeptHeader) → List Mark → ℕ → Bool
holds_live heads live p = is_overflow_place (heads p) && list_any (is_in p) live

-- how many overflow places of a chart hold live log sectors
abbrev pub overflows_found : Chart → ℕ → ℕ
overflows_found c places =
    count_below (holds_live (header_at c places) (marks_in c places (places * SECTORS))) places

-- more than two hold them
abbrev pub no_spare : ℕ → Option ImageFault
no_spare n = if nat_le n OVERFLOW_PLACES then None else Some (NoSpare n)

-- ---- all of it

-- all that is tested, in order; that numbers are left where some will be drawn
abbrev pub tests : Bool → Chart → ℕ → List (Option ImageFault)
tests draws c places =
    size_fault places
    ∷ header_fault c places
    ∷ first_noted_fault c places
    ∷ first_log_fault c places
    ∷ spent_for draws (greatest_found c places)
    ∷ no_spare (overflows_found c places)
    ∷ []

-- the first fault, if there is one, where numbers will be drawn or not
abbrev pub fault_for : Bool → Chart → ℕ → Option ImageFault
fault_for draws c places = first_of (tests draws c places)

-- the first fault of a chip that is opened
abbrev pub first_fault : Chart → ℕ → Option ImageFault
first_fault c places = fault_for true c places

-- the first fault of how a chip is laid out
abbrev pub shape_fault : Chart → ℕ → Option ImageFault
shape_fault c places = fault_for false c places

-- ---- told

-- the fault is about what the chip holds alone, and not about a call that failed, nor about the memory for
-- numbers; that the numbers are used up is one where some will be drawn
abbrev pub is_told : Bool → ImageFault → Bool
is_told draws Geometry = true
is_told draws NotFormatted = true
is_told draws (Missing u) = true
is_told draws (Chip ReadFault) = false
is_told draws (Chip Stopped) = false
is_told draws (Chip (Damaged p s stored computed)) = false
is_told draws (Chip (Malformed p s)) = true
is_told draws (Chip (WornOut n)) = false
is_told draws Spent = draws
is_told draws (NoSpare n) = true
is_told draws TooManyNumbers = false

-- the same of an opening
abbrev pub is_image : ImageFault → Bool
is_image e = is_told true e

-- Ok exactly where there is no fault, and else this one, unless a call failed
abbrev pub TellsImageFault : {T : Type 0} → Option ImageFault → Result T ImageFault → Type 0
TellsImageFault fault result = MatchResult result (λ done. fault ≡ None) (λ e. is_image e ≡ true → fault ≡ Some e)
