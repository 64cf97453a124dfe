-- What is kept of headers, and of the status header that counts.
use Rattle.std.specs.Prelude.{ℕ, ◌≡◌, ◌⊎◌, nat_lt, Bool, true, false, List, [], take, Option, Some, None, if◌then◌else◌}
use Rattle.ipl_format.specs.Sector.{Sector}
use Rattle.unit_layout.specs.Retired.{listed_bytes, retired_in}
use Rattle.ipl_meaning.specs.Chosen.{KeptHeader, Winner, units_told}

-- ---- a number that may be said

-- the number is said, if one is
abbrev pub said_by : Bool → ℕ → Option ℕ
said_by says units = if says then Some units else None

-- where none is said it is 0
abbrev pub SaysNothing : Bool → ℕ → Type 0
SaysNothing says units = says ≡ false → units ≡ 0

-- whether one is said, and which
abbrev pub says_of : Option ℕ → Bool
says_of None = false
says_of (Some units) = true

abbrev pub units_of : Option ℕ → ℕ
units_of None = 0
units_of (Some units) = units

-- ---- the header that counts

-- the header of a later place counts rather than the one before
abbrev pub is_beaten : Option Winner → KeptHeader → Bool
is_beaten None head = true
is_beaten (Some best) head = nat_lt best.head.serial head.serial

-- of the status header before and the header of a later place, which has this sector, one counts: where it is the later one,
-- its sector is kept, and else what was kept stays
abbrev pub KeepsStatus : Option Winner → ℕ → Option KeptHeader → Option Sector → Option Winner → Option Sector → Option Sector → Type 0
KeepsStatus before place header sector status old new =
    ((head : KeptHeader) × (header ≡ Some head) × (status ≡ Some (record { place = place; head = head })) × (new ≡ sector))
    ⊎ ((status ≡ before) × (new ≡ old))

-- as many of a table's headers as there are units, by the status header
abbrev pub counted_in : ℕ → Winner → List (Option Winner) → List (Option Winner)
counted_in places status table = take (units_told places (Some status)) table

-- ---- the places that the status header lists as retired

-- their bytes
abbrev pub listed_in : Option Sector → List ℕ
listed_in None = []
listed_in (Some sector) = listed_bytes sector.version sector.payload

-- these places
abbrev pub retired_of : Option Sector → List ℕ
retired_of None = []
retired_of (Some sector) = retired_in sector.version sector.payload
