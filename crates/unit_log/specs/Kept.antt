-- Log sectors, kept by rising serial.
use Rattle.std.specs.Prelude.{ℕ, ◌≡◌, ◌⊎◌, ◌<◌, ◌==◌, ◌&&◌, ◌+◌, Bool, true, nat_lt, List, [], ◌∷◌, Option, Some, None, AllPairs, if◌then◌else◌}
use Rattle.std.specs.List.{list_any, flat_map}
use Rattle.ipl_format.specs.Record.{Record, IsLogPayload}
use Rattle.ipl_format.specs.Sector.{Sector}
use Rattle.log_records.specs.Reading.{records_of}
use Rattle.log_records.specs.View.{Versioned}
use Rattle.ipl_meaning.specs.Chart.{Chart}
use Rattle.ipl_meaning.specs.Layout.{Entry}
use Rattle.unit_io.specs.Kinds.{log_only}
use Rattle.unit_log.specs.declared.scratch.LogSector.{LogSector}

-- what a sector holds, to be read by the sector's version
abbrev pub held_in : Sector → Versioned
held_in s = record { version = s.version; bytes = s.payload }

-- what is kept of a live log sector
abbrev pub kept_of : Entry → LogSector
kept_of e = record { serial = e.sector.serial; payload = held_in e.sector }

-- the records of those that are kept, in their order
abbrev pub records_kept : List LogSector → List Record
records_kept kept = flat_map (λ x. records_of x.payload.version x.payload.bytes) kept

-- one of them has this serial
abbrev pub has_serial : ℕ → List LogSector → Bool
has_serial serial kept = list_any (λ x. x.serial == serial) kept

-- how many stand before the first whose serial isn't below this
abbrev pub rank_of : ℕ → List LogSector → ℕ
rank_of serial [] = 0
rank_of serial (y ∷ kept) = if nat_lt y.serial serial then 1 + rank_of serial kept else 0

-- with one more, by its serial
abbrev pub with_kept : LogSector → List LogSector → List LogSector
with_kept x [] = x ∷ []
with_kept x (y ∷ kept) =
    if nat_lt y.serial x.serial then y ∷ with_kept x kept else x ∷ y ∷ kept

-- where there is one
abbrev pub with_found : Option LogSector → List LogSector → List LogSector
with_found None kept = kept
with_found (Some x) kept = with_kept x kept

-- one that was found with this serial, and a payload of this version
abbrev pub log_found : ℕ → ℕ → List ℕ → Option LogSector
log_found serial version bytes =
    Some (record { serial = serial; payload = record { version = version; bytes = bytes } })

-- what is kept of a sector, where it is the unit's and of the generation
abbrev pub kept_if : ℕ → ℕ → Option Sector → Option LogSector
kept_if u generation None = None
kept_if u generation (Some s) =
    if (s.unit == u) && (s.generation == generation)
    then Some (record { serial = s.serial; payload = held_in s })
    else None

-- of the log sector at this spot
abbrev pub kept_at : Chart → ℕ → ℕ → ℕ → ℕ → Option LogSector
kept_at c u generation p s = kept_if u generation (log_only (c p s))

-- those at the spots, one after the other
abbrev pub gathered : Chart → ℕ → ℕ → List (ℕ × ℕ) → List LogSector → List LogSector
gathered c u generation [] kept = kept
gathered c u generation (spot ∷ spots) kept =
    gathered c u generation spots (with_found (kept_at c u generation spot.0 spot.1) kept)

-- one can't be kept: it is no list of records in its version, or another has its serial
abbrev pub CannotBeKept : Option LogSector → List LogSector → Type 0
CannotBeKept None kept = ⊥
CannotBeKept (Some x) kept = (has_serial x.serial kept ≡ true) ⊎ (IsLogPayload x.payload.version x.payload.bytes → ⊥)

-- one of those at the spots can't, when it is its turn
abbrev pub HasUnfit : Chart → ℕ → ℕ → List (ℕ × ℕ) → List LogSector → Type 0
HasUnfit c u generation [] kept = ⊥
HasUnfit c u generation (spot ∷ spots) kept =
    CannotBeKept (kept_at c u generation spot.0 spot.1) kept
    ⊎ HasUnfit c u generation spots (with_found (kept_at c u generation spot.0 spot.1) kept)

-- each serial is below all later ones
abbrev pub IsBefore : LogSector → LogSector → Type 0
IsBefore x y = x.serial < y.serial

abbrev pub HaveRisingSerials : List LogSector → Type 0
HaveRisingSerials kept = AllPairs IsBefore kept
