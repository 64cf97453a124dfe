-- Laws of the layout.
use Rattle.std.specs.Prelude.{◌≡◌, ◌↔◌, ◌<◌, ◌≤◌, List, ℕ, true}
use Rattle.ipl_base.specs.declared.limits.TheConstants.{MOST_PLACES, MOST_UNITS, PAGE_SECTORS}
use Rattle.ipl_format.specs.Numbers.{IsBytes}
use Rattle.ipl_format.specs.Mark.{SpellsMark}
use Rattle.ipl_format.specs.Place.{base_sector_of}
use Rattle.unit_layout.specs.declared.header.DataHeader.{DataHeader}
use Rattle.unit_layout.specs.declared.status.StatusHeader.{StatusHeader}
use Rattle.unit_layout.specs.Header.{SpellsHeader, SpellsStatus}
use Rattle.unit_layout.specs.Mark.{is_mark_payload}

-- a payload says one header: what is read is what was written
abbrev pub HeadersReadBack : Type 0
HeadersReadBack = (version : ℕ) (h k : DataHeader) (payload : List ℕ)
    → SpellsHeader version h payload → SpellsHeader version k payload → h ≡ k

-- so does a status header's, with the places that it lists
abbrev pub StatusHeadersReadBack : Type 0
StatusHeadersReadBack = (version places : ℕ) (h k : StatusHeader) (retired others payload : List ℕ) → places ≤ MOST_PLACES
    → SpellsStatus version places h retired payload → SpellsStatus version places k others payload
    → (h ≡ k) × (retired ≡ others)

-- a payload is tested to be a mark exactly where it spells one
abbrev pub MarksAreTold : Type 0
MarksAreTold = (units : ℕ) (payload : List ℕ) → IsBytes payload → 1 ≤ units → units ≤ MOST_UNITS
    → (is_mark_payload units payload ≡ true) ↔ SpellsMark units payload

-- no two pieces stand in one sector
abbrev pub PiecesStandApart : Type 0
PiecesStandApart = (page piece other last : ℕ) → piece < PAGE_SECTORS → last < PAGE_SECTORS → base_sector_of page piece ≡ base_sector_of other last
    → (page ≡ other) × (piece ≡ last)
