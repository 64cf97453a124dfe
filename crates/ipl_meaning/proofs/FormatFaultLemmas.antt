-- A chip that was just formatted has no fault.
use Rattle.std.proofs.Common.{ℕ, inl, inr, ◌+◌, ◌<◌, ◌≤◌, [], ◌∷◌, ◌++◌, sym, ◌∙◌, ap, subst, arith}
use Rattle.std.proofs.lemmas.Bool.{cases_eq}
use Rattle.ipl_base.specs.declared.limits.TheConstants.{VERSION}
use Rattle.ipl_base.specs.Places.{KeepsUnits}
use Rattle.ipl_format.specs.Numbers.{IsBytes, word}
use Rattle.ipl_format.specs.Header.{data_header_bytes, erases_bytes, retired_bytes}
use Rattle.ipl_format.specs.Sector.{Sector}
use Rattle.ipl_format.proofs.ListLemmas.{bytes-nil, bytes-cons, bytes-append, bytes-replicate}
use Rattle.ipl_format.proofs.NumberLemmas.{bytes-word}
use Rattle.ipl_meaning.specs.Formatted.{no_pieces, formatted}
use Rattle.ipl_meaning.specs.FirstTables.{first_layout, first_tables}
use Rattle.ipl_meaning.specs.Mirrors.{Mirrors}
use Rattle.ipl_meaning.proofs.FormattedLemmas.{header_is, no_sector}
use Rattle.ipl_meaning.proofs.FirstTableLemmas.{first_tables_mirror}
use Rattle.ipl_meaning.specs.OpeningLaws.{IsByteChart, FormattedChipsHaveNoFault}
use Rattle.ipl_meaning.proofs.LaidLemmas.{laid_has_no_fault}

header_bytes : (units : ℕ) → IsBytes (data_header_bytes units no_pieces 0 ++ erases_bytes VERSION 1)
unfolding data_header_bytes erases_bytes
header_bytes units = bytes-append ((word units ++ no_pieces) ++ 0 ∷ []) (word 1)
    (bytes-append (word units ++ no_pieces) (0 ∷ [])
    (bytes-append (word units) no_pieces (bytes-word units) (bytes-replicate 15 0 (omega arith))) (bytes-cons 0 [] (omega arith) bytes-nil))
    (bytes-word 1)

status_bytes : (units : ℕ) → IsBytes (word units ++ erases_bytes VERSION 1 ++ retired_bytes VERSION [])
unfolding erases_bytes retired_bytes
status_bytes units = bytes-append (word units ++ word 1) (0 ∷ [])
    (bytes-append (word units) (word 1) (bytes-word units) (bytes-word 1)) (bytes-cons 0 [] (omega arith) bytes-nil)

-- the payloads of a chip that was just formatted are bytes
pub formatted_bytes : (places units : ℕ) → 5 ≤ places → places ≤ 1028 → KeepsUnits places units → IsByteChart places (formatted units)
formatted_bytes places units least most keeps p s sector low within read is = elim (cases_eq s 0) [
  | inr other ↦ absurd (no_sector places units least most keeps p s sector other is)
  | inl first ↦ elim (header_is places units least most keeps p sector (ap (λ (t : ℕ). formatted units p t) (sym first) ∙ is)) [
    | inl unit ↦ subst (λ (x : Sector). IsBytes x.payload) unit.1 (header_bytes units)
    | inr status ↦ subst (λ (x : Sector). IsBytes x.payload) status.1 (status_bytes units)
  ]
]

pub formatted_chips_have_no_fault : FormattedChipsHaveNoFault
formatted_chips_have_no_fault places units least most keeps =
    let it : Mirrors places (formatted units) (first_layout units) (first_tables places units) = first_tables_mirror places units least most keeps in
    laid_has_no_fault (formatted units) places (first_layout units) (formatted_bytes places units least most keeps) it.laid
    (λ n found. let low : n < units + 2 = it.numbers.above n found in omega (arith, low, most, keeps.1))
