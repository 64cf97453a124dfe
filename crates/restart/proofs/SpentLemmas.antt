-- That the numbers are used up is told after all was read, and what was read is bytes then.
use Rattle.std.proofs.Common.{◌≡◌, ◌≢◌, [], inl, inr, ℕ, zero, suc, Bool, true, false, List, Option, Some, None, Result, Ok, Err, IfErr, ◌≤◌, if◌then◌else◌, sym, ◌∙◌, ap}
use Rattle.std.specs.Result.{IsErrAnd}
use Rattle.std.specs.Option.{option_or}
use Rattle.std.proofs.lemmas.Bool.{cases_Bool}
use Rattle.chip_trait.specs.Told.{Told}
use Rattle.ipl_base.specs.declared.fault.ImageFault.{ImageFault}
use Rattle.ipl_base.specs.declared.fault.ImageFault.TheVariants.{Geometry, Spent}
use Rattle.ipl_base.specs.First.{first_below}
use Rattle.ipl_format.specs.Sector.{Sector}
use Rattle.ipl_meaning.specs.Chart.{Chart, chart_of}
use Rattle.ipl_meaning.specs.First.{first_of}
use Rattle.ipl_meaning.specs.Chosen.{KeptHeader, Winner, units_told, current_at, status_at, units_at}
use Rattle.ipl_meaning.specs.Live.{sectors, Mark, mark_of, marks, noted_at, live_at}
use Rattle.ipl_meaning.specs.Faults.{TellsImageFault, is_image, malformed, not_formatted, keeps_units, status_geometry, says_other, other_geometry, missing, bad_header, header_fault, is_noted_payload, noted_test, noted_fault, is_log_well, log_test, log_fault, fault_for}
use Rattle.ipl_meaning.specs.OpeningLaws.{IsByteChart}
use Rattle.ipl_meaning.proofs.TellsLemmas.{tells_past, tells_here}
use Rattle.unit_io.specs.Reads.{OfContents}
use Rattle.restart.specs.Bytes.{ReadsBytesFor}
use Rattle.restart.specs.Looks.{HasCauseIn}
use Rattle.restart.proofs.LookLemmas.{untold_still}
use Rattle.restart.proofs.OpenLemmas.{size_none}

-- ---- no other fault is that the numbers are used up

none_unspent : first_of {A = ImageFault} [] ≢ Some Spent
none_unspent is = absurd (cc is)

or_unspent : (a b : Option ImageFault) → a ≢ Some Spent → b ≢ Some Spent → option_or a b ≢ Some Spent
or_unspent None b one two = two
or_unspent (Some e) b one two = one

below_unspent : (f : ℕ → Option ImageFault) (n : ℕ) → ((k : ℕ) → f k ≢ Some Spent) → first_below f n ≢ Some Spent
below_unspent f zero each = λ is. absurd (cc is)
below_unspent f (suc n) each = or_unspent (first_below f n) (f n) (below_unspent f n each) (each n)

if_unspent : (well : Bool) (e : ImageFault) → e ≢ Spent → (if well then None else Some e) ≢ Some Spent
if_unspent true e other = λ is. absurd (cc is)
if_unspent false e other = λ is. other (let same : Some e ≡ Some Spent = is in cc same)

not_formatted_unspent : (o : Option Winner) → not_formatted o ≢ Some Spent
not_formatted_unspent None = λ is. absurd (cc is)
not_formatted_unspent (Some winner) = λ is. absurd (cc is)

foreign_unspent : (foreign : Bool) → (if foreign then Some Geometry else None) ≢ Some Spent
foreign_unspent true = λ is. absurd (cc is)
foreign_unspent false = λ is. absurd (cc is)

status_unspent : (places : ℕ) (o : Option Winner) → status_geometry places o ≢ Some Spent
status_unspent places None = λ is. absurd (cc is)
status_unspent places (Some winner) = if_unspent (keeps_units places (units_told places (Some winner))) Geometry (λ is. absurd (cc is))

other_unspent : (units : ℕ) (o : Option Winner) → other_geometry units o ≢ Some Spent
other_unspent units None = λ is. absurd (cc is)
other_unspent units (Some winner) = foreign_unspent (says_other units winner.head.said)

missing_unspent : (u : ℕ) (o : Option Winner) → missing u o ≢ Some Spent
missing_unspent u None = λ is. absurd (cc is)
missing_unspent u (Some winner) = λ is. absurd (cc is)

bad_unspent : (o : Option Winner) → bad_header o ≢ Some Spent
bad_unspent None = λ is. absurd (cc is)
bad_unspent (Some winner) = if_unspent winner.head.well (malformed winner.place 0) (λ is. absurd (cc is))

pub header_unspent : (c : Chart) (places : ℕ) → header_fault c places ≢ Some Spent
header_unspent c places =
    or_unspent _ _ (not_formatted_unspent (status_at c places))
    (or_unspent _ _ (status_unspent places (status_at c places))
    (or_unspent _ _ (below_unspent _ (units_at c places) (λ u. other_unspent (units_at c places) (current_at c places u)))
    (or_unspent _ _ (below_unspent _ (units_at c places) (λ u. missing_unspent u (current_at c places u)))
    (or_unspent _ _ (below_unspent _ (units_at c places) (λ u. bad_unspent (current_at c places u)))
    (or_unspent _ _ (bad_unspent (status_at c places)) none_unspent)))))

noted_test_unspent : (units p s : ℕ) (o : Option Sector) → noted_test units p s o ≢ Some Spent
noted_test_unspent units p s None = λ is. absurd (cc is)
noted_test_unspent units p s (Some sector) =
    if_unspent (is_noted_payload units sector) (malformed p s) (λ is. absurd (cc is))

noted_unspent : (units : ℕ) (c : Chart) (status : Option Winner) (s : ℕ) → noted_fault units c status s ≢ Some Spent
noted_unspent units c None s = λ is. absurd (cc is)
noted_unspent units c (Some winner) s = noted_test_unspent units winner.place s (noted_at c (Some winner) s)

pub notes_unspent : (units : ℕ) (c : Chart) (status : Option Winner) → first_below (noted_fault units c status) sectors ≢ Some Spent
notes_unspent units c status = below_unspent (noted_fault units c status) sectors (noted_unspent units c status)

log_test_unspent : (heads : ℕ → Option KeptHeader) (earlier : List Mark) (k : ℕ) (o : Option Sector) → log_test heads earlier k o ≢ Some Spent
log_test_unspent heads earlier k None = λ is. absurd (cc is)
log_test_unspent heads earlier k (Some sector) =
    if_unspent (is_log_well (mark_of heads k sector) earlier sector.version sector.payload) _ (λ is. absurd (cc is))

pub logs_unspent : (heads : ℕ → Option KeptHeader) (current : ℕ → Option Winner) (c : Chart) (n : ℕ) → first_below (log_fault heads current c) n ≢ Some Spent
logs_unspent heads current c n =
    below_unspent (log_fault heads current c) n (λ k. log_test_unspent heads (marks heads current c k) k (live_at heads current c k))

-- ---- where it failed

-- so a call whose faults are others tells another one
pub tells_unspent : (fault : Option ImageFault) (e : ImageFault) → fault ≢ Some Spent → (is_image e ≡ true → fault ≡ Some e) → e ≡ Spent → ⊥
tells_unspent fault e other says is = other (says (ap is_image is) ∙ ap Some is)

-- what is known of a fault is known at the exit of a `?`
pub spent_exit : {T P : Type 0} (r : Result T ImageFault) (e : ImageFault) → IsErrAnd r (λ y. y ≡ e) → (e ≡ Spent → P) → IfErr r (λ y. y ≡ Spent → P)
spent_exit (Ok v) e exit says = absurd exit
spent_exit (Err y) e exit says = λ is. says (sym exit ∙ is)

-- a fault of the headers is the first one
pub headers_tell_first : {T : Type 0} (draws : Bool) (c : Chart) (places : ℕ) (r : Result T ImageFault) (e : ImageFault) → 5 ≤ places → places ≤ 1028 → IsErrAnd r (λ y. y ≡ e)
    → (is_image e ≡ true → header_fault c places ≡ Some e) → TellsImageFault (fault_for draws c places) r
headers_tell_first draws c places r e least most exit says = tells_past _ _ r (size_none places least most) (tells_here _ _ r e exit says)

-- with a fault of what it read: its numbers are used up, or it has the first fault
pub failed_bytes : {T : Type 0} {most : ℕ} {numbers : Chart → List ℕ} (draws : Bool) (places : ℕ) (r : Result T ImageFault) (e : ImageFault)
    (told mid new : Told) → IsErrAnd r (λ y. y ≡ e) → HasCauseIn most numbers draws e mid new
    → OfContents told (λ x. TellsImageFault (fault_for draws (chart_of x) places) r)
    → (e ≡ Spent → OfContents told (λ x. IsByteChart places (chart_of x)))
    → ReadsBytesFor draws places told r
failed_bytes draws places (Ok v) e told mid new exit cause tells spent = absurd exit
failed_bytes draws places (Err y) e told mid new exit cause tells spent = λ x holds unread unstopped roomy why. elim why [
  | inl is ↦ spent (sym exit ∙ is) x holds
  | inr none ↦ elim (cases_Bool (is_image y)) [
    | inl image ↦ (let some : None ≡ Some y = sym none ∙ tells x holds image in absurd (cc some))
    | inr other ↦ absurd (elim (cause (untold_still draws e (ap is_image (sym exit) ∙ other))) [
      | inl missed ↦ unread (exit ∙ missed.fault)
      | inr many ↦ roomy (exit ∙ many.0)
    ])
  ]
]
