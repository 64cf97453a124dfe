-- What the code's tests say of records and of payloads.
use Rattle.std.proofs.Common.{◌≡◌, ◌<◌, ◌≤◌, ◌+◌, ℕ, eqb, Bool, true, false, IsTrue, List, [], ◌∷◌, ◌++◌, length, sym, ◌∙◌, ap, subst, arith, ◌≢◌, inl, inr}
use Rattle.std.specs.Bool.{OnTrue, OnFalse}
use Rattle.std.proofs.lemmas.Bool.{cases_lt, eqb-true, eq-eqb}
use Rattle.selective_merge.specs.Packs.{payload_of}
use Rattle.ipl_base.specs.declared.limits.TheConstants.{VERSION}
use Rattle.ipl_format.specs.Record.{Record as LogRecord, IsRecord, record_bytes}
use Rattle.ipl_format.proofs.RecordLemmas.{records_have_sizes}
use Rattle.log_records.specs.View.{Versioned}
use Rattle.selective_merge.specs.Packing.{IsAdded, IsPayload}
use Rattle.selective_merge.proofs.CarryLemmas.{begun, with_entry}

pub over_from : (n : ℕ) → (n ≤ 480 → IsTrue false) → 480 < n
over_from n never =
    elim (cases_lt 480 n) [
      | inl over ↦ over
      | inr low ↦ absurd (let is : false ≡ true =
          never (omega (arith, low)) in cc is)
    ]

pub on_true_by : (b : Bool) (P Q : Type 0) → (P → Q) → OnTrue b P → OnTrue b Q
on_true_by true P Q f is = f is
on_true_by false P Q f is = tt

pub on_false_by : (b : Bool) (P Q : Type 0) → (P → Q) → OnFalse b P → OnFalse b Q
on_false_by true P Q f is = tt
on_false_by false P Q f is = f is

pub never_false : (b : Bool) (P : Type 0) → IsTrue b → OnFalse b P
never_false true P is = tt
never_false false P is = absurd (cc is)

-- a record fits into an empty payload
pub fits_alone : (last : Versioned) (r : LogRecord) → last ≡ payload_of [] → IsRecord VERSION r
    → length last.bytes + length (record_bytes last.version r) ≤ 480
fits_alone last r none is = let short = is.value in
    omega (
      arith,
      ap (λ (p : Versioned). length p.bytes) none,
      records_have_sizes last.version r,
      short,
    )

-- the next payload, behind one that was full
pub begun_by : (closed after : List Versioned) (full : List LogRecord) (r : LogRecord)
    (last put_last empty then_last : Versioned) → IsPayload last full → IsRecord VERSION r
    → 480 < length last.bytes + length (record_bytes last.version r) → put_last ≡ last
    → after ≡ closed ++ put_last ∷ [] → empty ≡ payload_of []
    → then_last ≡ with_entry empty r → IsAdded closed full r after then_last
begun_by closed after full r last put_last empty then_last spelled is over same moved none put =
    subst (λ (l : List Versioned). IsAdded closed full r l then_last)
    (sym (moved ∙ ap (λ (b : Versioned). closed ++ b ∷ []) same))
    (begun closed full r last then_last spelled is over
    (put ∙ ap (λ (l : Versioned). with_entry l r) none))

pub empty_is : (xs last : List ℕ) (b : Bool) → b ≡ eqb (length xs) 0 → b ≡ true → xs ≡ last
    → length last ≡ 0
empty_is xs last b is true_is same = ap length (sym same) ∙ eqb-true _ _ (sym is ∙ true_is)

pub some_is : (xs last : List ℕ) (b : Bool) → b ≡ eqb (length xs) 0 → b ≡ false → xs ≡ last
    → length last ≢ 0
some_is xs last b is false_is same none = let e : true ≡ false =
    sym (eq-eqb (length xs) 0 (ap length same ∙ none)) ∙ (sym is ∙ false_is) in absurd (cc e)
