-- Payloads, and the records that they spell.
use Rattle.std.proofs.Common.{◌≡◌, ◌≤◌, ◌+◌, ℕ, suc, List, [], ◌∷◌, ◌++◌, length, Bool, true, false, IsTrue, ◌↔◌, eqb, refl, sym, ◌∙◌, ap, subst, arith, length-append, append_assoc}
use Rattle.std.specs.List.{All}
use Rattle.std.specs.Bool.{OnTrue}
use Rattle.std.proofs.lemmas.Bool.{false≢true, ne_eqb}
use Rattle.std.proofs.lemmas.List.{append-nil}
use Rattle.std.proofs.lemmas.List.Sums.{sum_by-cons, sum_by-append}
use Rattle.std.proofs.lemmas.List.Elements.{All-nil, All-cons}
use Rattle.ipl_base.specs.declared.limits.TheConstants.{PAYLOAD_LEN, VERSION}
use Rattle.ipl_format.specs.Record.{Record, IsRecord, IsLogPayload, SpellsLog, record_bytes, log_bytes}
use Rattle.ipl_format.proofs.RecordLemmas.{records_have_sizes, logs_join, all_stay}
use Rattle.ipl_meaning.specs.Last.{size_of, size_of_all}
use Rattle.log_records.specs.Reading.{records_of}
use Rattle.log_records.specs.View.{Versioned, Spells}
use Rattle.log_records.proofs.RecordsLemmas.{records_list, spells_its_records}
use Rattle.mem_log_sector.specs.MemLogs.{without_tid, IsMemLog}

-- a payload spells the records that are read from it
pub spelled : (version : ℕ) (bytes : List ℕ) → IsLogPayload version bytes
    → SpellsLog version bytes (records_of version bytes)
spelled version bytes list = spells_its_records version bytes bytes bytes refl refl list

pub size_is : (version : ℕ) (records : List Record)
    → length (log_bytes version records) ≡ size_of_all records
size_is version [] = refl
size_is version (r ∷ records) =
    let joined = length-append (record_bytes version r) (log_bytes version records) in
    omega (
      arith,
      joined,
      records_have_sizes version r,
      size_is version records,
      sum_by-cons size_of r records,
    )

pub size_of_payload : (version : ℕ) (bytes : List ℕ) → IsLogPayload version bytes
    → length bytes ≡ size_of_all (records_of version bytes)
size_of_payload version bytes list =
    ap length (spelled version bytes list).bytes ∙ size_is version (records_of version bytes)

pub no_records : (version : ℕ) → records_of version [] ≡ []
no_records version =
    records_list version [] [] (record { bytes = refl; valid = All-nil (IsRecord version) })

pub none_spelled : (version : ℕ) → SpellsLog version [] []
none_spelled version = record { bytes = refl; valid = All-nil (IsRecord version) }

pub is_mem_log : (version : ℕ) (bytes : List ℕ) → IsLogPayload version bytes
    → length bytes ≤ PAYLOAD_LEN → IsMemLog (records_of version bytes)
is_mem_log version bytes list fits = record {
  valid = all_stay version (records_of version bytes) (spelled version bytes list).valid;
  fits = omega (arith, fits, size_of_payload version bytes list);
}

-- ---- one more record

one_spelled : (version : ℕ) (r : Record) → IsRecord version r
    → SpellsLog version (record_bytes version r) (r ∷ [])
one_spelled version r is = record {
  bytes = sym (append-nil (record_bytes version r));
  valid = All-cons (IsRecord version) r [] is (All-nil (IsRecord version));
}

pub more_spelled : (version : ℕ) (bytes : List ℕ) (records : List Record) (r : Record)
    → SpellsLog version bytes records → IsRecord version r
    → SpellsLog version (bytes ++ record_bytes version r) (records ++ r ∷ [])
more_spelled version bytes records r so is =
    logs_join version bytes (record_bytes version r) records (r ∷ []) so (one_spelled version r is)

pub more_read : (version : ℕ) (bytes : List ℕ) (r : Record) → IsLogPayload version bytes
    → IsRecord version r
    → records_of version (bytes ++ record_bytes version r) ≡ records_of version bytes ++ r ∷ []
more_read version bytes r list is =
    records_list version (records_of version bytes ++ r ∷ []) (bytes ++ record_bytes version r)
    (more_spelled version bytes (records_of version bytes) r (spelled version bytes list) is)

-- ---- those of a number, left out

-- the records of what is read by a version
abbrev pub read : Versioned → List Record
read p = records_of p.version p.bytes

-- what is so before a record: kept are the other numbers' so far, and the rest is still to be looked at
pub record AreKept (tid : ℕ) (payload kept left : Versioned) : Type 0 where
  pub so_far : List Record
  pub version : kept.version ≡ VERSION
  pub spells : SpellsLog VERSION kept.bytes so_far
  pub rest : so_far ++ without_tid tid (read left) ≡ without_tid tid (read payload)
  pub valid : All (IsRecord VERSION) (read left)
  pub fits : size_of_all so_far + size_of_all (read left) ≤ PAYLOAD_LEN

pub kept_none : (tid : ℕ) (payload left kept : Versioned)
    → IsLogPayload payload.version payload.bytes → length payload.bytes ≤ PAYLOAD_LEN
    → read left ≡ read payload → kept.version ≡ VERSION → kept.bytes ≡ []
    → AreKept tid payload kept left
kept_none tid payload left kept list fits same version none = record {
  so_far = [];
  version = version;
  spells = subst (λ (k : List ℕ). SpellsLog VERSION k []) (sym none) (none_spelled VERSION);
  rest = ap (without_tid tid) same;
  valid = subst (All (IsRecord VERSION)) (sym same)
      (all_stay payload.version (read payload) (spelled payload.version payload.bytes list).valid);
  fits = omega (arith, fits, size_of_payload payload.version payload.bytes list, ap size_of_all same);
}

first_valid : (r : Record) (records : List Record) → All (IsRecord VERSION) (r ∷ records)
    → IsRecord VERSION r × All (IsRecord VERSION) records
first_valid r records each =
    (each 0 r (omega arith), λ i d within. each (suc i) d (omega (arith, within)))

module _ (tid : ℕ) (payload kept left after : Versioned) (r : Record)
    (so : AreKept tid payload kept left) (step : read left ≡ r ∷ read after) where
  parts : IsRecord VERSION r × All (IsRecord VERSION) (read after)
  parts = first_valid r (read after) (subst (All (IsRecord VERSION)) step so.valid)

  sizes : size_of_all (read left) ≡ size_of r + size_of_all (read after)
  sizes = ap size_of_all step ∙ sum_by-cons size_of r (read after)

  pub next_valid : IsRecord VERSION r
  next_valid = parts.0

  pub next_fits : length kept.bytes + length (record_bytes kept.version r) ≤ PAYLOAD_LEN
  next_fits =
      let so_long = ap length so.spells.bytes ∙ size_is VERSION so.so_far in
      omega (arith, so.fits, so_long, records_have_sizes kept.version r, sizes)

  -- it is another's and is kept
  pub kept_other : (new : Versioned) → eqb r.tid tid ≡ false
      → new ≡ record { version = kept.version; bytes = kept.bytes ++ record_bytes kept.version r }
      → AreKept tid payload new after
  kept_other new other is =
      let later = without_tid tid (read after) in
      let kept_it : without_tid tid (r ∷ read after) ≡ r ∷ later = rw other refl in
      let same : new.bytes ≡ kept.bytes ++ record_bytes VERSION r =
      ap (λ (p : Versioned). p.bytes) is
      ∙ ap (λ (v : ℕ). kept.bytes ++ record_bytes v r) so.version in
      record {
        so_far = so.so_far ++ r ∷ [];
        version = ap (λ (p : Versioned). p.version) is ∙ so.version;
        spells = subst (λ (k : List ℕ). SpellsLog VERSION k (so.so_far ++ r ∷ [])) (sym same)
            (more_spelled VERSION kept.bytes so.so_far r so.spells next_valid);
        rest = append_assoc so.so_far (r ∷ []) later
            ∙ ap (λ (l : List Record). so.so_far ++ l) (sym kept_it ∙ ap (without_tid tid) (sym step))
            ∙ so.rest;
        valid = parts.1;
        fits = omega (
          arith,
          so.fits,
          sizes,
          sum_by-append size_of so.so_far (r ∷ []),
          sum_by-cons size_of r [],
        );
      }

  -- it is of the number
  pub kept_own : eqb r.tid tid ≡ true → AreKept tid payload kept after
  kept_own own =
      let later = without_tid tid (read after) in
      let dropped : without_tid tid (r ∷ read after) ≡ later = rw own refl in
      record {
        so_far = so.so_far;
        version = so.version;
        spells = so.spells;
        rest = ap (λ (l : List Record). so.so_far ++ l)
            (sym dropped ∙ ap (without_tid tid) (sym step)) ∙ so.rest;
        valid = parts.1;
        fits = omega (arith, so.fits, sizes);
      }

pub kept_all : (tid : ℕ) (payload kept left : Versioned) → AreKept tid payload kept left
    → read left ≡ [] → Spells kept (without_tid tid (read payload))
kept_all tid payload kept left so past =
    let all : so.so_far ≡ without_tid tid (read payload) =
    sym (append-nil so.so_far)
    ∙ ap (λ (l : List Record). so.so_far ++ without_tid tid l) (sym past) ∙ so.rest in
    subst (λ (v : ℕ). SpellsLog v kept.bytes (without_tid tid (read payload))) (sym so.version)
    (subst (SpellsLog VERSION kept.bytes) all so.spells)

-- ---- answers of calls

pub done_as_it_fits : (b : Bool) (P X : Type 0) → IsTrue b ↔ P → P → OnTrue b X → X
done_as_it_fits true P X fits is done = done
done_as_it_fits false P X fits is done = absurd (false≢true (fits.1 is))

pub pushed_then : (b : Bool) (old new : Versioned) (all : List Record) (r : Record)
    → OnTrue b (new
    ≡ record { version = old.version; bytes = old.bytes ++ record_bytes old.version r })
    → IsLogPayload old.version old.bytes → IsRecord old.version r → all ≡ read old
    → OnTrue b (read new ≡ all ++ r ∷ [])
pushed_then true old new all r is list valid same =
    ap read is ∙ more_read old.version old.bytes r list valid
    ∙ ap (λ (l : List Record). l ++ r ∷ []) (sym same)
pushed_then false old new all r is list valid same = tt

pub empty_then : (b : Bool) (version : ℕ) (bytes : List ℕ) (all : List Record)
    → b ≡ eqb (length bytes) 0 → IsLogPayload version bytes → all ≡ records_of version bytes
    → (IsTrue b → all ≡ []) × (all ≡ [] → IsTrue b)
empty_then b version [] all is list same =
    (λ some. same ∙ no_records version, λ none. subst IsTrue (sym is) refl)
empty_then b version (x ∷ bytes) all is list same =
    let some : eqb (length (x ∷ bytes)) 0 ≡ false =
    ne_eqb (length (x ∷ bytes)) 0 (λ none. absurd (omega (arith, none))) in (
      λ empty. absurd (false≢true (sym some ∙ subst IsTrue is empty)),
      λ none. absurd (omega (
        arith,
        size_of_payload version (x ∷ bytes) list,
        ap size_of_all (sym same ∙ none),
      )),
    )
