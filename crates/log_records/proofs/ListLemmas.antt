-- Lists of records: what was read so far, and what is left.
use Rattle.std.proofs.Common.{◌≡◌, ◌<◌, ℕ, zero, suc, ◌+◌, false, List, [], ◌∷◌, ◌++◌, Some, None, ◌∙◌, ap, sym, refl, subst, arith, length, get_or, All, eqb, append_assoc, length-append}
use Rattle.std.proofs.lemmas.List.{append-nil, get_or-append-add}
use Rattle.std.proofs.lemmas.List.Elements.{All-nil, All-cons, All-append}
use Rattle.std.proofs.lemmas.Grind.{flat_map-append}
use Rattle.std.proofs.lemmas.Bool.{false≢true}
use Rattle.std.proofs.lemmas.Option.{none-some}
use Rattle.ipl_format.specs.Numbers.{IsBytes}
use Rattle.ipl_format.specs.Record.{Record, IsRecord, IsLogPayload, record_bytes, log_bytes}
use Rattle.ipl_format.proofs.RecordLemmas.{records_end_themselves, records_have_sizes}
use Rattle.log_records.specs.Reading.{record_at}
use Rattle.log_records.proofs.RecordLemmas.{again, takes}

-- the bytes begin with records, and go on with the rest
pub record Begins (version : ℕ) (bytes rest : List ℕ) : Type 0 where
  pub front : List Record
  pub each : All (IsRecord version) front
  pub parts : bytes ≡ log_bytes version front ++ rest

pub begins_none : (version : ℕ) (bytes : List ℕ) → Begins version bytes bytes
begins_none version bytes = record { front = []; each = All-nil (IsRecord version); parts = refl }

one_more : (version : ℕ) (rs : List Record) (r : Record)
    → log_bytes version (rs ++ r ∷ []) ≡ log_bytes version rs ++ record_bytes version r
one_more version rs r = flat_map-append (record_bytes version) rs (r ∷ [])
    ∙ ap (λ (xs : List ℕ). log_bytes version rs ++ xs) (append-nil (record_bytes version r))

each_more : (version : ℕ) (rs : List Record) (r : Record) → All (IsRecord version) rs
    → IsRecord version r → All (IsRecord version) (rs ++ r ∷ [])
each_more version rs r each is =
    All-append (IsRecord version) rs (r ∷ []) each
    (All-cons (IsRecord version) r [] is (All-nil (IsRecord version)))

pub begins_more : (version : ℕ) (bytes rest : List ℕ) (r : Record) (after : List ℕ)
    → Begins version bytes rest → IsBytes rest → record_at version rest ≡ Some (r, after)
    → Begins version bytes after
begins_more version bytes rest r after h all read =
    let t = takes version rest r after all read in record {
      front = h.front ++ r ∷ [];
      each = each_more version h.front r h.each t.entry;
      parts = h.parts ∙ (ap (λ (xs : List ℕ). log_bytes version h.front ++ xs) t.spelled
          ∙ (sym (append_assoc (log_bytes version h.front) (record_bytes version r) after)
          ∙ ap (λ (xs : List ℕ). xs ++ after) (sym (one_more version h.front r))));
    }

pub begins_all : (version : ℕ) (bytes : List ℕ) → Begins version bytes []
    → IsLogPayload version bytes
begins_all version bytes h =
    (h.front, record { bytes = h.parts ∙ append-nil (log_bytes version h.front); valid = h.each })

-- a payload with one more record
pub put_list : (version : ℕ) (bytes : List ℕ) (r : Record) → IsLogPayload version bytes
    → IsRecord version r → IsLogPayload version (bytes ++ record_bytes version r)
put_list version bytes r l is = (
  l.0 ++ r ∷ [],
  record {
    bytes = ap (λ (xs : List ℕ). xs ++ record_bytes version r) l.1.bytes
        ∙ sym (one_more version l.0 r);
    valid = each_more version l.0 r l.1.valid is;
  },
)

-- ---- a list goes on after its front as the list of its other records

-- a spelling isn't empty
pub not_empty : (version : ℕ) (r : Record) (rest : List ℕ) → record_bytes version r ++ rest ≡ [] → ⊥
not_empty version r rest h =
    absurd (omega (
      arith,
      ap length h,
      length-append (record_bytes version r) rest,
      records_have_sizes version r,
    ))

pub record GoesOn (version : ℕ) (rest : List ℕ) (front rs : List Record) : Type 0 where
  pub others : List Record
  pub each : All (IsRecord version) others
  pub parts : rest ≡ log_bytes version others

others_valid : (version : ℕ) (r : Record) (rs : List Record) → All (IsRecord version) (r ∷ rs)
    → All (IsRecord version) rs
others_valid version r rs h = λ i d within. h (suc i) d (omega arith)

pub goes_on : (version : ℕ) (front rs : List Record) (rest : List ℕ) → All (IsRecord version) front
    → All (IsRecord version) rs
    → log_bytes version front ++ rest ≡ log_bytes version rs → GoesOn version rest front rs
goes_on version [] rs rest h k e = record { others = rs; each = k; parts = e }
goes_on version (x ∷ front) [] rest h k e =
    absurd (not_empty version x (log_bytes version front ++ rest)
    (sym (append_assoc (record_bytes version x) (log_bytes version front) rest) ∙ e))
goes_on version (x ∷ front) (y ∷ rs) rest h k e =
    let (first, tails) =
    records_end_themselves version x y (log_bytes version front ++ rest) (log_bytes version rs)
    (h 0 x (omega arith)) (k 0 y (omega arith))
    (sym (append_assoc (record_bytes version x) (log_bytes version front) rest) ∙ e) in
    let next =
    goes_on version front rs rest (others_valid version x front h)
    (others_valid version y rs k) tails in record {
      others = next.others;
      each = next.each;
      parts = next.parts;
    }

-- where no record can be read, and something is left, the bytes are no list
nothing_left : (version : ℕ) (rest : List ℕ) (others : List Record) → All (IsRecord version) others
    → rest ≡ log_bytes version others → record_at version rest ≡ None → 0 < length rest → ⊥
nothing_left version rest [] h e none some = absurd (omega (arith, ap length e))
nothing_left version rest (x ∷ others) h e none some =
    none-some (x, log_bytes version others) (sym none
    ∙ (ap (record_at version) e
    ∙ again version x (log_bytes version others) (h 0 x (omega arith))))

pub no_list : (version : ℕ) (bytes rest : List ℕ) → Begins version bytes rest
    → record_at version rest ≡ None → 0 < length rest → IsLogPayload version bytes → ⊥
no_list version bytes rest h none some l =
    let on = goes_on version h.front l.0 rest h.each l.1.valid (sym h.parts ∙ l.1.bytes) in
    nothing_left version rest on.others on.each on.parts none some

-- ---- for a loop over the bytes

pub rest_bytes : (version : ℕ) (bytes rest : List ℕ) → Begins version bytes rest → IsBytes bytes
    → IsBytes rest
rest_bytes version bytes rest h all i =
    subst (λ (n : ℕ). n < 256)
    (ap (λ (xs : List ℕ). get_or xs (length (log_bytes version h.front) + i) 0) h.parts
    ∙ get_or-append-add (log_bytes version h.front) rest i 0)
    (all (length (log_bytes version h.front) + i))

pub some_left : (n : ℕ) → false ≡ eqb n 0 → 0 < n
some_left zero e = absurd (false≢true e)
some_left (suc n) e = omega arith
