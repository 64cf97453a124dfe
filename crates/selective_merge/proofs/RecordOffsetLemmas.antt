-- Where log records stand.
use Rattle.std.proofs.Common.{◌≡◌, ◌<◌, ◌≤◌, ◌+◌, ◌-◌, ℕ, zero, suc, true, false, List, [], ◌∷◌, ◌++◌, length, map, drop, get_or, inl, inr, Option, Some, None, refl, sym, ◌∙◌, ap, subst, arith, length-drop, append_assoc}
use Rattle.std.specs.List.{All}
use Rattle.std.specs.Option.{option_map_or}
use Rattle.std.proofs.lemmas.Bool.{cases_Bool}
use Rattle.std.proofs.lemmas.List.{map-append, drop-drop, get_or-drop, get_or-map, drop_more}
use Rattle.std.proofs.lemmas.List.Elements.{All-nil, All-cons, All-append}
use Rattle.ipl_base.specs.declared.limits.TheConstants.{VERSION}
use Rattle.ipl_format.specs.Record.{Record, IsRecord, IsLogPayload, size_in}
use Rattle.ipl_format.proofs.RecordLemmas.{all_stay}
use Rattle.log_records.specs.Reading.{first_record, has_record, record_at, records_of, records_within}
use Rattle.log_records.proofs.RecordLemmas.{front_facts}
use Rattle.log_records.proofs.RecordsLemmas.{records_list}
use Rattle.unit_log.specs.declared.scratch.LogSector.{LogSector}
use Rattle.unit_log.specs.Kept.{records_kept}
use Rattle.selective_merge.specs.declared.record_offset.RecordOffset.{RecordOffset}
use Rattle.selective_merge.specs.Logs.{nth_record, sector_at, located, IsOffset, offsets_within, offsets_in, offsets_of}

-- ---- one sector

record_there : (v : ℕ) (bs : List ℕ) → has_record v bs ≡ true
    → record_at v bs ≡ Some (first_record v bs, drop (12 + size_in v bs) bs)
unfolding record_at
record_there v bs is = rw is refl

record_none : (v : ℕ) (bs : List ℕ) → has_record v bs ≡ false → record_at v bs ≡ None
unfolding record_at
record_none v bs none = rw none refl

within_none : (v n : ℕ) (bs : List ℕ) → has_record v bs ≡ false → records_within v n bs ≡ []
unfolding records_within
within_none v zero bs none = refl
within_none v (suc n) bs none =
    ap (λ (o : Option (Record × List ℕ)).
    option_map_or (λ (p : Record × List ℕ). p.0 ∷ records_within v n p.1) o []) (record_none v bs none)

within_some : (v n : ℕ) (bs : List ℕ) → has_record v bs ≡ true
    → records_within v (suc n) bs ≡ first_record v bs ∷ records_within v n (drop (12 + size_in v bs) bs)
unfolding records_within
within_some v n bs is =
    ap (λ (o : Option (Record × List ℕ)).
    option_map_or (λ (p : Record × List ℕ). p.0 ∷ records_within v n p.1) o []) (record_there v bs is)

pub step_there : (n v k at : ℕ) (bytes : List ℕ) → has_record v (drop at bytes) ≡ true
    → offsets_within (suc n) v k at bytes
    ≡ record { sector = k; at = at } ∷ offsets_within n v k (at + (12 + size_in v (drop at bytes))) bytes
step_there n v k at bytes is = rw is refl

pub step_none : (n v k at : ℕ) (bytes : List ℕ) → has_record v (drop at bytes) ≡ false
    → offsets_within n v k at bytes ≡ []
step_none zero v k at bytes none = refl
step_none (suc n) v k at bytes none = rw none refl

module _ (sectors : List LogSector) (k : ℕ) (x : LogSector) (is : sector_at sectors k ≡ x)
    (low : k < length sectors) where
  within_located : (n at : ℕ) → map (located sectors) (offsets_within n x.payload.version k at x.payload.bytes)
      ≡ records_within x.payload.version n (drop at x.payload.bytes)
  unfolding records_within
  within_located zero at = refl
  within_located (suc n) at =
      let v = x.payload.version in
      let bytes = x.payload.bytes in
      let rest = drop at bytes in
      elim (cases_Bool (has_record v rest)) [
        | inl there ↦
            let next = within_located n (at + (12 + size_in v rest)) in
            ap (map (located sectors)) (step_there n v k at bytes there)
            ∙ ap (λ (y : LogSector). first_record y.payload.version (drop at y.payload.bytes)
            ∷ map (located sectors) (offsets_within n v k (at + (12 + size_in v rest)) bytes)) is
            ∙ ap (λ (l : List Record). first_record v rest ∷ l) (next
            ∙ ap (records_within v n) (sym (drop-drop (12 + size_in v rest) at bytes)))
            ∙ sym (within_some v n rest there)
        | inr none ↦
            ap (map (located sectors)) (step_none (suc n) v k at bytes none)
            ∙ sym (within_none v (suc n) rest none)
      ]

  within_are : (n at : ℕ) → All (IsOffset sectors) (offsets_within n x.payload.version k at x.payload.bytes)
  within_are zero at = All-nil (IsOffset sectors)
  within_are (suc n) at =
      let v = x.payload.version in
      let bytes = x.payload.bytes in
      let rest = drop at bytes in
      elim (cases_Bool (has_record v rest)) [
        | inl there ↦ subst (All (IsOffset sectors)) (sym (step_there n v k at bytes there))
            (All-cons (IsOffset sectors) (record { sector = k; at = at })
            (offsets_within n v k (at + (12 + size_in v rest)) bytes)
            (record {
              sector = low;
              at = subst (λ (y : LogSector). at ≤ length y.payload.bytes) (sym is)
                  (let facts = front_facts v rest there in
                  let enough = facts.enough in omega (arith, enough, length-drop at bytes));
              begins = subst (λ (y : LogSector). has_record y.payload.version (drop at y.payload.bytes) ≡ true)
                  (sym is) there;
            })
            (within_are n (at + (12 + size_in v rest))))
        | inr none ↦ subst (All (IsOffset sectors)) (sym (step_none (suc n) v k at bytes none))
            (All-nil (IsOffset sectors))
      ]

-- ---- several

abbrev pub none : LogSector
none = record { serial = 0; payload = record { version = 0; bytes = [] } }

module _ (sectors : List LogSector) where
  first_is : (k : ℕ) (x : LogSector) (rest : List LogSector) → drop k sectors ≡ x ∷ rest
      → sector_at sectors k ≡ x
  first_is k x rest is =
      let plus : k ≡ k + 0 = omega arith in
      ap (λ (j : ℕ). get_or sectors j none) plus ∙ sym (get_or-drop k sectors 0 none)
      ∙ ap (λ (l : List LogSector). get_or l 0 none) is

  is_low : (k : ℕ) (x : LogSector) (rest : List LogSector) → drop k sectors ≡ x ∷ rest
      → k < length sectors
  is_low k x rest is = omega (arith, ap length is, length-drop k sectors)

  rest_is : (k : ℕ) (x : LogSector) (rest : List LogSector) → drop k sectors ≡ x ∷ rest
      → drop (k + 1) sectors ≡ rest
  rest_is k x rest is = sym (drop-drop 1 k sectors) ∙ ap (drop 1) is

  pub all_located : (k : ℕ) (rest : List LogSector) → drop k sectors ≡ rest
      → map (located sectors) (offsets_of k rest) ≡ records_kept rest
  unfolding records_of
  all_located k [] is = refl
  all_located k (x ∷ rest) is =
      map-append (located sectors) (offsets_in x.payload.version k x.payload.bytes) (offsets_of (k + 1) rest)
      ∙ ap (λ (l : List Record). l ++ map (located sectors) (offsets_of (k + 1) rest))
      (within_located sectors k x (first_is k x rest is) (is_low k x rest is) (length x.payload.bytes) 0)
      ∙ ap (λ (l : List Record). records_of x.payload.version x.payload.bytes ++ l)
      (all_located (k + 1) rest (rest_is k x rest is))

  pub all_are : (k : ℕ) (rest : List LogSector) → drop k sectors ≡ rest
      → All (IsOffset sectors) (offsets_of k rest)
  all_are k [] is = All-nil (IsOffset sectors)
  all_are k (x ∷ rest) is =
      All-append (IsOffset sectors) (offsets_in x.payload.version k x.payload.bytes) (offsets_of (k + 1) rest)
      (within_are sectors k x (first_is k x rest is) (is_low k x rest is) (length x.payload.bytes) 0)
      (all_are (k + 1) rest (rest_is k x rest is))

  -- their records may be written
  pub all_valid : ((k : ℕ) → k < length sectors
      → IsLogPayload (sector_at sectors k).payload.version (sector_at sectors k).payload.bytes)
      → (k : ℕ) (rest : List LogSector) → drop k sectors ≡ rest
      → All (IsRecord VERSION) (records_kept rest)
  all_valid spelled k [] is = All-nil (IsRecord VERSION)
  all_valid spelled k (x ∷ rest) is =
      let own : IsLogPayload x.payload.version x.payload.bytes =
      subst (λ (y : LogSector). IsLogPayload y.payload.version y.payload.bytes) (first_is k x rest is)
      (spelled k (is_low k x rest is)) in
      All-append (IsRecord VERSION) (records_of x.payload.version x.payload.bytes) (records_kept rest)
      (subst (All (IsRecord VERSION)) (sym (records_list x.payload.version own.0 x.payload.bytes own.1))
      (all_stay x.payload.version own.0 own.1.valid))
      (all_valid spelled (k + 1) rest (rest_is k x rest is))

-- the i-th record stands at the i-th offset
pub nth_located : (sectors : List LogSector) (offsets : List RecordOffset) (i : ℕ) (p : RecordOffset)
    → i < length offsets → p ≡ get_or offsets i p
    → nth_record (map (located sectors) offsets) i ≡ located sectors p
nth_located sectors offsets i p low is =
    get_or-map (located sectors) offsets i p (record { page = 0; slot = 0; tid = 0; change = None }) low
    ∙ ap (located sectors) (sym is)

-- ---- one after the other

pub index_next : (v s at turn size : ℕ) (bytes : List ℕ) (now new all : List RecordOffset) → turn < length bytes
    → has_record v (drop at bytes) ≡ true → size ≡ 12 + size_in v (drop at bytes)
    → new ≡ now ++ record { sector = s; at = at } ∷ []
    → now ++ offsets_within (length bytes - turn) v s at bytes ≡ all
    → new ++ offsets_within (length bytes - (turn + 1)) v s (at + size) bytes ≡ all
index_next v s at turn size bytes now new all low there long is same =
    let n : ℕ = length bytes - (turn + 1) in
    let p : RecordOffset = record { sector = s; at = at } in
    let fuel : length bytes - turn ≡ suc n = omega (arith, low) in
    ap (λ (l : List RecordOffset). l ++ offsets_within n v s (at + size) bytes) is
    ∙ append_assoc now (p ∷ []) (offsets_within n v s (at + size) bytes)
    ∙ ap (λ (k : ℕ). now ++ p ∷ offsets_within n v s (at + k) bytes) long
    ∙ ap (λ (l : List RecordOffset). now ++ l)
    (sym (ap (λ (m : ℕ). offsets_within m v s at bytes) fuel ∙ step_there n v s at bytes there))
    ∙ same

pub index_more : (sectors : List LogSector) (k : ℕ) (x : LogSector) (v : ℕ) (bs : List ℕ)
    (now new all : List RecordOffset) → k < length sectors
    → v ≡ (get_or sectors k x).payload.version → bs ≡ (get_or sectors k x).payload.bytes
    → new ≡ now ++ offsets_in v k bs → now ++ offsets_of k (drop k sectors) ≡ all
    → new ++ offsets_of (k + 1) (drop (k + 1) sectors) ≡ all
index_more sectors k x v bs now new all low version bytes is same =
    let rest : List RecordOffset = offsets_of (k + 1) (drop (k + 1) sectors) in
    let g : LogSector = get_or sectors k x in
    ap (λ (l : List RecordOffset). l ++ rest) is
    ∙ append_assoc now (offsets_in v k bs) rest
    ∙ ap (λ (n : ℕ). now ++ (offsets_in n k bs ++ rest)) version
    ∙ ap (λ (b : List ℕ). now ++ (offsets_in g.payload.version k b ++ rest)) bytes
    ∙ ap (λ (l : List RecordOffset). now ++ l) (sym (ap (offsets_of k) (drop_more sectors k x low)))
    ∙ same
