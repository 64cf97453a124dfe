-- One record: what is spelled is read, and what is read is spelled so.
use Rattle.std.proofs.Common.{◌≡◌, ◌≤◌, ◌<◌, ◌^◌, ℕ, ◌+◌, Bool, true, false, cond, eqb, leb, List, ◌++◌, Option, Some, None, ◌∙◌, ap, ap₂, sym, refl, subst, inl, inr, ◌⊎◌, arith, length, drop, take, length-append, length-drop, append_assoc}
use Rattle.std.specs.Prelude.{slice_index, ◌&&◌}
use Rattle.std.proofs.lemmas.Bool.{eqb-true, ltb-true, leb-true, lt-ltb, le-leb, eq-eqb}
use Rattle.std.proofs.lemmas.List.{take_at, drop_at, take-append-drop, drop-drop, length-take-le}
use Rattle.std.proofs.lemmas.Option.{cond_some}
use Rattle.std.proofs.Math.Seq.{take-add}
use Rattle.ipl_format.specs.Numbers.{IsBytes, long, long_at}
use Rattle.ipl_format.specs.Version.{most_len}
use Rattle.ipl_format.specs.Record.{Record, IsRecord, kind_of, value_of, record_head, record_bytes, kind_in, slot_in, size_in}
use Rattle.ipl_format.proofs.RecordLemmas.{length-head, records_have_sizes}
use Rattle.ipl_format.proofs.ListLemmas.{and_true, both_true, bytes-drop}
use Rattle.ipl_format.proofs.NumberLemmas.{length-long, long_rebuilt, long_again, long_at-lt}
use Rattle.log_records.specs.Reading.{change_at, first_record, has_record, is_change, record_at}
use Rattle.log_records.proofs.HeadLemmas.{HeadSays, head_again, head_rebuilt}

-- ---- what is spelled is read

at_4 : (xs : List ℕ) → long_at 4 xs ≡ long_at 0 (drop 4 xs)
unfolding long_at
at_4 xs = refl

change_ok : (version : ℕ) (v : Option (List ℕ)) → length (value_of v) ≤ most_len version
    → is_change version (kind_of v) (length (value_of v)) ≡ true
change_ok version (Some value) h = rw (le-leb (length value) (most_len version) h) refl
change_ok version None h = refl

value_again : (v : Option (List ℕ)) (rest : List ℕ)
    → cond (eqb (kind_of v) 1) (Some (take (length (value_of v)) (value_of v ++ rest))) None ≡ v
value_again (Some value) rest = ap Some (take_at value rest (length value) refl)
value_again None rest = refl

module _ (version page slot tid : ℕ) (v : Option (List ℕ)) (rest : List ℕ) where
  abbrev entry : Record
  entry = record { page = page; slot = slot; tid = tid; change = v }

  abbrev head : List ℕ
  head = record_head version page (kind_of v) slot (length (value_of v))

  abbrev text : List ℕ
  text = record_bytes version entry ++ rest

  parts : text ≡ head ++ (long tid ++ (value_of v ++ rest))
  unfolding record_bytes
  parts = append_assoc head (long tid ++ value_of v) rest
      ∙ ap (λ (xs : List ℕ). head ++ xs) (append_assoc (long tid) (value_of v) rest)

  behind_head : drop 4 text ≡ long tid ++ (value_of v ++ rest)
  behind_head =
      ap (drop 4) parts
      ∙ drop_at head _ 4 (length-head version page (kind_of v) slot (length (value_of v)))

  behind_number : drop 12 text ≡ value_of v ++ rest
  behind_number = sym (drop-drop 8 4 text) ∙ ap (drop 8) behind_head
      ∙ drop_at (long tid) _ 8 (length-long tid)

  text_len : length text ≡ 12 + length (value_of v) + length rest
  text_len =
      omega (
        arith,
        records_have_sizes version entry,
        length-append (record_bytes version entry) rest,
      )

  says : IsRecord version entry → HeadSays version page (kind_of v) slot (length (value_of v)) text
  says h =
      subst (HeadSays version page (kind_of v) slot (length (value_of v))) (sym parts)
      (head_again version page (kind_of v) slot (length (value_of v)) _ h.slot h.value)

  begins : IsRecord version entry → has_record version text ≡ true
  begins h =
      let size = text_len in
      let said = says h in
      let enough : leb 12 (length text) ≡ true = le-leb 12 (length text) (omega (arith, size)) in
      let whole : leb (12 + size_in version text) (length text) ≡ true =
      le-leb (12 + size_in version text) (length text) (omega (arith, size, said.len_is)) in
      let change : is_change version (kind_in version text) (size_in version text) ≡ true =
      ap₂ (is_change version) said.kind_is said.len_is ∙ change_ok version v h.value in
      and_true enough (and_true
      (lt-ltb (slice_index text 0) 15 (omega (arith, said.page_is, h.page)))
      (and_true (lt-ltb (slot_in version text) 64 (omega (arith, said.slot_is, h.slot)))
      (and_true change whole)))

  same_entry : (p s t : ℕ) (w : Option (List ℕ)) → p ≡ page → s ≡ slot → t ≡ tid → w ≡ v
      → ◌≡◌ {A = Record} (record { page = p; slot = s; tid = t; change = w }) entry
  same_entry p s t w d e f g = rw (d, e, f, g) refl

  number_is : tid < 2 ^ 64 → long_at 4 text ≡ tid
  number_is h = at_4 text ∙ ap (long_at 0) behind_head ∙ long_again tid (value_of v ++ rest) h

  change_is : IsRecord version entry → change_at version text ≡ v
  change_is h =
      let said = says h in
      ap₂ (λ (k : ℕ) (n : ℕ). cond (eqb k 1) (Some (take n (drop 12 text))) None) said.kind_is
      said.len_is
      ∙ ap (λ (xs : List ℕ). cond (eqb (kind_of v) 1) (Some (take (length (value_of v)) xs)) None)
      behind_number ∙ value_again v rest

  first : IsRecord version entry → first_record version text ≡ entry
  first h =
      let said = says h in
      same_entry (slice_index text 0) (slot_in version text) (long_at 4 text)
      (change_at version text) said.page_is said.slot_is (number_is h.tid) (change_is h)

  after : IsRecord version entry → drop (12 + size_in version text) text ≡ rest
  after h =
      ap (λ (n : ℕ). drop (12 + n) text) (says h).len_is
      ∙ sym (drop-drop (length (value_of v)) 12 text)
      ∙ ap (drop (length (value_of v))) behind_number
      ∙ drop_at (value_of v) rest (length (value_of v)) refl

  parts_again : IsRecord version entry → record_at version text ≡ Some (entry, rest)
  unfolding record_at
  parts_again h =
      ap (λ (b : Bool).
      cond b (Some (first_record version text, drop (12 + size_in version text) text)) None)
      (begins h)
      ∙ ap₂ (λ (x : Record) (y : List ℕ). let r : Option (Record × List ℕ) = Some (x, y) in
      r) (first h) (after h)

pub again : (version : ℕ) (e : Record) (rest : List ℕ) → IsRecord version e
    → record_at version (record_bytes version e ++ rest) ≡ Some (e, rest)
again version e rest h = parts_again version e.page e.slot e.tid e.change rest h

-- ---- what is read is spelled so

pub record Takes (version : ℕ) (bytes : List ℕ) (e : Record) (rest : List ℕ) : Type 0 where
  pub spelled : bytes ≡ record_bytes version e ++ rest
  pub entry : IsRecord version e

-- what the tests say of a front
pub record HasRecord (version : ℕ) (bytes : List ℕ) : Type 0 where
  pub enough : 12 ≤ length bytes
  pub page : slice_index bytes 0 < 15
  pub slot : slot_in version bytes < 64
  pub kind : kind_of (change_at version bytes) ≡ kind_in version bytes
  pub size : length (value_of (change_at version bytes)) ≡ size_in version bytes
  pub short : size_in version bytes ≤ most_len version
  pub whole : 12 + size_in version bytes ≤ length bytes
  pub value : value_of (change_at version bytes) ≡ take (size_in version bytes) (drop 12 bytes)

put_tests : (kind len most : ℕ) → (eqb kind 1 && leb len most) ≡ true → (kind ≡ 1) × (len ≤ most)
put_tests kind len most e = let p = both_true _ _ e in (eqb-true _ _ p.0, leb-true _ _ p.1)

delete_tests : (kind len : ℕ) → (eqb kind 2 && eqb len 0) ≡ true → (kind ≡ 2) × (len ≡ 0)
delete_tests kind len e = let p = both_true _ _ e in (eqb-true _ _ p.0, eqb-true _ _ p.1)

change_cases : (version kind len : ℕ) → is_change version kind len ≡ true
    → ((kind ≡ 1) × (len ≤ most_len version)) ⊎ ((kind ≡ 2) × (len ≡ 0))
change_cases version kind len e = go (eqb kind 1 && leb len (most_len version)) refl
  where
    go : (b : Bool) → (eqb kind 1 && leb len (most_len version)) ≡ b
        → ((kind ≡ 1) × (len ≤ most_len version)) ⊎ ((kind ≡ 2) × (len ≡ 0))
    go true h = inl (put_tests kind len (most_len version) h)
    go false h = inr (delete_tests kind len (rw h at e))

value_is : (version : ℕ) (bytes : List ℕ) (b : Bool) → eqb (kind_in version bytes) 1 ≡ b
    → change_at version bytes ≡ cond b (Some (take (size_in version bytes) (drop 12 bytes))) None
value_is version bytes b e =
    ap (λ (x : Bool). cond x (Some (take (size_in version bytes) (drop 12 bytes))) None) e

fits_behind : (n : ℕ) (bytes : List ℕ) → 12 + n ≤ length bytes → n ≤ length (drop 12 bytes)
fits_behind n bytes whole = omega (arith, whole, length-drop 12 bytes)

pub front_facts : (version : ℕ) (bytes : List ℕ) → has_record version bytes ≡ true
    → HasRecord version bytes
front_facts version bytes e =
    let a = both_true _ _ e in
    let b = both_true _ _ a.1 in
    let d = both_true _ _ b.1 in
    let f = both_true _ _ d.1 in
    let enough = leb-true 12 (length bytes) a.0 in
    let whole = leb-true (12 + size_in version bytes) (length bytes) f.1 in
    let fits : size_in version bytes ≤ length (drop 12 bytes) =
    fits_behind (size_in version bytes) bytes whole in
    let size = length-take-le (size_in version bytes) (drop 12 bytes) fits in
    elim (change_cases version (kind_in version bytes) (size_in version bytes) f.0) [
      | inl put ↦ let is = value_is version bytes true (eq-eqb _ _ put.0) in record {
        enough = enough;
        page = ltb-true _ _ b.0;
        slot = ltb-true _ _ d.0;
        kind = ap kind_of is ∙ sym put.0;
        size = ap (λ v. length (value_of v)) is ∙ size;
        short = put.1;
        whole = whole;
        value = ap value_of is;
      }
      | inr delete ↦ let is = value_is version bytes false (ap (λ (k : ℕ). eqb k 1) delete.0) in
          record {
            enough = enough;
            page = ltb-true _ _ b.0;
            slot = ltb-true _ _ d.0;
            kind = ap kind_of is ∙ sym delete.0;
            size = ap (λ v. length (value_of v)) is ∙ sym delete.1;
            short = none_short (size_in version bytes) (most_len version) delete.1;
            whole = whole;
            value = ap value_of is ∙ sym (ap (λ (n : ℕ). take n (drop 12 bytes)) delete.1);
          }
    ]
  where
    none_short : (n most : ℕ) → n ≡ 0 → n ≤ most
    none_short n most is = omega (arith, is)

-- a front with an entry is its spelling
front_spelled : (version : ℕ) (bytes : List ℕ) → IsBytes bytes → HasRecord version bytes
    → bytes ≡ record_bytes version (first_record version bytes)
    ++ drop (12 + size_in version bytes) bytes
unfolding record_bytes
front_spelled version bytes all h =
    let enough = h.enough in
    let four : take 4 bytes ≡ record_head version (slice_index bytes 0)
    (kind_of (change_at version bytes)) (slot_in version bytes)
    (length (value_of (change_at version bytes))) =
    head_rebuilt version bytes (omega (arith, enough)) all
    ∙ sym (ap₂ (λ (k n : ℕ). record_head version (slice_index bytes 0) k (slot_in version bytes) n)
    h.kind h.size) in
    let number : take 8 (drop 4 bytes) ≡ long (long_at 4 bytes) =
    long_rebuilt 4 bytes (omega (arith, enough, length-drop 4 bytes))
    (bytes-drop 4 bytes all) in
    let behind : take (8 + size_in version bytes) (drop 4 bytes) ≡ long (long_at 4 bytes)
    ++ value_of (change_at version bytes) =
    take-add 8 (size_in version bytes) (drop 4 bytes) ∙ ap₂ (λ (xs ys : List ℕ). xs ++ ys) number
    (ap (take (size_in version bytes)) (drop-drop 8 4 bytes) ∙ sym h.value) in
    let front : take (12 + size_in version bytes) bytes
    ≡ record_bytes version (first_record version bytes) =
    ap (λ (n : ℕ). take n bytes) (twelve (size_in version bytes))
    ∙ take-add 4 (8 + size_in version bytes) bytes
    ∙ ap₂ (λ (xs ys : List ℕ). xs ++ ys) four behind in
    sym (take-append-drop (12 + size_in version bytes) bytes)
    ∙ ap (λ (xs : List ℕ). xs ++ drop (12 + size_in version bytes) bytes) front
  where
    twelve : (n : ℕ) → 12 + n ≡ 4 + (8 + n)
    twelve n = omega arith

-- the parts of a read
read_parts : (version : ℕ) (bytes : List ℕ) (e : Record) (rest : List ℕ)
    → record_at version bytes ≡ Some (e, rest)
    → (has_record version bytes ≡ true) × (first_record version bytes ≡ e)
    × (drop (12 + size_in version bytes) bytes ≡ rest)
unfolding record_at
read_parts version bytes e rest h =
    let p = cond_some (has_record version bytes) _ _ h in
    (p.0, ap (λ (x : Record × List ℕ). x.0) p.1, ap (λ (x : Record × List ℕ). x.1) p.1)

pub takes : (version : ℕ) (bytes : List ℕ) (e : Record) (rest : List ℕ) → IsBytes bytes
    → record_at version bytes ≡ Some (e, rest) → Takes version bytes e rest
takes version bytes e rest all h =
    let p = read_parts version bytes e rest h in
    let facts = front_facts version bytes p.0 in
    let is : IsRecord version (first_record version bytes) = record {
      page = facts.page;
      slot = facts.slot;
      tid = long_at-lt 4 bytes (bytes-drop 4 bytes all);
      value = omega (arith, facts.size, facts.short);
    } in
    record {
      spelled = front_spelled version bytes all facts
          ∙ ap₂ (λ (x : Record) (y : List ℕ). record_bytes version x ++ y) p.1 p.2;
      entry = subst (IsRecord version) p.1 is;
    }

pub shorter : (version : ℕ) (bytes : List ℕ) (e : Record) (rest : List ℕ)
    → record_at version bytes ≡ Some (e, rest) → length rest < length bytes
shorter version bytes e rest h =
    let p = read_parts version bytes e rest h in
    let facts = front_facts version bytes p.0 in
    omega (arith, ap length p.2, length-drop (12 + size_in version bytes) bytes, facts.enough)

-- three parts behind one another are a record's bytes
pub three_parts : (version : ℕ) (r : Record) (old head number value : List ℕ)
    → head ≡ record_head version r.page (kind_of r.change) r.slot (length (value_of r.change))
    → number ≡ long r.tid → value ≡ value_of r.change
    → ((old ++ head) ++ number) ++ value ≡ old ++ record_bytes version r
unfolding record_bytes
three_parts version r old head number value h n v =
    append_assoc (old ++ head) number value ∙ append_assoc old head (number ++ value)
    ∙ ap (λ (xs : List ℕ). old ++ xs)
    (ap₂ (λ (xs ys : List ℕ). xs ++ ys) h (ap₂ (λ (xs ys : List ℕ). xs ++ ys) n v))
