-- Laws of the last record that counts, and of packing.
use Rattle.std.proofs.Common.{◌≡◌, ℕ, suc, List, [], ◌∷◌, ◌++◌, Option, Some, None, Bool, refl, ◌∙◌, ap, arith, inl, inr, append_assoc, sym, true, false, ◌&&◌, not, eqb, IsTrue, if◌then◌else◌}
use Rattle.std.specs.List.{All, flat_map, list_any}
use Rattle.std.proofs.lemmas.List.Elements.{All-nil, All-cons}
use Rattle.std.proofs.lemmas.Bool.{cases_Bool, leb-true, and_parts, eqb-true}
use Rattle.std.proofs.lemmas.List.Sums.{sum_by-append}
use Rattle.ipl_base.specs.declared.limits.TheConstants.{VERSION}
use Rattle.ipl_format.specs.Record.{Record, IsRecord}
use Rattle.ipl_meaning.specs.Values.{counts_for, after_records}
use Rattle.ipl_meaning.specs.Last.{last_that, has_room, size_of, pack_after, applied, is_number}
use Rattle.ipl_meaning.specs.RecordLaws.{TheLastGivesTheValue, MergesCarryTheLast, CommitsApplyTheLast, PacksAreTheList, FitsSector, PacksFit}

abbrev joined : List (List Record) → List Record
joined sectors = flat_map (λ (s : List Record). s) sectors

-- packed, they are the same records in the same order
joined-pack_after : (full records : List Record) → joined (pack_after full records) ≡ full ++ records
joined-pack_after full [] = refl
joined-pack_after full (r ∷ records) = elim (cases_Bool (has_room full r)) [
  | inl fits ↦ rw fits (joined-pack_after (full ++ r ∷ []) records ∙ append_assoc full (r ∷ []) records)
  | inr over ↦ rw over (ap (λ (l : List Record). full ++ l) (joined-pack_after (r ∷ []) records))
]

pub packs_are_the_list : PacksAreTheList
packs_are_the_list [] = refl
packs_are_the_list (r ∷ records) = joined-pack_after (r ∷ []) records

-- each sector is within its 480 bytes
fits-pack_after : (full records : List Record) → FitsSector full → All (IsRecord VERSION) records
    → All FitsSector (pack_after full records)
fits-pack_after full [] small each = All-cons FitsSector full [] small (All-nil FitsSector)
fits-pack_after full (r ∷ records) small each =
    let later : All (IsRecord VERSION) records = λ k d low. each (suc k) d (omega (arith, low)) in
    elim (cases_Bool (has_room full r)) [
      | inl fits ↦ rw fits (fits-pack_after (full ++ r ∷ []) records (omega (arith, leb-true _ _ fits, sum_by-append size_of full (r ∷ []))) later)
      | inr over ↦ rw over (All-cons FitsSector full (pack_after (r ∷ []) records) small
          (fits-pack_after (r ∷ []) records (let short = (each 0 r (omega arith)).value in omega (arith, short)) later))
    ]

pub packs_fit : PacksFit
packs_fit [] each = All-nil FitsSector
packs_fit (r ∷ records) each = fits-pack_after (r ∷ []) records (let short = (each 0 r (omega arith)).value in omega (arith, short)) (λ k d low. each (suc k) d (omega (arith, low)))

-- applying the records in order leaves what the last one that counts says
after_records-last : (committed : ℕ → Bool) (page slot : ℕ) (records : List Record) (before : Option Record) (base : Option (List ℕ))
    → after_records committed page slot records (applied before base) ≡ applied (last_that (counts_for committed page slot) records before) base
after_records-last committed page slot [] before base = refl
after_records-last committed page slot (r ∷ records) before base = elim (cases_Bool (counts_for committed page slot r)) [
  | inl counts ↦ rw counts (after_records-last committed page slot records (Some r) base)
  | inr other ↦ rw other (after_records-last committed page slot records before base)
]

pub the_last_gives_the_value : TheLastGivesTheValue
the_last_gives_the_value committed page slot records base = after_records-last committed page slot records None base

-- where a record passes, what was before does not count
last_there : (test : Record → Bool) (records : List Record) (before other : Option Record) → list_any test records ≡ true → last_that test records before ≡ last_that test records other
last_there test [] before other some = absurd (cc some)
last_there test (r ∷ records) before other some = elim (cases_Bool (test r)) [
  | inl passes ↦ rw passes refl
  | inr fails ↦ let later : list_any test records ≡ true = rw fails at some in rw fails (last_there test records before other later)
]

pub merges_carry_the_last : MergesCarryTheLast
merges_carry_the_last active page slot [] before = refl
merges_carry_the_last active page slot (r ∷ records) before = elim (cases_Bool (active r.tid && not (list_any (counts_for active r.page r.slot) records))) [
  | inl kept ↦ rw kept (merges_carry_the_last active page slot records (if counts_for active page slot r then Some r else before))
  | inr dropped ↦ rw dropped (merges_carry_the_last active page slot records before ∙ elim (cases_Bool (counts_for active page slot r)) [
    | inr other ↦ rw other refl
    | inl counts ↦
        let (here, rest) = and_parts _ _ counts in
        let (there, is_active) = and_parts _ _ rest in
        let same_page : r.page ≡ page = eqb-true _ _ here in
        let same_slot : r.slot ≡ slot = eqb-true _ _ there in
        let later : list_any (counts_for active r.page r.slot) records ≡ true = not_dropped (active r.tid) _ is_active dropped in
        last_there (counts_for active page slot) records before _ (rw (same_page, same_slot) at later)
  ])
]
  where
    not_dropped : (a b : Bool) → IsTrue a → (a && not b) ≡ false → b ≡ true
    not_dropped true true is is_not = refl
    not_dropped true false is is_not = absurd (cc is_not)
    not_dropped false b is is_not = absurd (cc is)

-- no record that counts changes nothing
none_counts : (committed : ℕ → Bool) (page slot : ℕ) (records : List Record) (value : Option (List ℕ)) → list_any (counts_for committed page slot) records ≡ false → after_records committed page slot records value ≡ value
none_counts committed page slot [] value none = refl
none_counts committed page slot (r ∷ records) value none = elim (cases_Bool (counts_for committed page slot r)) [
  | inl counts ↦ absurd (let is_not = rw counts at none in cc is_not)
  | inr other ↦ let later : list_any (counts_for committed page slot) records ≡ false = rw other at none in rw other (none_counts committed page slot records value later)
]

-- the last one, or what the one before it said
last_or_before : (test : Record → Bool) (records : List Record) (before : Option Record) (value : Option (List ℕ)) → applied (last_that test records before) value ≡ applied (last_that test records None) (applied before value)
last_or_before test [] before value = refl
last_or_before test (r ∷ records) before value = elim (cases_Bool (test r)) [
  | inl passes ↦ rw passes (last_or_before test records (Some r) value ∙ sym (last_or_before test records (Some r) (applied before value)))
  | inr fails ↦ rw fails (last_or_before test records before value)
]

-- what the larger set counts
counted_now : (a b t c : Bool) → (a && (b && t)) ≡ true → (a && (b && (if t then true else c))) ≡ true
counted_now true true true c is = refl
counted_now true true false c is = absurd (cc is)
counted_now true false t c is = absurd (cc is)
counted_now false b t c is = absurd (cc is)

counted_before : (a b t c : Bool) → (a && (b && t)) ≡ false → (a && (b && (if t then true else c))) ≡ (a && (b && c))
counted_before true true true c is = absurd (cc is)
counted_before true true false c is = refl
counted_before true false t c is = refl
counted_before false b t c is = refl

pub commits_apply_the_last : CommitsApplyTheLast
commits_apply_the_last committed after tid [] adds behind page slot base = refl
commits_apply_the_last committed after tid (r ∷ records) adds behind page slot base = elim (cases_Bool (counts_for (is_number tid) page slot r)) [
  | inl mine ↦
      let now : counts_for after page slot r ≡ true = rw (adds r.tid) (counted_now (eqb r.page page) (eqb r.slot slot) (is_number tid r.tid) (committed r.tid) mine) in
      let (here, rest) = and_parts _ _ mine in
      let (there, number) = and_parts _ _ rest in
      let same_page : r.page ≡ page = eqb-true _ _ here in
      let same_slot : r.slot ≡ slot = eqb-true _ _ there in
      let none : list_any (counts_for committed page slot) records ≡ false = rw (same_page, same_slot) at (behind.0 (eqb-true _ _ number)) in
      let test = counts_for (is_number tid) page slot in
      rw (now, mine) (
      commits_apply_the_last committed after tid records adds behind.1 page slot r.change
      ∙ ap (applied (last_that test records None)) (none_counts committed page slot records r.change none)
      ∙ sym (last_or_before test records (Some r) (after_records committed page slot (r ∷ records) base)))
  | inr other ↦
      let now : counts_for after page slot r ≡ counts_for committed page slot r = rw (adds r.tid) (counted_before (eqb r.page page) (eqb r.slot slot) (is_number tid r.tid) (committed r.tid) other) in
      rw (now, other) (commits_apply_the_last committed after tid records adds behind.1 page slot (if counts_for committed page slot r then r.change else base))
]
