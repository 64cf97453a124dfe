-- How many sectors records take.
use Rattle.std.proofs.Common.{refl, ◌⊎◌, nat_le, ◌≡◌, ℕ, suc, ◌≤◌, ◌<◌, ◌+◌, ◌*◌, List, [], ◌∷◌, ◌++◌, Bool, not, true, false, IsTrue, eqb, map, sym, ◌∙◌, ◌&&◌, length, inl, inr, arith, length-append}
use Rattle.std.specs.List.{sum_by, All, AllByRecursion, Contains, IsDistinct, list_any}
use Rattle.std.proofs.lemmas.Bool.{cases_Bool, leb-true, leb-false, and_parts, and_from, eqb-true, eq-eqb, ne_eqb}
use Rattle.std.proofs.lemmas.List.Elements.{All-cons}
use Rattle.std.proofs.lemmas.List.Sums.{sum_by-append, sum_by-cons}
use Rattle.ipl_base.specs.declared.limits.TheConstants.{PAYLOAD_LEN, RECORD_HEAD, SHORT_LEN, LONG_WEIGHT, UNIT_NAMES, VERSION}
use Rattle.ipl_format.specs.Record.{Record, IsRecord, value_of}
use Rattle.ipl_model.proofs.SumLemmas.{sum_of_two}
use Rattle.ipl_meaning.specs.Values.{counts_for}
use Rattle.ipl_meaning.specs.Layout.{records_of}
use Rattle.ipl_meaning.specs.Last.{has_room, size_of, size_of_all, weight_of, pack_after, pack, carried, name_in_unit}
use Rattle.ipl_meaning.specs.RecordLaws.{FewAreCarried}
use Rattle.ipl_meaning.proofs.SumLemmas.{sum_within}

abbrev weight_of_all : List Record → ℕ
weight_of_all records = sum_by weight_of records

-- what pays for the open sector: 4, as a long record does; or one for each of its records, none of which is long
abbrev Pays : ℕ → List Record → Type 0
Pays credit full = (4 ≤ credit) ⊎ ((1 ≤ credit) × (length full ≤ credit) × (size_of_all full ≤ (RECORD_HEAD + SHORT_LEN) * length full))

weighed : (r : Record) → ((size_of r ≤ RECORD_HEAD + SHORT_LEN) × (weight_of r ≡ 1)) ⊎ (weight_of r ≡ LONG_WEIGHT)
weighed r = elim (cases_Bool (nat_le (length (value_of r.change)) SHORT_LEN)) [
  | inl short ↦ inl (let low = leb-true _ _ short in omega (arith, low), rw short refl)
  | inr long ↦ inr (rw long refl)
]

pushed : (full : List Record) (r : Record) → size_of_all (full ++ r ∷ []) ≡ size_of_all full + size_of r
pushed full r =
    let one : size_of_all (r ∷ []) ≡ size_of r = omega arith in
    sum_by-append size_of full (r ∷ []) ∙ omega (arith, one)

first_weight : (r : Record) (records : List Record) → weight_of_all (r ∷ records) ≡ weight_of r + weight_of_all records
first_weight r records =
    let one : weight_of_all (r ∷ []) ≡ weight_of r = omega arith in
    sum_by-append weight_of (r ∷ []) records ∙ omega (arith, one)

-- the open sector's credit and the weights that come pay four for each sector
sectors_paid : (full records : List Record) (credit : ℕ) → Pays credit full → 4 * length (pack_after full records) ≤ credit + weight_of_all records + 3
sectors_paid full [] credit (inl four) = omega (arith, four)
sectors_paid full [] credit (inr (one, each, small)) = omega (arith, one)
sectors_paid full (r ∷ records) credit pays = elim (cases_Bool (has_room full r)) [
  | inl fits ↦
      let more = sectors_paid (full ++ r ∷ []) records (credit + weight_of r) (joined pays (weighed r)) in
      rw fits (omega (arith, more, first_weight r records))
  | inr over ↦
      let wide : PAYLOAD_LEN < size_of_all full + size_of r = leb-false _ _ over in
      rw over (closed wide (weighed r) pays (λ c p. sectors_paid (r ∷ []) records c p))
]
  where
    joined : Pays credit full → ((size_of r ≤ RECORD_HEAD + SHORT_LEN) × (weight_of r ≡ 1)) ⊎ (weight_of r ≡ LONG_WEIGHT) → Pays (credit + weight_of r) (full ++ r ∷ [])
    joined (inl four) by_weight = inl (omega (arith, four))
    joined (inr few) (inr long) = inl (omega (arith, long))
    joined (inr (one, each, small)) (inl (short, light)) = inr (
      omega (arith, one),
      omega (arith, each, light, length-append full (r ∷ [])),
      omega (arith, small, short, pushed full r, length-append full (r ∷ [])),
    )

    closed : PAYLOAD_LEN < size_of_all full + size_of r → ((size_of r ≤ RECORD_HEAD + SHORT_LEN) × (weight_of r ≡ 1)) ⊎ (weight_of r ≡ LONG_WEIGHT) → Pays credit full
        → ((c : ℕ) → Pays c (r ∷ []) → 4 * length (pack_after (r ∷ []) records) ≤ c + weight_of_all records + 3)
        → 4 * length (full ∷ pack_after (r ∷ []) records) ≤ credit + weight_of_all (r ∷ records) + 3
    closed wide (inr long) (inl four) next =
        let more = next 4 (inl (omega arith)) in
        omega (arith, more, long, four, first_weight r records)
    closed wide (inr long) (inr few) next =
        let more = next 4 (inl (omega arith)) in
        omega (arith, more, long, first_weight r records)
    closed wide (inl (short, light)) (inl four) next =
        let more = next 1 (inr (omega arith, omega arith, omega (arith, short))) in
        omega (arith, more, light, four, first_weight r records)
    closed wide (inl (short, light)) (inr (one, each, small)) next =
        let more = next 1 (inr (omega arith, omega arith, omega (arith, short))) in
        omega (arith, more, light, each, small, short, wide, first_weight r records)

pub packs_by_weight : (records : List Record) → 4 * length (pack records) ≤ weight_of_all records + 3
packs_by_weight [] = omega arith
packs_by_weight (r ∷ records) =
    let paid = sectors_paid (r ∷ []) records (weight_of r) (start (weighed r)) in
    omega (arith, paid, first_weight r records)
  where
    start : ((size_of r ≤ RECORD_HEAD + SHORT_LEN) × (weight_of r ≡ 1)) ⊎ (weight_of r ≡ LONG_WEIGHT) → Pays (weight_of r) (r ∷ [])
    start (inl (short, light)) = inr (omega (arith, light), omega (arith, light), omega (arith, short))
    start (inr long) = inl (omega (arith, long))

-- what is carried are some of the records
carried_valid : (active : ℕ → Bool) (records : List Record) → All (IsRecord VERSION) records
    → All (IsRecord VERSION) (carried active records)
carried_valid active [] each = each
carried_valid active (r ∷ records) each =
    let later = carried_valid active records (λ k d low. each (suc k) d (omega (arith, low))) in
    elim (cases_Bool (active r.tid && not (list_any (counts_for active r.page r.slot) records))) [
      | inl kept ↦ rw kept (All-cons (IsRecord VERSION) r (carried active records)
          (each 0 r (omega arith)) later)
      | inr dropped ↦ rw dropped later
    ]

-- a record that is carried, and one that isn't on its name, have different names
names_differ : (active : ℕ → Bool) (r x : Record) → IsRecord VERSION r → IsRecord VERSION x
    → IsTrue (active x.tid) → counts_for active r.page r.slot x ≡ false
    → eqb (name_in_unit r) (name_in_unit x) ≡ false
names_differ active r x is other counts none = ne_eqb (name_in_unit r) (name_in_unit x) (λ same.
    let slot : x.slot ≡ r.slot = omega (arith, same, is.slot, other.slot) in
    let page : x.page ≡ r.page = omega (arith, same, is.slot, other.slot) in
    let both = and_from _ _ (eq-eqb x.page r.page page) (and_from _ _ (eq-eqb x.slot r.slot slot) counts) in
    let clash : true ≡ false = sym both ∙ none in cc clash)

abbrev names_of : List Record → List ℕ
names_of records = map name_in_unit records

none_named : (active : ℕ → Bool) (r : Record) (records : List Record) → IsRecord VERSION r
    → All (IsRecord VERSION) records → list_any (counts_for active r.page r.slot) records ≡ false
    → AllByRecursion (λ name. eqb (name_in_unit r) name ≡ false) (names_of (carried active records))
none_named active r [] is each none = tt
none_named active r (x ∷ records) is each none =
    let later : All (IsRecord VERSION) records = λ k d low. each (suc k) d (omega (arith, low)) in
    elim (cases_Bool (counts_for active r.page r.slot x)) [
      | inl counts ↦ absurd (let clash = rw counts at none in cc clash)
      | inr other ↦
          let rest : list_any (counts_for active r.page r.slot) records ≡ false = rw other at none in
          let apart = none_named active r records is later rest in
          elim (cases_Bool (active x.tid && not (list_any (counts_for active x.page x.slot) records))) [
            | inl kept ↦ rw kept (names_differ active r x is (each 0 x (omega arith)) (and_parts _ _ kept).0 other, apart)
            | inr dropped ↦ rw dropped apart
          ]
    ]

-- each name is carried once
names_distinct : (active : ℕ → Bool) (records : List Record) → All (IsRecord VERSION) records
    → IsDistinct eqb (names_of (carried active records))
unfolding IsDistinct
names_distinct active [] each = tt
names_distinct active (r ∷ records) each =
    let later : All (IsRecord VERSION) records = λ k d low. each (suc k) d (omega (arith, low)) in
    let rest = names_distinct active records later in
    elim (cases_Bool (active r.tid && not (list_any (counts_for active r.page r.slot) records))) [
      | inl kept ↦ rw kept (none_named active r records (each 0 r (omega arith)) later (not_true _ (and_parts _ _ kept).1), rest)
      | inr dropped ↦ rw dropped rest
    ]
  where
    not_true : (b : Bool) → IsTrue (not b) → b ≡ false
    not_true true is = absurd (cc is)
    not_true false is = refl

later_is : (r x : Record) (records : List Record) → Contains records x → Contains (r ∷ records) x
later_is r x records (k, within, is) = (suc k, omega (arith, within), is)

-- they weigh no more than their names do
weights_below : (active : ℕ → Bool) (records : List Record) (weights : ℕ → ℕ) → ((r : Record) → Contains records r → IsTrue (active r.tid) → weight_of r ≤ weights (name_in_unit r))
    → weight_of_all (carried active records) ≤ sum_by weights (names_of (carried active records))
weights_below active [] weights each = omega arith
weights_below active (r ∷ records) weights each =
    let rest = weights_below active records weights (λ x listed counts. each x (later_is r x records listed) counts) in
    elim (cases_Bool (active r.tid && not (list_any (counts_for active r.page r.slot) records))) [
      | inl kept ↦
          let here = each r (0, omega arith, refl) (and_parts _ _ kept).0 in
          rw kept (sum_of_two _ _ _ _ _ _ (sum_by-cons weight_of r (carried active records)) (sum_by-cons weights (name_in_unit r) (names_of (carried active records))) here rest)
      | inr dropped ↦ rw dropped rest
    ]

names_low : (records : List Record) → All (IsRecord VERSION) records → (n : ℕ) → list_any (eqb n) (names_of records) ≡ true → n < UNIT_NAMES
names_low [] each n is = absurd (cc is)
names_low (r ∷ records) each n is = elim (cases_Bool (eqb n (name_in_unit r))) [
  | inl here ↦ let own = each 0 r (omega arith) in omega (arith, own.page, own.slot, eqb-true n (name_in_unit r) here)
  | inr other ↦ names_low records (λ k d low. each (suc k) d (omega (arith, low))) n (rw other at is)
]

three : {a b c d : ℕ} → a ≤ b → b ≤ c → c ≤ d → a ≤ d
three ab bc cd = omega (arith, ab, bc, cd)

pub few_are_carried : FewAreCarried
few_are_carried active log weights valid few all =
    let kept = carried active (records_of log) in
    let below = weights_below active (records_of log) weights all in
    let within = sum_within weights (names_of kept) UNIT_NAMES (names_distinct active (records_of log) valid) (names_low kept (carried_valid active (records_of log) valid)) in
    let most = three below within few in
    let sectors = packs_by_weight kept in
    omega (arith, sectors, most)
