-- A page that is made anew, record by record.
use Rattle.std.proofs.Common.{◌≡◌, ◌≢◌, ◌≤◌, ◌<◌, ◌+◌, ◌-◌, ℕ, zero, suc, Bool, true, false, not, List, [], ◌∷◌, ◌++◌, length, replicate, Option, None, refl, sym, ◌∙◌, ap, subst, inl, inr, arith, append_assoc, ◌&&◌, ◌||◌}
use Rattle.std.specs.Prelude.{◌==◌, if◌then◌else◌, slice_index, slice_set}
use Rattle.std.specs.List.{count_by, sum_by, list_any, range_with_len}
use Rattle.std.proofs.lemmas.Bool.{cases_Bool, cases_eq, eq-eqb, ne_eqb}
use Rattle.std.proofs.lemmas.List.{get_or-replicate, get_or-set_same, get_or-set_other, length-set}
use Rattle.std.proofs.lemmas.List.Sums.{sum_by-cons, sum_by-append}
use Rattle.ipl_base.specs.declared.limits.TheConstants.{PAGE_LEN, VERSION}
use Rattle.ipl_base.specs.Sizes.{size_in_page, size_of_values}
use Rattle.ipl_format.specs.Record.{Record}
use Rattle.ipl_format.specs.Page.{Slots, IsPage, value_in}
use Rattle.ipl_meaning.specs.Values.{Values, counts_for, after_records}
use Rattle.ipl_meaning.proofs.SizeLemmas.{texts_have_sizes}
use Rattle.ipl_meaning.proofs.RoomLemmas.{same_sizes}
use Rattle.page_ops.specs.Frames.{with_record}
use Rattle.page_ops.specs.Rebuilt.{with_records, AreComing, IsMadeSoFar, IsMaking}

-- ---- sizes

-- values of which each takes no more than another's take no more than these
pub smaller_sizes : (v w : Values)
    → ((slot : ℕ) → slot < 64 → size_in_page (v slot) ≤ size_in_page (w slot))
    → size_of_values v ≤ size_of_values w
unfolding size_of_values
smaller_sizes v w smaller = go 0 64 (λ i low. smaller i low)
  where
    go : (a k : ℕ) → ((i : ℕ) → i < a + k → size_in_page (v i) ≤ size_in_page (w i))
        → sum_by (λ (slot : ℕ). size_in_page (v slot)) (range_with_len a k)
        ≤ sum_by (λ (slot : ℕ). size_in_page (w slot)) (range_with_len a k)
    go a zero each = omega arith
    go a (suc k) each =
        let first : size_in_page (v a) ≤ size_in_page (w a) = each a (omega arith) in
        let rest = go (a + 1) k (λ i low. each i (omega (arith, low))) in
        let one : sum_by (λ (slot : ℕ). size_in_page (v slot)) (range_with_len a (suc k))
        ≡ size_in_page (v a)
        + sum_by (λ (slot : ℕ). size_in_page (v slot)) (range_with_len (a + 1) k) =
        sum_by-cons (λ (slot : ℕ). size_in_page (v slot)) a (range_with_len (a + 1) k) in
        let other : sum_by (λ (slot : ℕ). size_in_page (w slot)) (range_with_len a (suc k))
        ≡ size_in_page (w a)
        + sum_by (λ (slot : ℕ). size_in_page (w slot)) (range_with_len (a + 1) k) =
        sum_by-cons (λ (slot : ℕ). size_in_page (w slot)) a (range_with_len (a + 1) k) in
        omega (arith, first, rest, one, other)

-- ---- how many count

pub count_first : (test : Record → Bool) (r : Record) (records : List Record)
    → count_by test (r ∷ records) ≡ (if test r then 1 else 0) + count_by test records
count_first test r records = sum_by-cons (λ x. if test x then 1 else 0) r records

pub count_both : (test : Record → Bool) (a b : List Record)
    → count_by test (a ++ b) ≡ count_by test a + count_by test b
count_both test a b = sum_by-append (λ x. if test x then 1 else 0) a b

-- one that counts
pub counts_first : (test : Record → Bool) (r : Record) (records : List Record) → test r ≡ true
    → count_by test (r ∷ records) ≡ 1 + count_by test records
counts_first test r records is =
    let one : ◌≡◌ {A = ℕ} (if test r then 1 else 0) 1 =
    ap (λ (b : Bool). if b then 1 else 0) is in
    omega (arith, count_first test r records, one)

-- one that doesn't
pub skips_first : (test : Record → Bool) (r : Record) (records : List Record) → test r ≡ false
    → count_by test (r ∷ records) ≡ count_by test records
skips_first test r records other =
    let none : ◌≡◌ {A = ℕ} (if test r then 1 else 0) 0 =
    ap (λ (b : Bool). if b then 1 else 0) other in
    omega (arith, count_first test r records, none)

-- whether one counts
pub any_count : (test : Record → Bool) (records : List Record)
    → (count_by test records == 0) ≡ not (list_any test records)
any_count test [] = refl
any_count test (r ∷ records) = elim (cases_Bool (test r)) [
  | inl is ↦
      ne_eqb (count_by test (r ∷ records)) 0
      (λ none. omega (arith, none, counts_first test r records is))
      ∙ sym (ap (λ (b : Bool). not (b || list_any test records)) is)
  | inr other ↦
      ap (λ (n : ℕ). n == 0) (skips_first test r records other) ∙ any_count test records
      ∙ sym (ap (λ (b : Bool). not (b || list_any test records)) other)
]

none_to_come : (b : Bool) → true ≡ not b → b ≡ false
none_to_come false is = refl
none_to_come true is = absurd (cc is)

-- ---- records of a page

and_false : (a : Bool) → (a && false) ≡ false
and_false false = refl
and_false true = refl

module _ (committed : ℕ → Bool) (page : ℕ) (r : Record) where
  -- a record of a committed number on its own slot
  pub on_own : r.page ≡ page → committed r.tid ≡ true → counts_for committed page r.slot r ≡ true
  on_own here done = rw (eq-eqb r.page page here, eq-eqb r.slot r.slot refl, done) refl

  -- on another
  pub on_another : (slot : ℕ) → r.slot ≢ slot → counts_for committed page slot r ≡ false
  on_another slot other = rw (ne_eqb r.slot slot other) (and_false (r.page == page))

  -- one of another page
  pub of_another_page : (slot : ℕ) → r.page ≢ page → counts_for committed page slot r ≡ false
  of_another_page slot other = rw (ne_eqb r.page page other) refl

  -- or of another number
  pub of_no_number : (slot : ℕ) → committed r.tid ≡ false → counts_for committed page slot r ≡ false
  of_no_number slot none =
      rw none (ap (λ (b : Bool). (r.page == page) && b) (and_false (r.slot == slot))
      ∙ and_false (r.page == page))

-- no record that counts, no change
pub none_counts : (committed : ℕ → Bool) (page slot : ℕ) (records : List Record)
    (value : Option (List ℕ)) → list_any (counts_for committed page slot) records ≡ false
    → after_records committed page slot records value ≡ value
none_counts committed page slot [] value none = refl
none_counts committed page slot (r ∷ records) value none =
    elim (cases_Bool (counts_for committed page slot r)) [
      | inl counts ↦ absurd (let is_not = rw counts at none in cc is_not)
      | inr other ↦
          let later : list_any (counts_for committed page slot) records ≡ false =
          rw other at none in
          rw other (none_counts committed page slot records value later)
    ]

-- nor where none is to come on any slot
pub none_comes : (committed : ℕ → Bool) (page : ℕ) (records : List Record) (counts : List ℕ)
    (values : Values) → AreComing committed page records counts → counts ≡ replicate 64 0
    → (slot : ℕ) → slot < 64 → values slot ≡ with_records committed page records values slot
none_comes committed page records counts values coming none slot low =
    let test = counts_for committed page slot in
    let here : slice_index counts slot ≡ 0 =
    ap (λ (l : List ℕ). slice_index l slot) none ∙ get_or-replicate 64 slot 0 0 low in
    let counted : true ≡ not (list_any test records) =
    sym (ap (λ (n : ℕ). n == 0) here)
    ∙ ap (λ (n : ℕ). n == 0) (coming slot low) ∙ any_count test records in
    sym (none_counts committed page slot records (values slot) (none_to_come _ counted))

-- the last one that counts gives the value
pub last_gives : (committed : ℕ → Bool) (page slot : ℕ) (before after : List Record) (r : Record)
    (value : Option (List ℕ)) → counts_for committed page slot r ≡ true
    → list_any (counts_for committed page slot) after ≡ false
    → after_records committed page slot (before ++ r ∷ after) value ≡ r.change
last_gives committed page slot [] after r value is none =
    ap (λ (b : Bool). after_records committed page slot after (if b then r.change else value)) is
    ∙ none_counts committed page slot after r.change none
last_gives committed page slot (b ∷ before) after r value is none =
    last_gives committed page slot before after r _ is none

-- ---- step by step

module _ (committed : ℕ → Bool) (page : ℕ) where
  -- at first
  pub making_first : (all : List Record) (base : Values) (counts : List ℕ) (old now : Slots)
      → AreComing committed page all counts
      → ((slot : ℕ) → slot < 64 → base slot ≡ value_in old slot)
      → ((slot : ℕ) → slot < 64 → value_in now slot
      ≡ (if slice_index counts slot == 0 then value_in old slot else None))
      → IsMaking committed page all all base counts now
  making_first all base counts old now coming held cleared = record {
    done = [];
    parts = refl;
    coming = coming;
    made = λ slot low.
        let test = counts_for committed page slot in
        let counted : (slice_index counts slot == 0) ≡ not (list_any test all) =
        ap (λ (n : ℕ). n == 0) (coming slot low) ∙ any_count test all in
        cleared slot low
        ∙ ap (λ (b : Bool). if b then value_in old slot else None) counted
        ∙ (elim (cases_Bool (list_any test all)) [
          | inl some ↦ rw some refl
          | inr none ↦ rw none (sym (held slot low)
              ∙ sym (none_counts committed page slot all (base slot) none))
        ]);
  }

  -- when all is done
  pub making_done : {all : List Record} {base : Values} {counts : List ℕ} {now : Slots}
      → IsMaking committed page all [] base counts now → (slot : ℕ) → slot < 64
      → value_in now slot ≡ with_records committed page all base slot
  making_done so slot low = so.made slot low

  -- a page has room for them then
  pub making_fits : {all : List Record} {base : Values} {counts : List ℕ} {now : Slots}
      → IsMaking committed page all [] base counts now → IsPage VERSION now
      → size_of_values (with_records committed page all base) ≤ PAGE_LEN
  making_fits {all} {base} {counts} {now} so is =
      let fits = is.fits in
      omega (
        arith,
        fits,
        texts_have_sizes now is.slots,
        same_sizes (value_in now) (with_records committed page all base) (making_done so),
      )

  -- at each moment the values take no more than in the end
  pub so_far_smaller : (all rest : List Record) (base : Values) (now : Slots)
      → IsMadeSoFar committed page all rest base now
      → size_of_values (value_in now) ≤ size_of_values (with_records committed page all base)
  so_far_smaller all rest base now made =
      smaller_sizes (value_in now) (with_records committed page all base)
      (λ slot low. one slot (list_any (counts_for committed page slot) rest) (made slot low))
    where
      one : (slot : ℕ) (b : Bool) → value_in now slot
          ≡ (if b then None else after_records committed page slot all (base slot))
          → size_in_page (value_in now slot)
          ≤ size_in_page (with_records committed page all base slot)
      one slot true is = let none = ap size_in_page is in omega (arith, none)
      one slot false is = let same = ap size_in_page is in omega (arith, same)

  module _ {all rest : List Record} {base : Values} {counts : List ℕ} {now : Slots} {r : Record}
      (so : IsMaking committed page all (r ∷ rest) base counts now) where
    further : all ≡ (so.done ++ r ∷ []) ++ rest
    further = so.parts ∙ sym (append_assoc so.done (r ∷ []) rest)

    -- a slot on which the record doesn't count is as it was
    still : (slot : ℕ) → slot < 64 → counts_for committed page slot r ≡ false
        → value_in now slot ≡ (if list_any (counts_for committed page slot) rest then None
        else after_records committed page slot all (base slot))
    still slot low other = rw other at (so.made slot low)

    -- a record that doesn't count
    pub making_past : ((slot : ℕ) → slot < 64 → counts_for committed page slot r ≡ false)
        → IsMaking committed page all rest base counts now
    making_past other = record {
      done = so.done ++ r ∷ [];
      parts = further;
      coming = λ slot low. so.coming slot low
          ∙ skips_first (counts_for committed page slot) r rest (other slot low);
      made = λ slot low. still slot low (other slot low);
    }

    module _ (low : r.slot < 64) (own : counts_for committed page r.slot r ≡ true) where
      one_more : slice_index counts r.slot
          ≡ 1 + count_by (counts_for committed page r.slot) rest
      one_more = so.coming r.slot low
          ∙ counts_first (counts_for committed page r.slot) r rest own

      -- the count of its slot says so
      pub some_to_come : 0 < slice_index counts r.slot
      some_to_come = omega (arith, one_more)

      module _ {later : List ℕ} (long : length later ≡ 64)
          (taken : later ≡ slice_set counts r.slot (slice_index counts r.slot - 1)) where
        count_here : slice_index later r.slot ≡ count_by (counts_for committed page r.slot) rest
        count_here =
            ap (λ (l : List ℕ). slice_index l r.slot) taken
            ∙ get_or-set_same counts r.slot (slice_index counts r.slot - 1) 0
            (omega (
              arith,
              low,
              long,
              ap length taken,
              length-set counts r.slot (slice_index counts r.slot - 1),
            ))
            ∙ omega (arith, one_more)

        count_others : (slot : ℕ) → slot < 64 → r.slot ≢ slot
            → slice_index later slot ≡ count_by (counts_for committed page slot) rest
        count_others slot within other =
            ap (λ (l : List ℕ). slice_index l slot) taken
            ∙ get_or-set_other counts r.slot slot (slice_index counts r.slot - 1) 0
            (λ same. other (sym same))
            ∙ so.coming slot within
            ∙ skips_first (counts_for committed page slot) r rest
            (on_another committed page r slot other)

        fewer_coming : AreComing committed page rest later
        fewer_coming slot within = elim (cases_eq r.slot slot) [
          | inl same ↦
              subst (λ (k : ℕ). slice_index later k ≡ count_by (counts_for committed page k) rest)
              same count_here
          | inr other ↦ count_others slot within other
        ]

        -- whether others are to come on its slot
        left_here : (slice_index later r.slot == 0)
            ≡ not (list_any (counts_for committed page r.slot) rest)
        left_here = ap (λ (n : ℕ). n == 0) count_here
            ∙ any_count (counts_for committed page r.slot) rest

        -- a record that counts, but isn't the last one on its slot
        pub making_earlier : (slice_index later r.slot == 0) ≡ false
            → IsMaking committed page all rest base later now
        making_earlier more = record {
          done = so.done ++ r ∷ [];
          parts = further;
          coming = fewer_coming;
          made = λ slot within. elim (cases_eq r.slot slot) [
            | inl same ↦ subst Kept same here
            | inr other ↦ still slot within (on_another committed page r slot other)
          ];
        }
          where
            Kept : ℕ → Type 0
            Kept slot = value_in now slot ≡ (if list_any (counts_for committed page slot) rest
                then None else after_records committed page slot all (base slot))

            is_left : (b : Bool) → false ≡ not b → b ≡ true
            is_left true is = refl
            is_left false is = absurd (cc is)

            here : Kept r.slot
            here =
                let some : list_any (counts_for committed page r.slot) rest ≡ true =
                is_left _ (sym more ∙ left_here) in
                let empty : value_in now r.slot ≡ None = rw own at (so.made r.slot low) in
                empty ∙ rw some refl

        module _ (last : (slice_index later r.slot == 0) ≡ true) {next : Slots}
            (count : length now ≡ 64) (put : next ≡ with_record now r) where
          -- the last one gives its slot the value
          pub made_last : IsMadeSoFar committed page all rest base next
          made_last slot within = elim (cases_eq r.slot slot) [
            | inl same ↦ subst Given same here
            | inr other ↦
                ap (λ (p : Slots). value_in p slot) put
                ∙ get_or-set_other now r.slot slot r.change None (λ same. other (sym same))
                ∙ still slot within (on_another committed page r slot other)
          ]
            where
              Given : ℕ → Type 0
              Given slot = value_in next slot ≡ (if list_any (counts_for committed page slot) rest
                  then None else after_records committed page slot all (base slot))

              here : Given r.slot
              here =
                  let none : list_any (counts_for committed page r.slot) rest ≡ false =
                  none_to_come _ (sym last ∙ left_here) in
                  let value : after_records committed page r.slot all (base r.slot) ≡ r.change =
                  ap (λ (l : List Record). after_records committed page r.slot l (base r.slot)) so.parts
                  ∙ last_gives committed page r.slot so.done rest r (base r.slot) own none in
                  ap (λ (p : Slots). value_in p r.slot) put
                  ∙ get_or-set_same now r.slot r.change None (omega (arith, low, count))
                  ∙ rw none (sym value)

          pub making_last : IsMaking committed page all rest base later next
          making_last = record {
            done = so.done ++ r ∷ [];
            parts = further;
            coming = fewer_coming;
            made = made_last;
          }

          -- where the text has no room for it, a page has none for all
          pub making_full : PAGE_LEN < size_of_values (value_in next)
              → PAGE_LEN < size_of_values (with_records committed page all base)
          making_full over =
              let most = so_far_smaller all rest base next made_last in omega (arith, over, most)
