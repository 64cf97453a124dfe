-- The committed numbers of records join a list.
use Rattle.std.proofs.Common.{◌≡◌, ◌↔◌, inl, inr, ℕ, ◌<◌, ◌≤◌, ◌+◌, Bool, true, false, IsTrue, List, [], ◌∷◌, ◌++◌, length, get_or, nat_lt, eqb, refl, sym, ◌∙◌, ap, subst, arith}
use Rattle.std.specs.List.{Contains}
use Rattle.std.proofs.lemmas.Bool.{cases_Bool, cases_lt, eqb-true}
use Rattle.ipl_format.specs.Record.{Record}
use Rattle.std.specs.Prelude.{◌||◌, ◌==◌}
use Rattle.std.proofs.lemmas.List.Elements.{Contains-get_or}
use Rattle.number_set.specs.Flags.{Flags, has_flag, flagged}
use Rattle.number_set.specs.Numbers.{with_number, among, AreRising}
use Rattle.number_set.proofs.FlagLemmas.{flagged_more, flagged_has, flagged_rise}
use Rattle.number_set.proofs.AmongLemmas.{among_is_contains}
use Rattle.number_set.proofs.NumberLemmas.{contains_cons, contains_here, contains_there, with_numbers_grow, there_already}
use Rattle.restart.specs.Joins.{committed_in, joined, kept_of, IsExact}

-- ---- which numbers there are

-- one of the records has the number
abbrev pub IsNumberOf : List Record → ℕ → Type 0
IsNumberOf records tid = (r : Record) × Contains records r × (r.tid ≡ tid)

number_later : (r : Record) (records : List Record) (tid : ℕ) → IsNumberOf records tid
    → IsNumberOf (r ∷ records) tid
number_later r records tid (q, has, is) = (q, contains_there r records q has, is)

module _ (numbers : List ℕ) (tid : ℕ) where
  logged_from : (records : List Record) → Contains (committed_in numbers records) tid
      → Contains numbers tid × IsNumberOf records tid
  logged_from [] none = absurd (let within = none.1 in omega (arith, within))
  logged_from (r ∷ records) has = elim (cases_Bool (among numbers r.tid)) [
    | inl is ↦ elim (contains_cons r.tid (committed_in numbers records) tid (rw is at has)) [
      | inl same ↦ (
        subst (Contains numbers) same ((among_is_contains numbers r.tid).0 is),
        (r, contains_here r records, same),
      )
      | inr later ↦
          let (there, logged) = logged_from records later in
          (there, number_later r records tid logged)
    ]
    | inr other ↦
        let (there, logged) = logged_from records (rw other at has) in
        (there, number_later r records tid logged)
  ]

  logged_to : (records : List Record) → Contains numbers tid → IsNumberOf records tid
      → Contains (committed_in numbers records) tid
  logged_to [] there (q, has, is) = absurd (let within = has.1 in omega (arith, within))
  logged_to (r ∷ records) there (q, has, is) = elim (contains_cons r records q has) [
    | inl same ↦
        let number : r.tid ≡ tid = ap (λ (x : Record). x.tid) same ∙ is in
        let counts : among numbers r.tid ≡ true =
        (among_is_contains numbers r.tid).1 (subst (Contains numbers) (sym number) there) in
        rw counts (subst (Contains (r.tid ∷ committed_in numbers records)) number
        (contains_here r.tid (committed_in numbers records)))
    | inr later ↦
        let tail = logged_to records there (q, later, is) in
        elim (cases_Bool (among numbers r.tid)) [
          | inl counts ↦ rw counts (contains_there r.tid (committed_in numbers records) tid tail)
          | inr other ↦ rw other tail
        ]
  ]

-- the committed numbers of records are the committed ones that a record has
pub committed_is_logged : (numbers : List ℕ) (records : List Record) (tid : ℕ)
    → Contains (committed_in numbers records) tid
    ↔ (Contains numbers tid × IsNumberOf records tid)
committed_is_logged numbers records tid = (
  λ has. logged_from numbers tid records has,
  λ both. logged_to numbers tid records both.0 both.1,
)

-- ---- one record

pub waiting_joins : (numbers : List ℕ) (r : Record) (kept : List ℕ) → among numbers r.tid ≡ false
    → joined numbers (r ∷ []) kept ≡ kept
waiting_joins numbers r kept other = rw other refl

pub committed_joins : (numbers : List ℕ) (r : Record) (kept : List ℕ)
    → among numbers r.tid ≡ true → joined numbers (r ∷ []) kept ≡ with_number r.tid kept
committed_joins numbers r kept is = rw is refl

-- one that is there already changes nothing
pub known_joins : (numbers : List ℕ) (r : Record) (kept : List ℕ) → AreRising kept
    → Contains kept r.tid → joined numbers (r ∷ []) kept ≡ kept
known_joins numbers r kept rise has = elim (cases_Bool (among numbers r.tid)) [
  | inl is ↦ committed_joins numbers r kept is ∙ there_already r.tid kept rise has
  | inr other ↦ waiting_joins numbers r kept other
]

-- a new one is one more
length_with_new : (n : ℕ) (l : List ℕ) → ¬ Contains l n
    → length (with_number n l) ≡ length l + 1
length_with_new n [] none = omega arith
length_with_new n (k ∷ l) none = elim (cases_Bool (nat_lt n k)) [
  | inl less ↦ rw less (omega arith)
  | inr more ↦ elim (cases_Bool (eqb n k)) [
    | inl same ↦ absurd (none
        (subst (Contains (k ∷ l)) (sym (eqb-true n k same)) (contains_here k l)))
    | inr other ↦
        let tail = length_with_new n l (λ has. none (contains_there k l n has)) in
        rw (more, other) (omega (arith, tail))
  ]
]

pub full_joins : (numbers : List ℕ) (r : Record) (kept : List ℕ) → among numbers r.tid ≡ true
    → ¬ Contains kept r.tid → length (joined numbers (r ∷ []) kept) ≡ length kept + 1
full_joins numbers r kept is none =
    ap (λ (l : List ℕ). length l) (committed_joins numbers r kept is)
    ∙ length_with_new r.tid kept none

-- ---- one after the other

joined_both : (numbers : List ℕ) (xs ys : List Record) (kept : List ℕ)
    → joined numbers (xs ++ ys) kept ≡ joined numbers ys (joined numbers xs kept)
joined_both numbers [] ys kept = refl
joined_both numbers (r ∷ xs) ys kept = elim (cases_Bool (among numbers r.tid)) [
  | inl is ↦ rw is (joined_both numbers xs ys (with_number r.tid kept))
  | inr other ↦ rw other (joined_both numbers xs ys kept)
]

-- the records that are left make of the flags now what all of them make of the first ones
pub record AreLeft (numbers : List ℕ) (left all : List Record) (now first : Flags) : Type 0 where
  pub list : joined numbers left (flagged now numbers) ≡ joined numbers all (flagged first numbers)
  pub most : now.most ≡ first.most
  pub room : now.room ≡ first.room
  pub exact : IsExact (kept_of numbers first) → IsExact (kept_of numbers now)

pub left_first : (numbers : List ℕ) (left all : List Record) (first : Flags) → left ≡ all
    → AreLeft numbers left all first first
left_first numbers left all first same = record {
  list = ap (λ (l : List Record). joined numbers l (flagged first numbers)) same;
  most = refl;
  room = refl;
  exact = λ so. so;
}

module _ (numbers : List ℕ) (left part after all : List Record) (now first : Flags)
    (step : left ≡ part ++ after) (so : AreLeft numbers left all now first) where
  parted : joined numbers after (joined numbers part (flagged now numbers))
      ≡ joined numbers all (flagged first numbers)
  parted =
      sym (joined_both numbers part after (flagged now numbers))
      ∙ ap (λ (l : List Record). joined numbers l (flagged now numbers)) (sym step) ∙ so.list

  pub left_part : (next : Flags) → flagged next numbers ≡ joined numbers part (flagged now numbers)
      → next.most ≡ now.most → next.room ≡ now.room
      → (IsExact (kept_of numbers now) → IsExact (kept_of numbers next))
      → AreLeft numbers after all next first
  left_part next is most room exact = record {
    list = ap (joined numbers after) is ∙ parted;
    most = most ∙ so.most;
    room = room ∙ so.room;
    exact = λ first_so. exact (so.exact first_so);
  }

  -- a part that doesn't fit
  pub left_full : (limit : ℕ) → (IsExact (kept_of numbers now) → limit < length (joined numbers part (flagged now numbers)))
      → IsExact (kept_of numbers first) → limit < length (joined numbers all (flagged first numbers))
  left_full limit full exact =
      let more = with_numbers_grow (committed_in numbers after) (joined numbers part (flagged now numbers)) in
      let same = ap (λ (l : List ℕ). length l) parted in omega (arith, full (so.exact exact), more, same)

pub left_none : (numbers : List ℕ) (left all : List Record) (now first : Flags) → left ≡ []
    → AreLeft numbers left all now first → flagged now numbers ≡ joined numbers all (flagged first numbers)
left_none numbers left all now first none so =
    ap (λ (l : List Record). joined numbers l (flagged now numbers)) (sym none) ∙ so.list

-- ---- a flag for one

module _ (numbers : List ℕ) (r : Record) (set : Flags) (at : ℕ) (rise : AreRising numbers)
    (low : at < length numbers) (is : get_or numbers at 0 ≡ r.tid) where
  counts : among numbers r.tid ≡ true
  counts = (among_is_contains numbers r.tid).1 (subst (Contains numbers) is (Contains-get_or numbers at 0 low))

  has_it : IsTrue (has_flag set.bytes at) ↔ Contains (flagged set numbers) r.tid
  has_it = flagged_has (has_flag set.bytes) 0 at at r.tid numbers rise low is (omega arith)

  pub flagged_joins : has_flag set.bytes at ≡ true
      → flagged set numbers ≡ joined numbers (r ∷ []) (flagged set numbers)
  flagged_joins there = sym (known_joins numbers r (flagged set numbers)
      (flagged_rise (has_flag set.bytes) 0 numbers rise) (has_it.0 there))

  not_there : has_flag set.bytes at ≡ false → ¬ Contains (flagged set numbers) r.tid
  not_there none has = let no_way : true ≡ false = sym (has_it.1 has) ∙ none in cc no_way

  pub one_more_joins : has_flag set.bytes at ≡ false
      → length (joined numbers (r ∷ []) (flagged set numbers)) ≡ length (flagged set numbers) + 1
  one_more_joins none = full_joins numbers r (flagged set numbers) counts (not_there none)

  pub raise_joins : (next : Flags) → ((j : ℕ) → has_flag next.bytes j ≡ ((j == at) || has_flag set.bytes j))
      → flagged next numbers ≡ joined numbers (r ∷ []) (flagged set numbers)
  raise_joins next more =
      flagged_more (has_flag set.bytes) (has_flag next.bytes) 0 at at r.tid numbers rise low is (omega arith) more
      ∙ sym (committed_joins numbers r (flagged set numbers) counts)

  pub raise_exact : has_flag set.bytes at ≡ false → (next : Flags)
      → ((j : ℕ) → has_flag next.bytes j ≡ ((j == at) || has_flag set.bytes j))
      → next.count ≡ set.count + 1 → IsExact (kept_of numbers set) → IsExact (kept_of numbers next)
  raise_exact none next more count exact = omega (
    arith,
    count,
    exact,
    ap (λ (l : List ℕ). length l) (raise_joins next more),
    one_more_joins none,
  )

-- a test that says whether they fit, where they don't
pub too_many : (limit : ℕ) (fits : Bool) (n : ℕ) → (IsTrue fits ↔ (n ≤ limit)) → fits ≡ false → limit < n
too_many limit fits n tells is = elim (cases_lt limit n) [
  | inl more ↦ more
  | inr few ↦ let no_way : true ≡ false = sym (tells.1 few) ∙ is in cc no_way
]
