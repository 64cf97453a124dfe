-- Whose the last record on a name is.
use Rattle.std.proofs.Common.{◌≡◌, ◌≢◌, ◌⊎◌, ℕ, Bool, true, false, List, Some, None, sym, ◌∙◌, ap, inl, inr}
use Rattle.std.specs.List.{Contains, list_any}
use Rattle.std.proofs.lemmas.Bool.{both_ways, cases_Bool, eqb-true, false_from_ne_true}
use Rattle.ipl_format.specs.Record.{Record}
use Rattle.ipl_meaning.specs.Values.{counts_for}
use Rattle.ipl_meaning.specs.Last.{is_number, last_that}
use Rattle.store_laws.proofs.ElementLemmas.{any_there, all_listed}
use Rattle.store_laws.proofs.LastLemmas.{counted, counts, is_one, last_that-agree, last_that-some, last_listed}

-- all records of active numbers on the name are of one number
abbrev pub IsOfOne : (ℕ → Bool) → ℕ → ℕ → List Record → Type 0
IsOfOne active page slot records = (r q : Record) → Contains records r → Contains records q
    → counts_for active page slot r ≡ true → counts_for active page slot q ≡ true → r.tid ≡ q.tid

-- so where an active number has a record on the name, the tests agree
pub tests_agree : (active : ℕ → Bool) (tid page slot : ℕ) (records : List Record) → active tid ≡ true
    → IsOfOne active page slot records → list_any (counts_for (is_number tid) page slot) records ≡ true
    → (r : Record) → Contains records r → counts_for (is_number tid) page slot r ≡ counts_for active page slot r
tests_agree active tid page slot records running one some r there =
    let (q, listed, passes, _) = last_that-some (counts_for (is_number tid) page slot) records None some in
    let (q_page, q_slot, q_mine) = counted (is_number tid) page slot q passes in
    let q_tid : q.tid ≡ tid = eqb-true _ _ q_mine in
    let q_active = counts active page slot q q_page q_slot (ap active q_tid ∙ running) in
    elim (cases_Bool (counts_for (is_number tid) page slot r)) [
      | inl mine ↦
          let (page_is, slot_is, number) = counted (is_number tid) page slot r mine in
          mine ∙ sym (counts active page slot r page_is slot_is (ap active (eqb-true r.tid tid number) ∙ running))
      | inr other ↦ other ∙ sym (false_from_ne_true (counts_for active page slot r) (λ is.
          let (page_is, slot_is, _) = counted active page slot r is in
          let same : r.tid ≡ tid = one r q there listed is q_active ∙ q_tid in
          both_ways (counts_for (is_number tid) page slot r) other
          (counts (is_number tid) page slot r page_is slot_is (is_one tid r.tid same))))
    ]

-- the last record on the name is of this number
pub record IsIts (active : ℕ → Bool) (tid page slot : ℕ) (records : List Record) : Type 0 where
  pub r : Record
  pub number : r.tid ≡ tid
  pub there : Contains records r
  pub counts_it : counts_for active page slot r ≡ true
  pub last : last_that (counts_for active page slot) records None ≡ Some r
  pub last_own : last_that (counts_for (is_number tid) page slot) records None ≡ Some r

-- or it has none there
pub record IsNotIts (active : ℕ → Bool) (tid page slot : ℕ) (records : List Record) : Type 0 where
  pub none : list_any (counts_for (is_number tid) page slot) records ≡ false
  pub other : (r : Record) → last_that (counts_for active page slot) records None ≡ Some r → r.tid ≢ tid

pub whose : (active : ℕ → Bool) (tid page slot : ℕ) (records : List Record) → active tid ≡ true
    → IsOfOne active page slot records → IsIts active tid page slot records ⊎ IsNotIts active tid page slot records
whose active tid page slot records running one = elim (cases_Bool (list_any mine records)) [
  | inl some ↦
      let (r, there, passes, last_own) = last_that-some mine records None some in
      let (p, q, number) = counted (is_number tid) page slot r passes in
      let same : r.tid ≡ tid = eqb-true r.tid tid number in
      let agree = all_listed (λ x. mine x ≡ counts_for active page slot x) records
      (tests_agree active tid page slot records running one some) in
      inl (record {
        r = r;
        number = same;
        there = there;
        counts_it = counts active page slot r p q (ap active same ∙ running);
        last = sym (last_that-agree mine (counts_for active page slot) records None agree) ∙ last_own;
        last_own = last_own;
      })
  | inr none ↦ inr (record {
    none = none;
    other = λ r is same.
        let (there, passes) = last_listed (counts_for active page slot) records r is in
        let (p, q, _) = counted active page slot r passes in
        let its = counts (is_number tid) page slot r p q (is_one tid r.tid same) in
        both_ways (list_any mine records) none (any_there mine records r there its);
  })
]
  where
    mine : Record → Bool
    mine = counts_for (is_number tid) page slot
