-- Committed records behind others on the same name: there are none.
use Rattle.std.proofs.Common.{◌≡◌, ℕ, suc, Bool, true, false, List, [], ◌∷◌, ◌++◌, None, ◌∙◌, arith}
use Rattle.std.specs.List.{All, Contains, list_any}
use Rattle.std.proofs.lemmas.Bool.{both_ways, false_from_ne_true, or_from}
use Rattle.std.proofs.lemmas.List.Elements.{All-weaker}
use Rattle.std.proofs.lemmas.List.Folds.{list_any-append, list_any_none}
use Rattle.ipl_format.specs.Record.{Record}
use Rattle.ipl_meaning.specs.Values.{counts_for}
use Rattle.ipl_meaning.specs.Last.{NoneIsBehind}
use Rattle.ipl_meaning.specs.Steps.{AllWait}
use Rattle.store_laws.specs.Pending.{HasOtherNumber}
use Rattle.store_laws.proofs.ElementLemmas.{contains_here, contains_there, any_there}
use Rattle.store_laws.proofs.LastLemmas.{counted, counts, last_that-some}

-- where no record has the number
pub behind_no_record : (committed : ℕ → Bool) (tid : ℕ) (records : List Record) → All (HasOtherNumber tid) records
    → NoneIsBehind committed tid records
behind_no_record committed tid [] none = tt
behind_no_record committed tid (r ∷ records) none = (
  λ same. absurd (none 0 r (omega arith) same),
  behind_no_record committed tid records (λ k d low. none (suc k) d (omega (arith, low))),
)

-- where none of the records is committed
none_counts : (committed : ℕ → Bool) (page slot : ℕ) (records : List Record) → AllWait committed records
    → list_any (counts_for committed page slot) records ≡ false
none_counts committed page slot records waits =
    list_any_none (counts_for committed page slot) records
    (All-weaker (λ r. committed r.tid ≡ false) (λ r. counts_for committed page slot r ≡ false) fails records waits)
  where
    fails : (r : Record) → committed r.tid ≡ false → counts_for committed page slot r ≡ false
    fails r waits = false_from_ne_true (counts_for committed page slot r) (λ is.
        both_ways (committed r.tid) waits (counted committed page slot r is).2)

pub behind_waiting : (committed : ℕ → Bool) (tid : ℕ) (records : List Record) → AllWait committed records
    → NoneIsBehind committed tid records
behind_waiting committed tid [] waits = tt
behind_waiting committed tid (r ∷ records) waits =
    let later : AllWait committed records = λ k d low. waits (suc k) d (omega (arith, low)) in
    (λ _. none_counts committed r.page r.slot records later, behind_waiting committed tid records later)

-- with such records behind others
pub behind_append : (committed : ℕ → Bool) (tid : ℕ) (xs ys : List Record) → NoneIsBehind committed tid xs
    → AllWait committed ys → NoneIsBehind committed tid (xs ++ ys)
behind_append committed tid [] ys behind waits = behind_waiting committed tid ys waits
behind_append committed tid (r ∷ xs) ys behind waits = (
  λ same.
      list_any-append (counts_for committed r.page r.slot) xs ys
      ∙ or_from _ _ (behind.0 same) (none_counts committed r.page r.slot ys waits),
  behind_append committed tid xs ys behind.1 waits,
)

-- with another set, where no record that it has newly stands with one of this number on the same name
pub behind_other : (committed after : ℕ → Bool) (tid : ℕ) (records : List Record)
    → NoneIsBehind committed tid records
    → ((r q : Record) → Contains records r → Contains records q → r.tid ≡ tid → q.page ≡ r.page → q.slot ≡ r.slot
    → after q.tid ≡ true → committed q.tid ≡ true)
    → NoneIsBehind after tid records
behind_other committed after tid [] behind new = tt
behind_other committed after tid (r ∷ records) behind new = (
  none_after,
  behind_other committed after tid records behind.1
      (λ x q x_is q_is. new x q (contains_there r records x x_is) (contains_there r records q q_is)),
)
  where
    none_after : r.tid ≡ tid → list_any (counts_for after r.page r.slot) records ≡ false
    none_after same = false_from_ne_true (list_any (counts_for after r.page r.slot) records) (λ some.
        let (q, there, passes, _) = last_that-some (counts_for after r.page r.slot) records None some in
        let (page_is, slot_is, is) = counted after r.page r.slot q passes in
        let before = new r q (contains_here r records) (contains_there r records q there) same page_is slot_is is in
        both_ways (list_any (counts_for committed r.page r.slot) records) (behind.0 same)
        (any_there (counts_for committed r.page r.slot) records q there
        (counts committed r.page r.slot q page_is slot_is before)))
