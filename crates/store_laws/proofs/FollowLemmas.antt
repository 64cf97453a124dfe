-- What follows from the records of open sessions.
use Rattle.std.proofs.Common.{◌≡◌, ℕ, ◌<◌, Bool, List, Some, None, is_some, refl, sym, ◌∙◌, ap, subst, inl, inr, arith}
use Rattle.std.specs.List.{All, Contains}
use Rattle.std.proofs.lemmas.Bool.{cases_lt}
use Rattle.std.proofs.lemmas.List.Elements.{All-contains, All-nil, Contains-append_right}
use Rattle.ipl_model.specs.State.{State}
use Rattle.ipl_format.specs.Record.{Record}
use Rattle.ipl_meaning.specs.Values.{counts_for}
use Rattle.ipl_meaning.specs.Layout.{Layout, records_of}
use Rattle.ipl_meaning.specs.Last.{is_number}
use Rattle.store_laws.specs.Pending.{Logs, SessionNumbers, name_at, wrote, records_at, change_in, IsPending, HasPending, HasOtherNumber}
use Rattle.store_laws.specs.PendingLaws.{StateHasOneWriter, AreActive, RecordsAreWrites, ChangedPagesSuffice}
use Rattle.store_laws.proofs.ElementLemmas.{contains_nil, any_there, all_listed}
use Rattle.store_laws.proofs.LastLemmas.{counted, counts, is_one, last_that-some}
use Rattle.store_laws.proofs.OwnerLemmas.{IsOfOne}
use Rattle.store_laws.proofs.MemoryLemmas.{valid_at}

pub records_are_writes : RecordsAreWrites
records_are_writes units it logs numbers state s u page r has mine low page_is valid there =
    let test = counts_for (is_number r.tid) page r.slot in
    let records = records_at it logs u page in
    let passes = counts (is_number r.tid) page r.slot r page_is refl (is_one r.tid r.tid refl) in
    let (q, _, _, is_last) = last_that-some test records None (any_there test records r there passes) in
    let few : page < 15 = omega (arith, page_is, valid.page) in
    ap is_some (sym (has.last s r.tid u page r.slot mine low few valid.slot) ∙ ap change_in is_last)

-- two records on one name that are of open sessions are of one number
pub one_number : (units : ℕ) (it : Layout) (logs : Logs) (numbers : SessionNumbers) (state : State)
    → HasPending units it logs numbers state → StateHasOneWriter state → (s t u page : ℕ) (r q : Record) → u < units
    → numbers s ≡ Some r.tid → numbers t ≡ Some q.tid → Contains (records_at it logs u page) r
    → Contains (records_at it logs u page) q → r.page ≡ page → q.page ≡ page → q.slot ≡ r.slot → r.tid ≡ q.tid
one_number units it logs numbers state has one s t u page r q low mine other r_is q_is r_page q_page slots =
    let r_valid = valid_at units it logs numbers state has u page r low r_is in
    let q_valid = valid_at units it logs numbers state has u page q low q_is in
    let by_s = records_are_writes units it logs numbers state s u page r has mine low r_page r_valid r_is in
    let by_t = records_are_writes units it logs numbers state t u page q has other low q_page q_valid q_is in
    let also = ap (λ (k : ℕ). wrote state t (name_at u page k)) (sym slots) ∙ by_t in
    let both : Some r.tid ≡ Some q.tid = sym mine ∙ ap numbers (one s t (name_at u page r.slot) by_s also) ∙ other in
    cc both

-- no name has records of two open sessions
pub of_one_at : (units : ℕ) (it : Layout) (logs : Logs) (numbers : SessionNumbers) (state : State) (active : ℕ → Bool)
    → HasPending units it logs numbers state → StateHasOneWriter state → AreActive numbers active
    → (u page slot : ℕ) → u < units → IsOfOne active page slot (records_at it logs u page)
of_one_at units it logs numbers state active has one tells u page slot low r q r_is q_is r_counts q_counts =
    let (r_page, r_slot, r_active) = counted active page slot r r_counts in
    let (q_page, q_slot, q_active) = counted active page slot q q_counts in
    let (s, mine) = (tells r.tid).0 r_active in
    let (t, other) = (tells q.tid).0 q_active in
    one_number units it logs numbers state has one s t u page r q low mine other r_is q_is r_page q_page
    (q_slot ∙ sym r_slot)

pub changed_pages_suffice : ChangedPagesSuffice
changed_pages_suffice units it logs numbers state s tid has mine changed outside u page = elim (cases_lt u units) [
  | inr past ↦ subst (All (HasOtherNumber tid)) (sym (outside u page past)) (All-nil (HasOtherNumber tid))
  | inl low ↦ all_listed (HasOtherNumber tid) (logs u page) (λ r there is.
      let pending = All-contains (IsPending numbers page) (logs u page) r (has.in_memory u page) there in
      let valid = pending.valid in
      let few : page < 15 = omega (arith, pending.page_is, valid.page) in
      let number = mine ∙ ap (λ (n : ℕ). Some n) (sym is) in
      let listed = Contains-append_right (records_of (it.units u).log) (logs u page) r there in
      let by_s = records_are_writes units it logs numbers state s u page r has number low pending.page_is
      valid listed in
      let none = changed u page r.slot low by_s few valid.slot in
      contains_nil r (subst (λ (l : List Record). Contains l r) none there))
]
