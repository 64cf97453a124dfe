-- The records in memory stay those of open sessions and of their own pages.
use Rattle.std.proofs.Common.{None, Option, Some, [], ap, eqb, inl, inr, refl, subst, sym, ℕ, ◌++◌, ◌∙◌, ◌∷◌, ◌≡◌, ◌≢◌}
use Rattle.std.specs.List.{All, filter}
use Rattle.std.proofs.lemmas.Bool.{eq-eqb, not-true, both_ways}
use Rattle.std.proofs.lemmas.List.Elements.{All-contains, All-nil, All-push, All-weaker}
use Rattle.std.proofs.lemmas.Option.{none-some, same_Some}
use Rattle.ipl_base.specs.declared.limits.TheConstants.{VERSION}
use Rattle.ipl_format.specs.Record.{IsRecord, Record}
use Rattle.store_laws.specs.Pending.{Logs, SessionNumbers, with_records, is_other, without_number, with_number, IsPending, ArePending, HasOtherNumber, IsWrittenOut}
use Rattle.store_laws.specs.PendingLaws.{RecordsStayPending}
use Rattle.store_laws.proofs.ElementLemmas.{contains_filter, all_listed}
use Rattle.store_laws.proofs.MemoryLemmas.{records_here, records_other, cases_page}
use Rattle.store_laws.proofs.PendingNumberLemmas.{number_other}

-- with the same number open under the same session
still_pending : (numbers : SessionNumbers) (s : ℕ) (o : Option ℕ) (page : ℕ) (r : Record)
    → (is : IsPending numbers page r) → is.session ≢ s → IsPending (with_number numbers s o) page r
still_pending numbers s o page r is other = record {
  page_is = is.page_is;
  valid = is.valid;
  session = is.session;
  open_as = number_other numbers s o is.session other ∙ is.open_as;
}

-- one of another number isn't the session's
other_session : (numbers : SessionNumbers) (s tid page : ℕ) (r : Record) → numbers s ≡ Some tid
    → (is : IsPending numbers page r) → r.tid ≢ tid → is.session ≢ s
other_session numbers s tid page r mine is other same =
    other (sym (same_Some tid r.tid (sym mine ∙ ap numbers (sym same) ∙ is.open_as)))

module _ (numbers : SessionNumbers) (logs : Logs) (are : ArePending numbers logs) where
  begins : (s tid : ℕ) → numbers s ≡ None → ArePending (with_number numbers s (Some tid)) logs
  begins s tid closed u page =
      All-weaker (IsPending numbers page) (IsPending (with_number numbers s (Some tid)) page)
      (λ r is. still_pending numbers s (Some tid) page r is (λ same.
      none-some r.tid (sym closed ∙ ap numbers (sym same) ∙ is.open_as)))
      (logs u page) (are u page)

  writes : (s u : ℕ) (r : Record) → numbers s ≡ Some r.tid → IsRecord VERSION r
      → ArePending numbers (with_records logs u r.page (logs u r.page ++ r ∷ []))
  writes s u r mine valid v q = elim (cases_page u r.page v q) [
    | inr apart ↦
        subst (All (IsPending numbers q)) (sym (records_other logs u r.page (logs u r.page ++ r ∷ []) v q apart))
        (are v q)
    | inl (same, also) ↦
        let pushed = All-push (IsPending numbers r.page) (logs u r.page) r (are u r.page)
        (record { page_is = refl; valid = valid; session = s; open_as = mine }) in
        subst (All (IsPending numbers q)) (sym (records_here logs u r.page (logs u r.page ++ r ∷ []) v q same also))
        (subst (λ (p : ℕ). All (IsPending numbers p) (logs u r.page ++ r ∷ [])) (sym also) pushed)
  ]

  log_sectors : (u page : ℕ) → ArePending numbers (with_records logs u page [])
  log_sectors u page v q = elim (cases_page u page v q) [
    | inr apart ↦ subst (All (IsPending numbers q)) (sym (records_other logs u page [] v q apart)) (are v q)
    | inl (same, also) ↦
        subst (All (IsPending numbers q)) (sym (records_here logs u page [] v q same also))
        (All-nil (IsPending numbers q))
  ]

  commits : (s tid : ℕ) → numbers s ≡ Some tid → IsWrittenOut logs tid → ArePending (with_number numbers s None) logs
  commits s tid mine out u page = all_listed (IsPending (with_number numbers s None) page) (logs u page) (λ r there.
      let is = All-contains (IsPending numbers page) (logs u page) r (are u page) there in
      let other = All-contains (HasOtherNumber tid) (logs u page) r (out u page) there in
      still_pending numbers s None page r is (other_session numbers s tid page r mine is other))

  aborts : (s tid : ℕ) → numbers s ≡ Some tid → ArePending (with_number numbers s None) (without_number logs tid)
  aborts s tid mine u page =
      all_listed (IsPending (with_number numbers s None) page) (filter (is_other tid) (logs u page)) (λ r there.
      let (was, passes) = contains_filter (is_other tid) (logs u page) r there in
      let is = All-contains (IsPending numbers page) (logs u page) r (are u page) was in
      let other : r.tid ≢ tid = λ same.
      both_ways (eqb r.tid tid) (not-true (eqb r.tid tid) passes) (eq-eqb r.tid tid same) in
      still_pending numbers s None page r is (other_session numbers s tid page r mine is other))

pub records_stay_pending : RecordsStayPending
records_stay_pending numbers logs are = record {
  begins = begins numbers logs are;
  writes = writes numbers logs are;
  log_sectors = log_sectors numbers logs are;
  commits = commits numbers logs are;
  aborts = aborts numbers logs are;
}
