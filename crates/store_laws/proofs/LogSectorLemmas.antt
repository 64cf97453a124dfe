-- The records of open sessions, after a log sector.
use Rattle.std.proofs.Common.{Bool, List, None, Some, [], ap, append-nil, false, inl, inr, subst, sym, ℕ, ◌++◌, ◌<◌, ◌∙◌, ◌∷◌, ◌≡◌, ◌≢◌}
use Rattle.std.specs.List.{All, Contains, list_any}
use Rattle.std.proofs.lemmas.Bool.{cases_eq, false_from_ne_true}
use Rattle.std.proofs.lemmas.List.Concat.{flat_map-append}
use Rattle.std.proofs.lemmas.List.Elements.{All-append, All-contains, All-weaker, Contains-append_cases, Contains-append_left, Contains-append_right}
use Rattle.ipl_base.specs.declared.limits.TheConstants.{VERSION}
use Rattle.ipl_model.specs.State.{State}
use Rattle.ipl_format.specs.Record.{IsRecord, Record}
use Rattle.ipl_meaning.specs.Last.{NoneIsBehind, is_number, last_that}
use Rattle.ipl_meaning.specs.Layout.{Entry, Layout, Shape, records_of}
use Rattle.ipl_meaning.specs.Steps.{grown, with_log}
use Rattle.ipl_meaning.specs.Values.{counts_for}
use Rattle.store_laws.specs.Pending.{Logs, SessionNumbers, with_records, records_at, change_in, IsPending, HasPending}
use Rattle.store_laws.specs.PendingLaws.{LogSectorsKeepPending}
use Rattle.store_laws.proofs.LastLemmas.{counted, last_that-append, last_that-none, last_that-some}
use Rattle.store_laws.proofs.BehindLemmas.{behind_append}
use Rattle.store_laws.proofs.ElementLemmas.{contains_nil}
use Rattle.store_laws.proofs.MemoryLemmas.{cases_page, records_here, records_other, unit_here, unit_other}
use Rattle.store_laws.proofs.InMemoryLemmas.{records_stay_pending}

module _ (units : ℕ) (it : Layout) (logs : Logs) (numbers : SessionNumbers) (state : State) (u page : ℕ) (e : Entry)
    (has : HasPending units it logs numbers state) (its : e.records ≡ logs u page) where
  abbrev new : Layout
  new = with_log it u e

  abbrev after : Logs
  after = with_records logs u page []

  live_here : (v : ℕ) → v ≡ u → records_of (new.units v).log ≡ records_of (it.units v).log ++ logs v page
  live_here v same =
      ap (λ (shape : Shape). records_of shape.log) (unit_here it u (grown (it.units u) e) v same)
      ∙ flat_map-append (λ (x : Entry). x.records) (it.units u).log (e ∷ [])
      ∙ ap (λ (l : List Record). records_of (it.units u).log ++ l) (append-nil e.records ∙ its)
      ∙ ap (λ (k : ℕ). records_of (it.units k).log ++ logs k page) (sym same)

  live_other : (v : ℕ) → v ≢ u → records_of (new.units v).log ≡ records_of (it.units v).log
  live_other v other = ap (λ (shape : Shape). records_of shape.log) (unit_other it u (grown (it.units u) e) v other)

  -- records of one page are none of another's
  none_elsewhere : (who : ℕ → Bool) (v q slot : ℕ) → q ≢ page → list_any (counts_for who q slot) (logs v page) ≡ false
  none_elsewhere who v q slot other = false_from_ne_true (list_any (counts_for who q slot) (logs v page)) (λ some.
      let (r, there, passes, _) = last_that-some (counts_for who q slot) (logs v page) None some in
      let is = All-contains (IsPending numbers page) (logs v page) r (has.in_memory v page) there in
      other (sym (counted who q slot r passes).0 ∙ is.page_is))

  -- the last record on a name is the same
  pub last_same : (who : ℕ → Bool) (v q slot : ℕ)
      → last_that (counts_for who q slot) (records_at new after v q) None
      ≡ last_that (counts_for who q slot) (records_at it logs v q) None
  last_same who v q slot =
      let test = counts_for who q slot in
      let live = records_of (it.units v).log in
      elim (cases_eq v u) [
        | inr other ↦
            ap (λ (l : List Record). last_that test (l ++ after v q) None) (live_other v other)
            ∙ ap (λ (l : List Record). last_that test (live ++ l) None)
            (records_other logs u page [] v q (λ same _. other same))
        | inl same ↦ elim (cases_eq q page) [
          | inl also ↦
              ap (λ (l : List Record). last_that test (l ++ after v q) None) (live_here v same)
              ∙ ap (λ (l : List Record). last_that test (live ++ logs v page ++ l) None)
              (records_here logs u page [] v q same also)
              ∙ ap (λ (l : List Record). last_that test l None) (append-nil (live ++ logs v page))
              ∙ ap (λ (k : ℕ). last_that test (live ++ logs v k) None) (sym also)
          | inr other ↦
              ap (λ (l : List Record). last_that test (l ++ after v q) None) (live_here v same)
              ∙ ap (λ (l : List Record). last_that test (live ++ logs v page ++ l) None)
              (records_other logs u page [] v q (λ _ also. other also))
              ∙ last_that-append test (live ++ logs v page) (logs v q) None
              ∙ ap (last_that test (logs v q)) (last_that-append test live (logs v page) None
              ∙ last_that-none test (logs v page) (last_that test live None) (none_elsewhere who v q slot other))
              ∙ sym (last_that-append test live (logs v q) None)
        ]
      ]

  -- no record is new
  still : (v q : ℕ) (r : Record) → Contains (after v q) r → Contains (logs v q) r
  still v q r there = elim (cases_page u page v q) [
    | inl (same, also) ↦
        absurd (contains_nil r (subst (λ l. Contains l r) (records_here logs u page [] v q same also) there))
    | inr apart ↦ subst (λ l. Contains l r) (records_other logs u page [] v q apart) there
  ]

  stood : (v q : ℕ) (r : Record) → Contains (records_at new after v q) r → (p : ℕ) × Contains (records_at it logs v p) r
  stood v q r there =
      let live = records_of (it.units v).log in
      elim (Contains-append_cases (records_of (new.units v).log) (after v q) r there) [
        | inr waits ↦ (q, Contains-append_right live (logs v q) r (still v q r waits))
        | inl on_chip ↦ elim (cases_eq v u) [
          | inr other ↦
              (q, Contains-append_left live (logs v q) r (subst (λ l. Contains l r) (live_other v other) on_chip))
          | inl same ↦ (page, subst (λ l. Contains l r) (live_here v same) on_chip)
        ]
      ]

  -- the records that join the log wait
  behind : (s tid v : ℕ) → numbers s ≡ Some tid → v < units
      → NoneIsBehind it.committed tid (records_of (new.units v).log)
  behind s tid v mine low = elim (cases_eq v u) [
    | inr other ↦
        subst (NoneIsBehind it.committed tid) (sym (live_other v other)) (has.none_behind s tid v mine low)
    | inl same ↦
        let waits = All-weaker (IsPending numbers page) (λ r. it.committed r.tid ≡ false)
        (λ r is. has.waits is.session r.tid is.open_as) (logs v page) (has.in_memory v page) in
        subst (NoneIsBehind it.committed tid) (sym (live_here v same))
        (behind_append it.committed tid (records_of (it.units v).log) (logs v page)
        (has.none_behind s tid v mine low) waits)
  ]

  valid : (v : ℕ) → v < units → All (IsRecord VERSION) (records_of (new.units v).log)
  valid v low = elim (cases_eq v u) [
    | inr other ↦ subst (All (IsRecord VERSION)) (sym (live_other v other)) (has.valid v low)
    | inl same ↦
        subst (All (IsRecord VERSION)) (sym (live_here v same))
        (All-append (IsRecord VERSION) (records_of (it.units v).log) (logs v page) (has.valid v low)
        (All-weaker (IsPending numbers page) (IsRecord VERSION) (λ r is. is.valid) (logs v page) (has.in_memory v page)))
  ]

  logged : HasPending units new after numbers state
  logged = record {
    opens = has.opens;
    apart = has.apart;
    waits = has.waits;
    among = λ s v q r mine low there. let (p, was) = stood v q r there in has.among s v p r mine low was;
    last = λ s tid v q slot mine low few less.
        ap change_in (last_same (is_number tid) v q slot) ∙ has.last s tid v q slot mine low few less;
    nowhere_else = has.nowhere_else;
    none_behind = behind;
    valid = valid;
    in_memory = (records_stay_pending numbers logs has.in_memory).log_sectors u page;
  }

pub log_sectors_keep_pending : LogSectorsKeepPending
log_sectors_keep_pending units it logs numbers state u page e has its =
    logged units it logs numbers state u page e has its
