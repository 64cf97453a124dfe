-- The records of open sessions, after one of them writes.
use Rattle.std.proofs.Common.{Bool, List, None, Some, [], ap, ap₂, arith, if◌then◌else◌, inl, inr, is_some, subst, sym, true, ℕ, ◌++◌, ◌<◌, ◌∙◌, ◌∷◌, ◌≡◌, ◌≢◌, ◌⊎◌}
use Rattle.std.specs.List.{Contains}
use Rattle.std.proofs.lemmas.Bool.{cases_Bool, cases_eq, cond-false, cond-true, eqb-true, both_ways}
use Rattle.std.proofs.lemmas.List.Elements.{Contains-append_cases, Contains-append_left, Contains-append_right, Contains-push_cases}
use Rattle.ipl_base.specs.declared.limits.TheConstants.{VERSION}
use Rattle.ipl_model.specs.Operations.{after_write}
use Rattle.ipl_model.specs.State.{State, Write, is_open_session, last_write, writes_of}
use Rattle.ipl_format.specs.Record.{IsRecord, Record}
use Rattle.ipl_meaning.specs.Last.{is_number, last_that}
use Rattle.ipl_meaning.specs.Layout.{Layout, records_of}
use Rattle.ipl_meaning.specs.Values.{counts_for}
use Rattle.store_laws.specs.Pending.{Logs, SessionNumbers, with_records, name_at, records_at, change_in, last_change, HasPending}
use Rattle.store_laws.specs.PendingLaws.{WritesKeepPending}
use Rattle.store_laws.proofs.ElementLemmas.{contains_here, contains_there}
use Rattle.store_laws.proofs.LastLemmas.{counted, counts, is_one, last_pushed}
use Rattle.store_laws.proofs.StateLemmas.{writes_in, wrote_here, wrote_other, last_here, last_before}
use Rattle.store_laws.proofs.MemoryLemmas.{records_here, records_other, cases_page, names_once}
use Rattle.store_laws.proofs.InMemoryLemmas.{records_stay_pending}

module _ (units : ℕ) (it : Layout) (logs : Logs) (numbers : SessionNumbers) (state : State) (s u : ℕ) (r : Record)
    (has : HasPending units it logs numbers state) (mine : numbers s ≡ Some r.tid) (low_u : u < units)
    (valid : IsRecord VERSION r) where
  abbrev put : Write
  put = (name_at u r.page r.slot, r.change)

  abbrev later : State
  later = after_write state s put

  abbrev after : Logs
  after = with_records logs u r.page (logs u r.page ++ r ∷ [])

  by_session : (is_open_session later s ≡ true) × (writes_of later s ≡ put ∷ writes_of state s)
  by_session = wrote_here state s put (sym (has.opens s) ∙ ap is_some mine)

  -- another session, or another name
  unchanged : (t n : ℕ) → (t ≡ s → put.0 ≢ n) → last_write (writes_of later t) n ≡ last_write (writes_of state t) n
  unchanged t n apart = elim (cases_eq t s) [
    | inl same ↦
        ap (λ (k : ℕ). last_write (writes_of later k) n) same
        ∙ ap (λ ws. last_write ws n) by_session.1
        ∙ last_before put (writes_of state s) n (apart same)
        ∙ sym (ap (λ (k : ℕ). last_write (writes_of state k) n) same)
    | inr other ↦ ap (λ o. last_write (writes_in o) n) (wrote_other state s t put other)
  ]

  -- with the record behind the others
  pushed : (test : Record → Bool) (v q : ℕ) → v ≡ u → q ≡ r.page
      → last_that test (records_at it after v q) None
      ≡ (if test r then Some r else last_that test (records_at it logs v q) None)
  pushed test v q same also =
      let live = records_of (it.units v).log in
      let at_page : logs u r.page ≡ logs v q = ap₂ logs (sym same) (sym also) in
      let here : after v q ≡ logs v q ++ r ∷ [] =
      records_here logs u r.page (logs u r.page ++ r ∷ []) v q same also
      ∙ ap (λ (l : List Record). l ++ r ∷ []) at_page in
      ap (λ (l : List Record). last_that test (live ++ l) None) here ∙ last_pushed test live (logs v q) r

  last_written : (t tid v q slot : ℕ) → numbers t ≡ Some tid → v < units → q < 15 → slot < 64
      → last_change tid (records_at it after v q) q slot ≡ last_write (writes_of later t) (name_at v q slot)
  last_written t tid v q slot is low few less = elim (cases_page u r.page v q) [
    | inr apart ↦
        ap (λ (l : List Record). last_change tid (records_of (it.units v).log ++ l) q slot)
        (records_other logs u r.page (logs u r.page ++ r ∷ []) v q apart)
        ∙ has.last t tid v q slot is low few less
        ∙ sym (unchanged t (name_at v q slot) (λ _ one. apart (at one).0 (at one).1))
    | inl (same, also) ↦ elim (cases_Bool (test r)) [
      | inl counts_it ↦
          let (_, slot_is, number) = counted (is_number tid) q slot r counts_it in
          let tid_is : r.tid ≡ tid = eqb-true r.tid tid number in
          let here : t ≡ s = has.apart t s tid is (mine ∙ ap (λ (k : ℕ). Some k) tid_is) in
          let name : put.0 ≡ name_at v q slot = omega (arith, same, also, slot_is) in
          ap change_in (pushed test v q same also
          ∙ cond-true _ (Some r) (last_that test (records_at it logs v q) None) counts_it)
          ∙ sym (ap (λ (k : ℕ). last_write (writes_of later k) (name_at v q slot)) here
          ∙ ap (λ ws. last_write ws (name_at v q slot)) by_session.1
          ∙ last_here put (writes_of state s) (name_at v q slot) name)
      | inr other ↦
          ap change_in (pushed test v q same also
          ∙ cond-false _ (Some r) (last_that test (records_at it logs v q) None) other)
          ∙ has.last t tid v q slot is low few less
          ∙ sym (unchanged t (name_at v q slot) (λ here one.
          let both : Some r.tid ≡ Some tid = sym mine ∙ ap numbers (sym here) ∙ is in
          let tid_is : r.tid ≡ tid = cc both in
          both_ways (test r) other (counts (is_number tid) q slot r (sym also) (sym (at one).2)
          (is_one tid r.tid tid_is))))
    ]
  ]
    where
      test : Record → Bool
      test = counts_for (is_number tid) q slot

      at : put.0 ≡ name_at v q slot → (v ≡ u) × (q ≡ r.page) × (slot ≡ r.slot)
      at one = names_once u r.page r.slot v q slot valid.page few valid.slot less one

  -- what a session wrote before it wrote still
  grown : (t : ℕ) (w : Write) → Contains (writes_of state t) w → Contains (writes_of later t) w
  grown t w is = elim (cases_eq t s) [
    | inl same ↦
        subst (λ (k : ℕ). Contains (writes_of later k) w) (sym same)
        (subst (λ ws. Contains ws w) (sym by_session.1)
        (contains_there put (writes_of state s) w (subst (λ (k : ℕ). Contains (writes_of state k) w) same is)))
    | inr other ↦ subst (λ ws. Contains ws w) (sym (ap writes_in (wrote_other state s t put other))) is
  ]

  -- and the record is its newest write
  newest : (t v : ℕ) (x : Record) → t ≡ s → v ≡ u → r ≡ x
      → Contains (writes_of later t) (name_at v x.page x.slot, x.change)
  newest t v x here same new =
      subst (λ (y : Record). Contains (writes_of later t) (name_at v y.page y.slot, y.change)) new
      (subst (λ (k : ℕ). Contains (writes_of later k) (name_at v r.page r.slot, r.change)) (sym here)
      (subst (λ (a : ℕ). Contains (writes_of later s) (name_at a r.page r.slot, r.change)) (sym same)
      (subst (λ ws. Contains ws put) (sym by_session.1) (contains_here put (writes_of state s)))))

  -- a record of a page is the new one, or stood there
  stood : (v q : ℕ) (x : Record) → Contains (records_at it after v q) x
      → Contains (records_at it logs v q) x ⊎ ((v ≡ u) × (r ≡ x))
  stood v q x there =
      let live = records_of (it.units v).log in
      elim (Contains-append_cases live (after v q) x there) [
        | inl on_chip ↦ inl (Contains-append_left live (logs v q) x on_chip)
        | inr waits ↦ elim (cases_page u r.page v q) [
          | inr apart ↦
              let same = records_other logs u r.page (logs u r.page ++ r ∷ []) v q apart in
              inl (Contains-append_right live (logs v q) x (subst (λ l. Contains l x) same waits))
          | inl (same, also) ↦
              let here = records_here logs u r.page (logs u r.page ++ r ∷ []) v q same also in
              let at_page : logs u r.page ≡ logs v q = ap₂ logs (sym same) (sym also) in
              elim (Contains-push_cases (logs u r.page) r x (subst (λ l. Contains l x) here waits)) [
                | inl before ↦
                    inl (Contains-append_right live (logs v q) x (subst (λ l. Contains l x) at_page before))
                | inr new ↦ inr (same, new)
              ]
        ]
      ]

  among_written : (t v q : ℕ) (x : Record) → numbers t ≡ Some x.tid → v < units
      → Contains (records_at it after v q) x → Contains (writes_of later t) (name_at v x.page x.slot, x.change)
  among_written t v q x is low there = elim (stood v q x there) [
    | inl before ↦ grown t (name_at v x.page x.slot, x.change) (has.among t v q x is low before)
    | inr (same, new) ↦
        newest t v x (has.apart t s x.tid is (mine ∙ ap (λ (y : Record). Some y.tid) new)) same new
  ]

  opens_still : (t : ℕ) → is_some (numbers t) ≡ is_open_session later t
  opens_still t = elim (cases_eq t s) [
    | inl same ↦
        ap (λ (k : ℕ). is_some (numbers k)) same ∙ ap is_some mine
        ∙ sym (ap (λ (k : ℕ). is_open_session later k) same ∙ by_session.0)
    | inr other ↦ has.opens t ∙ sym (ap is_some (wrote_other state s t put other))
  ]

  written : HasPending units it after numbers later
  written = record {
    opens = opens_still;
    apart = has.apart;
    waits = has.waits;
    among = among_written;
    last = last_written;
    nowhere_else = λ t n high.
        unchanged t n (λ _ one. omega (arith, one, high, low_u, valid.page, valid.slot)) ∙ has.nowhere_else t n high;
    none_behind = has.none_behind;
    valid = has.valid;
    in_memory = (records_stay_pending numbers logs has.in_memory).writes s u r mine valid;
  }

pub writes_keep_pending : WritesKeepPending
writes_keep_pending units it logs numbers state s u r has mine low valid =
    written units it logs numbers state s u r has mine low valid
