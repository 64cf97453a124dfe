-- The records of open sessions, after one of them is committed or aborted.
use Rattle.std.proofs.Common.{Bool, None, Some, ap, eqb, inl, inr, is_some, refl, subst, sym, true, ℕ, ◌<◌, ◌∙◌, ◌≡◌, ◌≢◌}
use Rattle.std.specs.List.{Contains, filter}
use Rattle.std.proofs.lemmas.Bool.{cases_eq, cond-false, eqb-true, ne_eqb, not_from_false}
use Rattle.std.proofs.lemmas.List.Elements.{Contains-append_cases, Contains-append_left, Contains-append_right}
use Rattle.ipl_model.specs.Operations.{after_abort}
use Rattle.ipl_model.specs.State.{State, Write, is_open_session, last_write, writes_of}
use Rattle.ipl_format.specs.Record.{Record}
use Rattle.ipl_meaning.specs.Last.{NoneIsBehind, is_number, last_that}
use Rattle.ipl_meaning.specs.Layout.{Layout, records_of}
use Rattle.ipl_meaning.specs.Values.{counts_for}
use Rattle.store_laws.specs.Pending.{Logs, SessionNumbers, is_other, without_number, with_number, name_at, records_at, change_in, last_change, HasPending}
use Rattle.store_laws.specs.PendingLaws.{NumberJoins, CommitsKeepPending, AbortsKeepPending}
use Rattle.store_laws.proofs.ElementLemmas.{contains_filter}
use Rattle.store_laws.proofs.LastLemmas.{counted, last_that-append, last_that-filter}
use Rattle.store_laws.proofs.BehindLemmas.{behind_other}
use Rattle.store_laws.proofs.StateLemmas.{writes_in, closed_here, closed_other, closed_last, closed_nowhere}
use Rattle.store_laws.proofs.PendingNumberLemmas.{number_here, number_other, still_open}
use Rattle.store_laws.proofs.InMemoryLemmas.{records_stay_pending}
use Rattle.store_laws.proofs.FollowLemmas.{one_number}

-- ---- a session is closed

module _ (units : ℕ) (it : Layout) (logs : Logs) (numbers : SessionNumbers) (state : State) (s tid : ℕ)
    (has : HasPending units it logs numbers state) (mine : numbers s ≡ Some tid) where
  opens_others : (t : ℕ) → is_some (with_number numbers s None t) ≡ is_open_session (after_abort state s) t
  opens_others t = elim (cases_eq t s) [
    | inl same ↦ ap is_some (number_here numbers s None t same) ∙ sym (ap is_some (closed_here state s t same))
    | inr other ↦
        ap is_some (number_other numbers s None t other) ∙ has.opens t
        ∙ sym (ap is_some (closed_other state s t other))
  ]

  others_apart : (a b n : ℕ) → with_number numbers s None a ≡ Some n → with_number numbers s None b ≡ Some n → a ≡ b
  others_apart a b n one two = has.apart a b n (still_open numbers s a n one).1 (still_open numbers s b n two).1

  -- the others have other numbers
  not_mine : (t n : ℕ) → with_number numbers s None t ≡ Some n → n ≢ tid
  not_mine t n is same =
      let (other, running) = still_open numbers s t n is in
      other (has.apart t s n running (mine ∙ ap (λ (k : ℕ). Some k) (sym same)))

  -- what they wrote stays
  still_wrote : (t n : ℕ) (w : Write) → with_number numbers s None t ≡ Some n → Contains (writes_of state t) w
      → Contains (writes_of (after_abort state s) t) w
  still_wrote t n w is wrote =
      let (other, running) = still_open numbers s t n is in
      subst (λ ws. Contains ws w) (sym (ap writes_in (closed_other state s t other))) wrote

-- ---- a commit

-- a number that joins changes no other
joined_other : (committed : ℕ → Bool) (tid : ℕ) (after : ℕ → Bool) → NumberJoins committed tid after → (n : ℕ)
    → n ≢ tid → after n ≡ committed n
joined_other committed tid after joins n other =
    joins n ∙ cond-false (is_number tid n) true (committed n) (ne_eqb n tid other)

pub commits_keep_pending : CommitsKeepPending
commits_keep_pending units it logs numbers state s tid after has one mine out joins = record {
  opens = opens_others units it logs numbers state s tid has mine;
  apart = others_apart units it logs numbers state s tid has mine;
  waits = λ t n is.
      joined_other it.committed tid after joins n (not_mine units it logs numbers state s tid has mine t n is)
      ∙ has.waits t n (still_open numbers s t n is).1;
  among = λ t u page r is low there.
      still_wrote units it logs numbers state s tid has mine t r.tid (name_at u r.page r.slot, r.change) is
      (has.among t u page r (still_open numbers s t r.tid is).1 low there);
  last = λ t n u page slot is low few less.
      let (other, running) = still_open numbers s t n is in
      has.last t n u page slot running low few less ∙ closed_last state s t (name_at u page slot) other;
  nowhere_else = λ t n high. closed_nowhere state s t n (has.nowhere_else t n high);
  none_behind = behind;
  valid = has.valid;
  in_memory = (records_stay_pending numbers logs has.in_memory).commits s tid mine out;
}
  where
    -- a record of the session behind one of another session on the same name would make two writers of it
    behind : (t n u : ℕ) → with_number numbers s None t ≡ Some n → u < units
        → NoneIsBehind after n (records_of (it.units u).log)
    behind t n u is low =
        let (_, running) = still_open numbers s t n is in
        let live = records_of (it.units u).log in
        behind_other it.committed after n live (has.none_behind t n u running low)
        (λ r q r_is q_is its page_is slot_is now. elim (cases_eq q.tid tid) [
          | inr other ↦ sym (joined_other it.committed tid after joins q.tid other) ∙ now
          | inl same ↦
              let r_number : numbers t ≡ Some r.tid = running ∙ ap (λ (k : ℕ). Some k) (sym its) in
              let q_number : numbers s ≡ Some q.tid = mine ∙ ap (λ (k : ℕ). Some k) (sym same) in
              let r_there = Contains-append_left live (logs u r.page) r r_is in
              let q_there = Contains-append_left live (logs u r.page) q q_is in
              let equal = one_number units it logs numbers state has one t s u r.page r q low r_number q_number
              r_there q_there refl page_is slot_is in
              absurd (not_mine units it logs numbers state s tid has mine t n is (sym its ∙ equal ∙ same))
        ])

-- ---- an abort

pub aborts_keep_pending : AbortsKeepPending
aborts_keep_pending units it logs numbers state s tid has mine = record {
  opens = opens_others units it logs numbers state s tid has mine;
  apart = others_apart units it logs numbers state s tid has mine;
  waits = λ t n is. has.waits t n (still_open numbers s t n is).1;
  among = λ t u page r is low there.
      still_wrote units it logs numbers state s tid has mine t r.tid (name_at u r.page r.slot, r.change) is
      (has.among t u page r (still_open numbers s t r.tid is).1 low (stood u page r there));
  last = last;
  nowhere_else = λ t n high. closed_nowhere state s t n (has.nowhere_else t n high);
  none_behind = λ t n u is low. has.none_behind t n u (still_open numbers s t n is).1 low;
  valid = has.valid;
  in_memory = (records_stay_pending numbers logs has.in_memory).aborts s tid mine;
}
  where
    stood : (u page : ℕ) (r : Record) → Contains (records_at it (without_number logs tid) u page) r
        → Contains (records_at it logs u page) r
    stood u page r there =
        let live = records_of (it.units u).log in
        elim (Contains-append_cases live (filter (is_other tid) (logs u page)) r there) [
          | inl on_chip ↦ Contains-append_left live (logs u page) r on_chip
          | inr waits ↦
              Contains-append_right live (logs u page) r (contains_filter (is_other tid) (logs u page) r waits).0
        ]

    last : (t n u page slot : ℕ) → with_number numbers s None t ≡ Some n → u < units → page < 15 → slot < 64
        → last_change n (records_at it (without_number logs tid) u page) page slot
        ≡ last_write (writes_of (after_abort state s) t) (name_at u page slot)
    last t n u page slot is low few less =
        let (other, running) = still_open numbers s t n is in
        let live = records_of (it.units u).log in
        let test = counts_for (is_number n) page slot in
        let kept : (r : Record) → test r ≡ true → is_other tid r ≡ true = λ r counts_it.
        let number = eqb-true r.tid n (counted (is_number n) page slot r counts_it).2 in
        not_from_false (eqb r.tid tid) (ne_eqb r.tid tid (λ same.
        not_mine units it logs numbers state s tid has mine t n is (sym number ∙ same))) in
        ap change_in (last_that-append test live (filter (is_other tid) (logs u page)) None
        ∙ last_that-filter test (is_other tid) (logs u page) (last_that test live None) kept
        ∙ sym (last_that-append test live (logs u page) None))
        ∙ has.last t n u page slot running low few less
        ∙ closed_last state s t (name_at u page slot) other
