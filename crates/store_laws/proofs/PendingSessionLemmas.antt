-- The records of open sessions, after one is opened, or shares a name; and after a restart.
use Rattle.std.proofs.Common.{None, Option, Some, ap, inl, inr, is_some, subst, sym, ℕ, ◌<◌, ◌∙◌, ◌≡◌}
use Rattle.std.specs.FinMap.{get-empty}
use Rattle.std.specs.List.{Contains}
use Rattle.std.specs.Ordering.{nat_cmp}
use Rattle.std.proofs.lemmas.Bool.{cases_eq}
use Rattle.std.proofs.lemmas.List.Elements.{All-contains, All-nil, Contains-append_left}
use Rattle.ipl_model.specs.Operations.{after_begin}
use Rattle.ipl_model.specs.State.{Session, is_open_session, last_write, writes_of}
use Rattle.ipl_meaning.specs.Last.{NoneIsBehind, is_number}
use Rattle.ipl_meaning.specs.Layout.{records_of}
use Rattle.ipl_meaning.specs.Values.{counts_for}
use Rattle.store_laws.specs.Pending.{with_number, name_at, records_at, change_in, last_change, IsPending, HasOtherNumber}
use Rattle.store_laws.specs.PendingLaws.{BeginsKeepPending, SharesKeepPending, RestartsLeaveNone}
use Rattle.store_laws.proofs.ElementLemmas.{all_listed}
use Rattle.store_laws.proofs.LastLemmas.{last_that-none, no_record}
use Rattle.store_laws.proofs.BehindLemmas.{behind_no_record}
use Rattle.store_laws.proofs.StateLemmas.{writes_in, begun_here, begun_other, shared_same}
use Rattle.store_laws.proofs.PendingNumberLemmas.{number_here, number_other, number_cases}
use Rattle.store_laws.proofs.InMemoryLemmas.{records_stay_pending}

-- ---- a session is opened

pub begins_keep_pending : BeginsKeepPending
begins_keep_pending units it logs numbers state s tid has closed fresh waits nowhere = record {
  opens = opens;
  apart = apart;
  waits = λ t n is. elim (number_cases numbers s (Some tid) t n is) [
    | inl here ↦ ap it.committed (sym (its_number n here.1)) ∙ waits
    | inr other ↦ has.waits t n other.1
  ];
  among = λ t v q r is low there. elim (number_cases numbers s (Some tid) t r.tid is) [
    | inl here ↦
        let other = All-contains (HasOtherNumber tid) (records_at it logs v q) r (nowhere v q low) there in
        absurd (other (sym (its_number r.tid here.1)))
    | inr other ↦
        subst (λ ws. Contains ws (name_at v r.page r.slot, r.change))
        (sym (ap writes_in (begun_other state s t other.0))) (has.among t v q r other.1 low there)
  ];
  last = last;
  nowhere_else = λ t n high. elim (cases_eq t s) [
    | inl same ↦ ap (λ o. last_write (writes_in o) n) (begun_here state s t same)
    | inr other ↦ ap (λ o. last_write (writes_in o) n) (begun_other state s t other) ∙ has.nowhere_else t n high
  ];
  none_behind = behind;
  valid = has.valid;
  in_memory = (records_stay_pending numbers logs has.in_memory).begins s tid closed;
}
  where
    its_number : (n : ℕ) → Some tid ≡ Some n → tid ≡ n
    its_number n both = cc both

    opens : (t : ℕ) → is_some (with_number numbers s (Some tid) t) ≡ is_open_session (after_begin state s) t
    opens t = elim (cases_eq t s) [
      | inl same ↦ ap is_some (number_here numbers s (Some tid) t same) ∙ sym (ap is_some (begun_here state s t same))
      | inr other ↦
          ap is_some (number_other numbers s (Some tid) t other) ∙ has.opens t
          ∙ sym (ap is_some (begun_other state s t other))
    ]

    apart : (a b n : ℕ) → with_number numbers s (Some tid) a ≡ Some n
        → with_number numbers s (Some tid) b ≡ Some n → a ≡ b
    apart a b n one two = elim (number_cases numbers s (Some tid) a n one) [
      | inl here ↦ elim (number_cases numbers s (Some tid) b n two) [
        | inl also ↦ here.0 ∙ sym also.0
        | inr other ↦ absurd (fresh b (other.1 ∙ sym here.1))
      ]
      | inr other ↦ elim (number_cases numbers s (Some tid) b n two) [
        | inl also ↦ absurd (fresh a (other.1 ∙ sym also.1))
        | inr too ↦ has.apart a b n other.1 too.1
      ]
    ]

    last : (t n u page slot : ℕ) → with_number numbers s (Some tid) t ≡ Some n → u < units → page < 15 → slot < 64
        → last_change n (records_at it logs u page) page slot
        ≡ last_write (writes_of (after_begin state s) t) (name_at u page slot)
    last t n u page slot is low few less = elim (number_cases numbers s (Some tid) t n is) [
      | inl here ↦
          ap (λ (k : ℕ). last_change k (records_at it logs u page) page slot) (sym (its_number n here.1))
          ∙ ap change_in (last_that-none (counts_for (is_number tid) page slot) (records_at it logs u page) None
          (no_record tid page slot (records_at it logs u page) (nowhere u page low)))
          ∙ sym (ap (λ o. last_write (writes_in o) (name_at u page slot)) (begun_here state s t here.0))
      | inr other ↦
          has.last t n u page slot other.1 low few less
          ∙ sym (ap (λ o. last_write (writes_in o) (name_at u page slot)) (begun_other state s t other.0))
    ]

    -- a record of the new number has none behind it, since there is none
    behind : (t n u : ℕ) → with_number numbers s (Some tid) t ≡ Some n → u < units
        → NoneIsBehind it.committed n (records_of (it.units u).log)
    behind t n u is low = elim (number_cases numbers s (Some tid) t n is) [
      | inr other ↦ has.none_behind t n u other.1 low
      | inl here ↦
          let live = records_of (it.units u).log in
          subst (λ (k : ℕ). NoneIsBehind it.committed k live) (its_number n here.1)
          (behind_no_record it.committed tid live (all_listed (HasOtherNumber tid) live (λ r there.
          All-contains (HasOtherNumber tid) (records_at it logs u 0) r (nowhere u 0 low)
          (Contains-append_left live (logs u 0) r there))))
    ]

-- ---- a session shares a name

pub shares_keep_pending : SharesKeepPending
shares_keep_pending units it logs numbers state s n has = record {
  opens = λ t. has.opens t ∙ sym (shared_same state s n t).1;
  apart = has.apart;
  waits = has.waits;
  among = λ t u page r mine low there.
      subst (λ ws. Contains ws (name_at u r.page r.slot, r.change)) (sym (shared_same state s n t).0)
      (has.among t u page r mine low there);
  last = λ t tid u page slot mine low few less.
      has.last t tid u page slot mine low few less
      ∙ sym (ap (λ ws. last_write ws (name_at u page slot)) (shared_same state s n t).0);
  nowhere_else = λ t k high. ap (λ ws. last_write ws k) (shared_same state s n t).0 ∙ has.nowhere_else t k high;
  none_behind = has.none_behind;
  valid = has.valid;
  in_memory = has.in_memory;
}

-- ---- all sessions are closed

pub restarts_leave_none : RestartsLeaveNone
restarts_leave_none units it state valid = record {
  opens = λ s. sym (ap is_some (get-empty nat_cmp s));
  apart = λ s t tid one two. absurd (cc one);
  waits = λ s tid one. absurd (cc one);
  among = λ s u page r one low there. absurd (cc one);
  last = λ s tid u page slot one low few less. absurd (cc one);
  nowhere_else = λ s n high. ap (λ (o : Option Session). last_write (writes_in o) n) (get-empty nat_cmp s);
  none_behind = λ s tid u one low. absurd (cc one);
  valid = valid;
  in_memory = λ u page. All-nil (IsPending (λ s. None) page);
}
