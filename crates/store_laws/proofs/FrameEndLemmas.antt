-- Frames after a session is committed or aborted.
use Rattle.std.proofs.Common.{Bool, List, None, Option, Some, ap, eqb, false, inl, inr, sym, true, ℕ, ◌<◌, ◌∙◌, ◌≡◌, ◌≢◌, ◌⊎◌}
use Rattle.std.specs.List.{Contains, filter, list_any}
use Rattle.std.proofs.lemmas.Bool.{ne_eqb, not_from_false, both_ways, false_from_ne_true}
use Rattle.std.proofs.lemmas.Option.{none-some, same_Some}
use Rattle.ipl_model.specs.State.{State}
use Rattle.ipl_format.specs.Record.{Record}
use Rattle.ipl_meaning.specs.Last.{applied, is_number, last_that}
use Rattle.ipl_meaning.specs.Layout.{Layout, records_of}
use Rattle.ipl_meaning.specs.Values.{counts_for}
use Rattle.page_ops.specs.Pending.{seen_by, without_pending}
use Rattle.store_laws.specs.Pending.{Logs, SessionNumbers, is_other, without_number, with_number, records_at, HasPending, IsWrittenOut}
use Rattle.store_laws.specs.PendingLaws.{StateHasOneWriter, AreActive}
use Rattle.store_laws.specs.Frames.{pending_of}
use Rattle.store_laws.specs.FrameLaws.{CommitsKeepFrames, AbortsKeepFrames}
use Rattle.store_laws.proofs.ElementLemmas.{any_there, all_listed}
use Rattle.store_laws.proofs.LastLemmas.{counted, counts, is_one, counts_alike, last_that-append, last_that-none, last_that-agree, last_that-some, last_that-filter}
use Rattle.store_laws.proofs.OwnerLemmas.{IsIts, IsNotIts, whose}
use Rattle.store_laws.proofs.PendingNumberLemmas.{still_open}
use Rattle.store_laws.proofs.FollowLemmas.{of_one_at}
use Rattle.store_laws.proofs.SayLemmas.{on_chip, applied_shows}
use Rattle.store_laws.proofs.FrameLemmas.{seen_own, seen_else, drops_own, drops_else}
use Rattle.store_laws.proofs.ActiveLemmas.{others_alike}

module _ (units : ℕ) (it : Layout) (logs : Logs) (numbers : SessionNumbers) (state : State) (active rest : ℕ → Bool)
    (s tid : ℕ) (has : HasPending units it logs numbers state) (one : StateHasOneWriter state)
    (tells : AreActive numbers active) (after : AreActive (with_number numbers s None) rest)
    (mine : numbers s ≡ Some tid) where
  -- the number is active no more
  not_then : (n : ℕ) → rest n ≡ true → n ≢ tid
  not_then n is same =
      let (t, running) = (after n).0 is in
      let (other, number) = still_open numbers s t n running in
      other (has.apart t s n number (mine ∙ ap (λ (k : ℕ). Some k) (sym same)))

  others_same : (n : ℕ) → n ≢ tid → active n ≡ rest n
  others_same n other =
      others_alike numbers active rest s None tells after n
      (λ is. other (sym (same_Some tid n (sym mine ∙ is)))) (none-some n)

  whose_it_is : (u page slot : ℕ) → u < units
      → IsIts active tid page slot (records_at it logs u page)
      ⊎ IsNotIts active tid page slot (records_at it logs u page)
  whose_it_is u page slot low =
      whose active tid page slot (records_at it logs u page) ((tells tid).1 (s, mine))
      (of_one_at units it logs numbers state active has one tells u page slot low)

  -- no record of another session is on a name on which this one has its last
  none_then : (u page slot : ℕ) → u < units → IsIts active tid page slot (records_at it logs u page)
      → list_any (counts_for rest page slot) (records_at it logs u page) ≡ false
  none_then u page slot low its =
      false_from_ne_true (list_any (counts_for rest page slot) (records_at it logs u page)) (λ some.
      let (q, there, passes, _) = last_that-some (counts_for rest page slot) (records_at it logs u page) None some in
      let (q_page, q_slot, q_then) = counted rest page slot q passes in
      let other = not_then q.tid q_then in
      let q_counts = counts active page slot q q_page q_slot (others_same q.tid other ∙ q_then) in
      let of_one = of_one_at units it logs numbers state active has one tells u page slot low in
      other (of_one q its.r there its.there q_counts its.counts_it ∙ its.number))

  -- where it has none on the name, the tests agree
  agree_then : (u page slot : ℕ) → IsNotIts active tid page slot (records_at it logs u page)
      → (r : Record) → Contains (records_at it logs u page) r
      → counts_for active page slot r ≡ counts_for rest page slot r
  agree_then u page slot not_its r there = counts_alike active rest page slot r (λ p q.
      others_same r.tid (λ same.
      let test = counts_for (is_number tid) page slot in
      let its = counts (is_number tid) page slot r p q (is_one tid r.tid same) in
      both_ways (list_any test (records_at it logs u page)) not_its.none
      (any_there test (records_at it logs u page) r there its)))

  -- the pending changes without the session's
  changes_without : (u page slot : ℕ) → u < units
      → without_pending tid (pending_of (last_that (counts_for active page slot) (records_at it logs u page) None))
      ≡ pending_of (last_that (counts_for rest page slot) (records_at it logs u page) None)
  changes_without u page slot low =
      let records = records_at it logs u page in
      let all = counts_for active page slot in
      let others = counts_for rest page slot in
      elim (whose_it_is u page slot low) [
        | inl its ↦
            ap (λ o. without_pending tid (pending_of o)) its.last
            ∙ drops_own tid its.r its.number
            ∙ sym (ap pending_of (last_that-none others records None (none_then u page slot low its)))
        | inr not_its ↦
            drops_else tid (last_that all records None) not_its.other
            ∙ ap pending_of (last_that-agree all others records None
            (all_listed (λ r. all r ≡ others r) records (agree_then u page slot not_its)))
      ]

  -- the value that it sees is that of its last record, where that is on the chip
  value_with : (u page slot : ℕ) → u < units → IsWrittenOut logs tid → (value : Option (List ℕ))
      → seen_by tid value (pending_of (last_that (counts_for active page slot) (records_at it logs u page) None))
      ≡ applied (last_that (counts_for (is_number tid) page slot) (records_of (it.units u).log) None) value
  value_with u page slot low out value =
      let records = records_at it logs u page in
      let live = on_chip it logs tid u page slot out in
      elim (whose_it_is u page slot low) [
        | inl its ↦
            ap (λ o. seen_by tid value (pending_of o)) its.last
            ∙ seen_own tid value its.r its.number
            ∙ sym (ap (λ o. applied o value) (live ∙ its.last_own))
        | inr not_its ↦
            let none = last_that-none (counts_for (is_number tid) page slot) records None not_its.none in
            seen_else tid value (last_that (counts_for active page slot) records None) not_its.other
            ∙ sym (ap (λ o. applied o value) (live ∙ none))
      ]

pub commits_keep_frames : CommitsKeepFrames
commits_keep_frames places c y it logs numbers state active rest after s tid u page values pending has filled one tells
    later mine out joins keeps low few framed =
    record {
      shows = keeps.shown u page (λ slot. seen_by tid (values slot) (pending slot)) low few
          (applied_shows it.count c it logs numbers state s tid after has filled mine out joins u page low few
          values (λ slot. seen_by tid (values slot) (pending slot)) says framed.shows);
      changes = λ slot less.
          ap (without_pending tid) (framed.changes slot less)
          ∙ changes_without it.count it logs numbers state active rest s tid has one tells later mine u page slot
          low;
    }
  where
    says : (slot : ℕ) → slot < 64 → seen_by tid (values slot) (pending slot)
        ≡ applied (last_that (counts_for (is_number tid) page slot) (records_of (it.units u).log) None) (values slot)
    says slot less =
        ap (seen_by tid (values slot)) (framed.changes slot less)
        ∙ value_with it.count it logs numbers state active rest s tid has one tells later mine u page slot low
        out (values slot)

pub aborts_keep_frames : AbortsKeepFrames
aborts_keep_frames units c it logs numbers state active rest s tid u page values pending has one tells later mine low
    few framed =
    record { shows = framed.shows; changes = changes }
  where
    kept : (slot : ℕ) (r : Record) → counts_for rest page slot r ≡ true → is_other tid r ≡ true
    kept slot r passes =
        let running = (counted rest page slot r passes).2 in
        not_from_false (eqb r.tid tid) (ne_eqb r.tid tid
        (not_then units it logs numbers state active rest s tid has one tells later mine r.tid running))

    changes : (slot : ℕ) → slot < 64 → without_pending tid (pending slot)
        ≡ pending_of (last_that (counts_for rest page slot) (records_at it (without_number logs tid) u page) None)
    changes slot less =
        let test = counts_for rest page slot in
        let live = records_of (it.units u).log in
        ap (without_pending tid) (framed.changes slot less)
        ∙ changes_without units it logs numbers state active rest s tid has one tells later mine u page slot low
        ∙ ap pending_of (last_that-append test live (logs u page) None
        ∙ sym (last_that-filter test (is_other tid) (logs u page) (last_that test live None) (kept slot))
        ∙ sym (last_that-append test live (filter (is_other tid) (logs u page)) None))
