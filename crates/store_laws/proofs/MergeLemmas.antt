-- The records of open sessions, after a merge, and after steps that change no log.
use Rattle.std.proofs.Common.{Bool, List, None, Some, ap, false, inl, inr, subst, sym, ℕ, ◌++◌, ◌<◌, ◌∙◌, ◌≡◌, ◌≢◌}
use Rattle.std.specs.List.{All, Contains}
use Rattle.std.proofs.lemmas.Bool.{cases_eq}
use Rattle.std.proofs.lemmas.List.Elements.{All-contains, Contains-append_cases, Contains-append_left, Contains-append_right}
use Rattle.ipl_base.specs.declared.limits.TheConstants.{VERSION}
use Rattle.ipl_model.specs.State.{State}
use Rattle.ipl_format.specs.Record.{IsRecord, Record}
use Rattle.ipl_meaning.specs.Last.{NoneIsBehind, carried, is_number, last_that}
use Rattle.ipl_meaning.specs.Layout.{Layout, Shape, records_of}
use Rattle.ipl_meaning.specs.Steps.{with_unit, AllWait}
use Rattle.ipl_meaning.specs.Values.{counts_for}
use Rattle.store_laws.specs.Pending.{Logs, SessionNumbers, records_at, change_in, last_change, HasPending}
use Rattle.store_laws.specs.PendingLaws.{StateHasOneWriter, AreActive, MergesKeepPending, SameLogsKeepPending}
use Rattle.store_laws.proofs.ElementLemmas.{all_listed}
use Rattle.store_laws.proofs.LastLemmas.{last_that-append}
use Rattle.store_laws.proofs.OwnerLemmas.{IsOfOne}
use Rattle.store_laws.proofs.CarriedLemmas.{carried_some, carried_last}
use Rattle.store_laws.proofs.BehindLemmas.{behind_waiting, behind_other}
use Rattle.store_laws.proofs.MemoryLemmas.{unit_here, unit_other}
use Rattle.store_laws.proofs.FollowLemmas.{of_one_at}

-- ---- a merge

module _ (units : ℕ) (it : Layout) (logs : Logs) (numbers : SessionNumbers) (state : State) (active : ℕ → Bool) (u : ℕ)
    (fresh : Shape) (has : HasPending units it logs numbers state) (one : StateHasOneWriter state)
    (tells : AreActive numbers active)
    (its : records_of fresh.log ≡ carried active (records_of (it.units u).log)) where
  abbrev moved : Layout
  moved = with_unit it u fresh

  merged_here : (v : ℕ) → v ≡ u → records_of (moved.units v).log ≡ carried active (records_of (it.units v).log)
  merged_here v same =
      ap (λ (shape : Shape). records_of shape.log) (unit_here it u fresh v same)
      ∙ its
      ∙ ap (λ (k : ℕ). carried active (records_of (it.units k).log)) (sym same)

  merged_other : (v : ℕ) → v ≢ u → records_of (moved.units v).log ≡ records_of (it.units v).log
  merged_other v other = ap (λ (shape : Shape). records_of shape.log) (unit_other it u fresh v other)

  -- a name has live records of one open session
  of_one : (v page slot : ℕ) → v < units → IsOfOne active page slot (records_of (it.units v).log)
  of_one v page slot low r q r_is q_is =
      let live = records_of (it.units v).log in
      of_one_at units it logs numbers state active has one tells v page slot low r q
      (Contains-append_left live (logs v page) r r_is) (Contains-append_left live (logs v page) q q_is)

  last_kept : (s tid v page slot : ℕ) → numbers s ≡ Some tid → v < units
      → last_that (counts_for (is_number tid) page slot) (records_at moved logs v page) None
      ≡ last_that (counts_for (is_number tid) page slot) (records_at it logs v page) None
  last_kept s tid v page slot mine low =
      let test = counts_for (is_number tid) page slot in
      let live = records_of (it.units v).log in
      elim (cases_eq v u) [
        | inr other ↦ ap (λ (l : List Record). last_that test (l ++ logs v page) None) (merged_other v other)
        | inl same ↦
            let running = (tells tid).1 (s, mine) in
            ap (λ (l : List Record). last_that test (l ++ logs v page) None) (merged_here v same)
            ∙ last_that-append test (carried active live) (logs v page) None
            ∙ ap (last_that test (logs v page))
            (carried_last active tid page slot live None running (of_one v page slot low))
            ∙ sym (last_that-append test live (logs v page) None)
      ]

  -- what is carried waits, and is in form
  carried_wait : (v : ℕ) → AllWait it.committed (carried active (records_of (it.units v).log))
  carried_wait v =
      all_listed (λ r. it.committed r.tid ≡ false) (carried active (records_of (it.units v).log)) (λ r there.
      let (s, mine) = (tells r.tid).0 (carried_some active (records_of (it.units v).log) r there).1 in
      has.waits s r.tid mine)

  carried_valid : (v : ℕ) → v < units → All (IsRecord VERSION) (carried active (records_of (it.units v).log))
  carried_valid v low = all_listed (IsRecord VERSION) (carried active (records_of (it.units v).log)) (λ r there.
      let was = (carried_some active (records_of (it.units v).log) r there).0 in
      All-contains (IsRecord VERSION) (records_of (it.units v).log) r (has.valid v low) was)

  -- no record is new
  stood : (v q : ℕ) (r : Record) → Contains (records_at moved logs v q) r → Contains (records_at it logs v q) r
  stood v q r there =
      let live = records_of (it.units v).log in
      elim (Contains-append_cases (records_of (moved.units v).log) (logs v q) r there) [
        | inr waits ↦ Contains-append_right live (logs v q) r waits
        | inl on_chip ↦ elim (cases_eq v u) [
          | inr other ↦
              Contains-append_left live (logs v q) r (subst (λ l. Contains l r) (merged_other v other) on_chip)
          | inl same ↦
              Contains-append_left live (logs v q) r
              (carried_some active live r (subst (λ l. Contains l r) (merged_here v same) on_chip)).0
        ]
      ]

  merged : HasPending units moved logs numbers state
  merged = record {
    opens = has.opens;
    apart = has.apart;
    waits = has.waits;
    among = λ s v q r mine low there. has.among s v q r mine low (stood v q r there);
    last = λ s tid v page slot mine low few less.
        ap change_in (last_kept s tid v page slot mine low) ∙ has.last s tid v page slot mine low few less;
    nowhere_else = has.nowhere_else;
    none_behind = λ s tid v mine low. elim (cases_eq v u) [
      | inr other ↦
          subst (NoneIsBehind it.committed tid) (sym (merged_other v other)) (has.none_behind s tid v mine low)
      | inl same ↦
          subst (NoneIsBehind it.committed tid) (sym (merged_here v same))
          (behind_waiting it.committed tid (carried active (records_of (it.units v).log)) (carried_wait v))
    ];
    valid = λ v low. elim (cases_eq v u) [
      | inr other ↦ subst (All (IsRecord VERSION)) (sym (merged_other v other)) (has.valid v low)
      | inl same ↦ subst (All (IsRecord VERSION)) (sym (merged_here v same)) (carried_valid v low)
    ];
    in_memory = has.in_memory;
  }

pub merges_keep_pending : MergesKeepPending
merges_keep_pending units it logs numbers state active u fresh has one tells its =
    merged units it logs numbers state active u fresh has one tells its

-- ---- the same logs

pub same_logs_keep_pending : SameLogsKeepPending
same_logs_keep_pending units it new logs numbers state has same keeps waits = record {
  opens = has.opens;
  apart = has.apart;
  waits = waits;
  among = λ s u page r mine low there.
      has.among s u page r mine low (subst (λ (l : List Record). Contains (l ++ logs u page) r) (same u low) there);
  last = λ s tid u page slot mine low few less.
      ap (λ (l : List Record). last_change tid (l ++ logs u page) page slot) (same u low)
      ∙ has.last s tid u page slot mine low few less;
  nowhere_else = has.nowhere_else;
  none_behind = λ s tid u mine low.
      let live = records_of (it.units u).log in
      subst (NoneIsBehind new.committed tid) (sym (same u low))
      (behind_other it.committed new.committed tid live (has.none_behind s tid u mine low)
      (λ r q r_is q_is its page_is slot_is is.
      sym (All-contains (λ x. new.committed x.tid ≡ it.committed x.tid) live q (keeps u low) q_is) ∙ is));
  valid = λ u low. subst (All (IsRecord VERSION)) (sym (same u low)) (has.valid u low);
  in_memory = has.in_memory;
}
