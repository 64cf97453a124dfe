-- A session that wrote nothing: no record is its own, and its commit leaves the records and the map.
use Rattle.std.proofs.Common.{Bool, List, None, Some, [], ap, arith, eqb, false, is_some, refl, subst, suc, sym, true, ℕ, ◌<◌, ◌==◌, ◌∙◌, ◌∷◌, ◌≡◌, ◌≢◌}
use Rattle.std.specs.List.{All, Contains, filter}
use Rattle.std.proofs.lemmas.Bool.{cond-true, eq-eqb, ne_eqb, not_from_false, both_ways}
use Rattle.ipl_model.specs.Operations.{after_abort, after_commit}
use Rattle.ipl_model.specs.State.{State, Write, last_write, with_writes, writes_of}
use Rattle.ipl_format.specs.Record.{Record}
use Rattle.ipl_meaning.specs.Chart.{Chart}
use Rattle.ipl_meaning.specs.Last.{last_that}
use Rattle.ipl_meaning.specs.Layout.{Layout}
use Rattle.ipl_meaning.specs.Values.{Values, counts_for}
use Rattle.page_ops.specs.Pending.{Pendings, seen_by, without_pending}
use Rattle.store_laws.specs.Pending.{Logs, SessionNumbers, is_other, without_number, with_number, name_at, wrote, records_at, HasPending, HasOtherNumber, IsWrittenOut}
use Rattle.store_laws.specs.PendingLaws.{StateHasOneWriter, AreActive}
use Rattle.store_laws.specs.Frames.{IsFrameOf}
use Rattle.store_laws.proofs.PendingCommitLemmas.{aborts_keep_pending}
use Rattle.store_laws.proofs.FollowLemmas.{records_are_writes}
use Rattle.store_laws.proofs.FrameEndLemmas.{aborts_keep_frames}
use Rattle.store_laws.proofs.FrameLemmas.{seen_else}
use Rattle.store_laws.proofs.LastLemmas.{counted, last_listed}
use Rattle.store_laws.proofs.MemoryLemmas.{valid_at}
use Rattle.store_laws.proofs.SameLemmas.{pending_with_logs, frame_as}

-- ---- the map and the records

no_writes : (writes : List Write) → ((n : ℕ) → is_some (last_write writes n) ≡ false) → writes ≡ []
no_writes [] none = refl
no_writes (w ∷ older) none =
    let here = cond-true (w.0 == w.0) (Some w.1) (last_write older w.0) (eq-eqb w.0 w.0 refl) in
    absurd (both_ways (is_some (last_write (w ∷ older) w.0)) (none w.0) (ap is_some here))

-- its commit leaves the map
pub empty_map : (state : State) (s : ℕ) → ((n : ℕ) → wrote state s n ≡ false)
    → (after_commit state s).map ≡ state.map
empty_map state s none =
    ap (λ (writes : List Write). with_writes writes state.map) (no_writes (writes_of state s) none)

-- so it is an abort
commit_aborts : (state : State) (s : ℕ) → ((n : ℕ) → wrote state s n ≡ false)
    → after_abort state s ≡ after_commit state s
commit_aborts state s none =
    ap (λ m. record { map = m; sessions = (after_abort state s).sessions }) (sym (empty_map state s none))

-- what isn't there isn't dropped
pub all_kept : (tid : ℕ) (l : List Record) → All (HasOtherNumber tid) l → l ≡ filter (is_other tid) l
all_kept tid [] others = refl
all_kept tid (r ∷ l) others =
    let first : is_other tid r ≡ true =
    not_from_false (eqb r.tid tid) (ne_eqb r.tid tid (others 0 r (omega arith))) in
    rw first (ap (λ (k : List Record). r ∷ k) (all_kept tid l (λ k d low. others (suc k) d (omega (arith, low)))))

-- ---- pending records and frames

module _ (units : ℕ) (it : Layout) (logs : Logs) (numbers : SessionNumbers) (state : State) (s tid : ℕ)
    (has : HasPending units it logs numbers state) (mine : numbers s ≡ Some tid) (out : IsWrittenOut logs tid)
    (none : (n : ℕ) → wrote state s n ≡ false) where
  -- none of the records is its own
  not_its : (u page : ℕ) (r : Record) → u < units → Contains (records_at it logs u page) r → r.page ≡ page
      → r.tid ≢ tid
  not_its u page r low there page_is same =
      let valid = valid_at units it logs numbers state has u page r low there in
      let number = mine ∙ ap (λ (k : ℕ). Some k) (sym same) in
      let is = records_are_writes units it logs numbers state s u page r has number low page_is valid there in
      both_ways (wrote state s (name_at u page r.slot)) (none (name_at u page r.slot)) is

  not_last : (active : ℕ → Bool) (u page slot : ℕ) → u < units → (r : Record)
      → last_that (counts_for active page slot) (records_at it logs u page) None ≡ Some r → r.tid ≢ tid
  not_last active u page slot low r is =
      let (there, passes) = last_listed (counts_for active page slot) (records_at it logs u page) r is in
      not_its u page r low there (counted active page slot r passes).0

  none_dropped : (u page : ℕ) → without_number logs tid u page ≡ logs u page
  none_dropped u page = sym (all_kept tid (logs u page) (out u page))

  -- after its commit the records of the others wait on
  pub empty_pending : HasPending units it logs (with_number numbers s None) (after_commit state s)
  empty_pending =
      subst (λ (later : State). HasPending units it logs (with_number numbers s None) later)
      (commit_aborts state s none)
      (pending_with_logs units it (without_number logs tid) logs (with_number numbers s None) (after_abort state s)
      none_dropped (aborts_keep_pending units it logs numbers state s tid has mine))

  -- and each frame is of its page, though the session's changes become values, of which there are none
  pub empty_frame : (c : Chart) (active rest : ℕ → Bool) (u page : ℕ) (values : Values) (pending : Pendings)
      → StateHasOneWriter state → AreActive numbers active → AreActive (with_number numbers s None) rest → u < units
      → page < 15 → IsFrameOf c it logs active u page values pending
      → IsFrameOf c it logs rest u page (λ slot. seen_by tid (values slot) (pending slot))
      (λ slot. without_pending tid (pending slot))
  empty_frame c active rest u page values pending one tells later low few framed =
      frame_as c it (without_number logs tid) logs rest u page values (λ slot. seen_by tid (values slot) (pending slot))
      (λ slot. without_pending tid (pending slot)) (λ slot. without_pending tid (pending slot)) (none_dropped u page)
      (λ slot less.
      let o = last_that (counts_for active page slot) (records_at it logs u page) None in
      ap (seen_by tid (values slot)) (framed.changes slot less)
      ∙ seen_else tid (values slot) o (not_last active u page slot low))
      (λ slot less. refl)
      (aborts_keep_frames units c it logs numbers state active rest s tid u page values pending has one tells later mine
      low few framed)
