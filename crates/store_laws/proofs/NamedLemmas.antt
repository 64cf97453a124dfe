-- A page with no name that a session wrote has nothing of it.
use Rattle.std.proofs.Common.{◌≡◌, ◌≢◌, ◌⊎◌, ℕ, ◌<◌, true, false, eqb, List, Option, Some, None, inl, inr, refl, sym, ◌∙◌, ap, subst, arith}
use Rattle.std.specs.List.{All, Contains, filter}
use Rattle.std.proofs.lemmas.Bool.{cases_eq, eq-eqb, not-true}
use Rattle.std.proofs.lemmas.List.Elements.{All-contains, Contains-append_right}
use Rattle.std.proofs.lemmas.Option.{none-some}
use Rattle.ipl_base.specs.Places.{home_of}
use Rattle.ipl_model.specs.State.{State}
use Rattle.ipl_format.specs.Record.{Record}
use Rattle.record_locks.specs.Held.{number_of, written_of}
use Rattle.ipl_meaning.specs.Chart.{Chart}
use Rattle.ipl_meaning.specs.Layout.{Layout, records_of}
use Rattle.ipl_meaning.specs.Tables.{Tables}
use Rattle.ipl_meaning.specs.Last.{last_that}
use Rattle.ipl_meaning.specs.Values.{counts_for}
use Rattle.page_ops.specs.Pending.{seen_by, without_pending}
use Rattle.store_laws.specs.Pending.{SessionNumbers, is_other, name_at, wrote, records_at, IsPending, HasPending, HasOtherNumber}
use Rattle.store_laws.specs.Frames.{PageFrame, Frames, logs_of, AreFramesOf, IsCommittedFrame, IsAbortedFrame, ChangesSo, EachFrameChanges}
use Rattle.store_laws.specs.Fits.{is_active}
use Rattle.store_laws.proofs.ElementLemmas.{all_listed, contains_filter}
use Rattle.store_laws.proofs.EmptyLemmas.{all_kept}
use Rattle.store_laws.proofs.FitLemmas.{wrote_listed}
use Rattle.store_laws.proofs.FollowLemmas.{records_are_writes}
use Rattle.store_laws.proofs.FrameLemmas.{seen_else, drops_else}
use Rattle.store_laws.proofs.LastLemmas.{counted, last_listed}
use Rattle.store_laws.proofs.MemoryLemmas.{valid_at}
use Rattle.store_laws.proofs.SameLemmas.{log_in}
use Rattle.store_laws.specs.NamedFrames.{IsSameOr, NamedFramesChange, NamedAbortsSuffice}

-- where a frame that stayed changed so too, each did
each_changes : (R : PageFrame → PageFrame → Type 0) (names : List ℕ) (old new : Frames)
    → NamedFramesChange R names old new
    → ((u page : ℕ) (a b : PageFrame) → old u page ≡ Some a → new u page ≡ Some b → b ≡ a → R a b)
    → EachFrameChanges R old new
each_changes R names old new change same u page =
    by_frames (old u page) (new u page) refl refl (change.each u page)
  where
    by_frames : (o p : Option PageFrame) → old u page ≡ o → new u page ≡ p
        → ChangesSo (IsSameOr R) o p → ChangesSo R o p
    by_frames None None here then is = tt
    by_frames None (Some b) here then is = absurd is
    by_frames (Some a) None here then is = absurd is
    by_frames (Some a) (Some b) here then (inl is) = same u page a b here then is
    by_frames (Some a) (Some b) here then (inr is) = is

-- a session with its number, and the names among which all are that it wrote
module _ (units : ℕ) (c : Chart) (it : Layout) (t : Tables) (frames : Frames) (numbers : SessionNumbers)
    (state : State) (s tid : ℕ) (names : List ℕ)
    (has : HasPending units it (logs_of frames) numbers state)
    (framed : AreFramesOf units c it (is_active t) frames) (mine : numbers s ≡ Some tid)
    (named : (n : ℕ) → wrote state s n ≡ true → Contains names n) where
  module _ (R : PageFrame → PageFrame → Type 0) (later : Frames)
      (change : NamedFramesChange R names frames later) (u page : ℕ) (a b : PageFrame)
      (here : frames u page ≡ Some a) (then : later u page ≡ Some b) where
    abbrev records : List Record
    records = records_at it (logs_of frames) u page

    abbrev last_here : ℕ → Option Record
    last_here slot = last_that (counts_for (is_active t) page slot) records None

    low : u < units
    low = (framed.within u page a here).0

    -- the page of a name that it wrote changed
    named_here : (slot : ℕ) → slot < 64 → Contains names (name_at u page slot) → R a b
    named_here slot less wrote_it =
        let n = name_at u page slot in
        let few = (framed.within u page a here).1 in
        let unit : (home_of n).unit ≡ u = omega (arith, few, less) in
        let of_page : (home_of n).page ≡ page = omega (arith, few, less) in
        let at_page = subst (λ (q : ℕ). ChangesSo R (frames (home_of n).unit q)
        (later (home_of n).unit q)) of_page (change.named n wrote_it) in
        let at_both : ChangesSo R (frames u page) (later u page) =
        subst (λ (v : ℕ). ChangesSo R (frames v page) (later v page)) unit at_page in
        subst (ChangesSo R (Some a)) then
        (subst (λ (o : Option PageFrame). ChangesSo R o (later u page)) here at_both)

    -- where a record of it is there, the page changed
    its_page : (r : Record) → Contains records r → r.page ≡ page → r.tid ≡ tid → R a b
    its_page r there page_is same =
        let valid = valid_at units it (logs_of frames) numbers state has u page r low there in
        let number = mine ∙ ap (λ (k : ℕ). Some k) (sym same) in
        let is = records_are_writes units it (logs_of frames) numbers state s u page r has number
        low page_is valid there in
        named_here r.slot valid.slot (named (name_at u page r.slot) is)

    -- the page changed, or the last change of a slot is another's
    whose_slot : (slot : ℕ)
        → R a b ⊎ ((r : Record) → last_here slot ≡ Some r → r.tid ≢ tid)
    whose_slot slot = by_last (last_here slot) refl
      where
        by_last : (o : Option Record) → last_here slot ≡ o
            → R a b ⊎ ((r : Record) → last_here slot ≡ Some r → r.tid ≢ tid)
        by_last None is = inr (λ r some. absurd (none-some r (sym is ∙ some)))
        by_last (Some q) is = elim (cases_eq q.tid tid) [
          | inl same ↦
              let test = counts_for (is_active t) page slot in
              let (there, passes) = last_listed test records q is in
              inl (its_page q there (counted (is_active t) page slot q passes).0 same)
          | inr other ↦ inr (λ r some.
              let both : Some q ≡ Some r = sym is ∙ some in
              let one : q ≡ r = cc both in
              subst (λ (k : Record). k.tid ≢ tid) one other)
        ]

    -- all records in memory are others', or the page changed
    others_log : (R a b → a.log ≡ filter (is_other tid) a.log) → All (HasOtherNumber tid) a.log
    others_log dropped = all_listed (HasOtherNumber tid) a.log (λ r there same.
        let log : logs_of frames u page ≡ a.log = ap log_in here in
        let in_memory = subst (λ (l : List Record). Contains l r) (sym log) there in
        let is = All-contains (IsPending numbers page) (logs_of frames u page) r
        (has.in_memory u page) in_memory in
        let listed = Contains-append_right (records_of (it.units u).log) (logs_of frames u page) r
        in_memory in
        let kept = dropped (its_page r listed is.page_is same) in
        let passes = (contains_filter (is_other tid) a.log r
        (subst (λ (l : List Record). Contains l r) kept there)).1 in
        let clash : true ≡ false = sym (eq-eqb r.tid tid same) ∙ not-true (eqb r.tid tid) passes in
        cc clash)

    module _ (same : b ≡ a) where
      -- a slot with another's change keeps it
      pending_same : (slot : ℕ) → slot < 64
          → ((r : Record) → last_here slot ≡ Some r → r.tid ≢ tid)
          → b.pending slot ≡ without_pending tid (a.pending slot)
      pending_same slot less other =
          let was = (framed.each u page a here).changes slot less in
          ap (λ (f : PageFrame). f.pending slot) same ∙ was
          ∙ sym (ap (without_pending tid) was ∙ drops_else tid (last_here slot) other)

      -- and its value
      value_same : (slot : ℕ) → slot < 64
          → ((r : Record) → last_here slot ≡ Some r → r.tid ≢ tid)
          → b.values slot ≡ seen_by tid (a.values slot) (a.pending slot)
      value_same slot less other =
          let was = (framed.each u page a here).changes slot less in
          ap (λ (f : PageFrame). f.values slot) same
          ∙ sym (ap (seen_by tid (a.values slot)) was
          ∙ seen_else tid (a.values slot) (last_here slot) other)

  -- a commit
  pub all_applied : (later : Frames) → NamedFramesChange (IsCommittedFrame tid) names frames later
      → EachFrameChanges (IsCommittedFrame tid) frames later
  all_applied later change = each_changes (IsCommittedFrame tid) names frames later change committed
    where
      committed : (u page : ℕ) (a b : PageFrame) → frames u page ≡ Some a → later u page ≡ Some b
          → b ≡ a → IsCommittedFrame tid a b
      committed u page a b here then same =
          let R = IsCommittedFrame tid in record {
            values = λ slot less. elim (whose_slot R later change u page a b here then slot) [
              | inl did ↦ did.values slot less
              | inr other ↦ value_same R later change u page a b here then same slot less other
            ];
            pending = λ slot less. elim (whose_slot R later change u page a b here then slot) [
              | inl did ↦ did.pending slot less
              | inr other ↦ pending_same R later change u page a b here then same slot less other
            ];
            log = ap (λ (f : PageFrame). f.log) same;
          }

  -- an abort
  all_dropped : (later : Frames) → NamedFramesChange (IsAbortedFrame tid) names frames later
      → EachFrameChanges (IsAbortedFrame tid) frames later
  all_dropped later change = each_changes (IsAbortedFrame tid) names frames later change aborted
    where
      aborted : (u page : ℕ) (a b : PageFrame) → frames u page ≡ Some a → later u page ≡ Some b
          → b ≡ a → IsAbortedFrame tid a b
      aborted u page a b here then same =
          let R = IsAbortedFrame tid in record {
            values = λ slot less. ap (λ (f : PageFrame). f.values slot) same;
            pending = λ slot less. elim (whose_slot R later change u page a b here then slot) [
              | inl did ↦ did.pending slot less
              | inr other ↦ pending_same R later change u page a b here then same slot less other
            ];
            log = ap (λ (f : PageFrame). f.log) same
                ∙ all_kept tid a.log (others_log R later change u page a b here then
                (λ did. sym (ap (λ (f : PageFrame). f.log) same) ∙ did.log));
          }

-- ---- in a store's memory

pub named_aborts_suffice : NamedAbortsSuffice
named_aborts_suffice places c it memory later state s tid fits mine change =
    all_dropped it.count c it memory.tables memory.frames (number_of memory.slots) state s tid
    (written_of memory.slots s) fits.pending fits.framed mine
    (wrote_listed memory.slots state fits.sessions s) later change
