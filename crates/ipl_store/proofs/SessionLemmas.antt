-- What calls in memory make of the memory of a store.
use Rattle.std.proofs.Common.{◌≡◌, ℕ, zero, suc, ◌<◌, ◌+◌, Bool, true, false, [], ◌∷◌, ◌++◌, List, All, map, length, Some, None, refl, sym, ◌∙◌, ap, subst, arith, slice_set, if◌then◌else◌, ◌≤◌}
use Rattle.std.specs.Option.{option_map}
use Rattle.ipl_base.specs.declared.name.Name.{Name}
use Rattle.ipl_model.specs.Operations as rules
use Rattle.record_locks.specs.Held.{Held, SessionSlots, held_at, number_of, numbers_in, written_of, is_among, raised, with_written, with_shared, after_begin, after_share, after_write, after_end}
use Rattle.record_locks.proofs.BatchLemmas.{calls_keep_slots}
use Rattle.record_locks.specs.Locks.{refuses_begin, OneWriter, FewPending, IsSized}
use Rattle.buffer_pool.specs.Holding.{KeepsPins}
use Rattle.buffer_pool.specs.Pools.{PoolView}
use Rattle.buffer_pool.proofs.HoldingLemmas.{nothing_keeps}
use Rattle.store_laws.specs.Frames.{EachFrameChanges, IsAbortedFrame}
use Rattle.store_laws.specs.Fits.{LocksHold}
use Rattle.store_laws.specs.NamedFrames.{NamedFramesChange, IsSameOr}
use Rattle.store_laws.specs.SessionLaws.{with_numbers_of}
use Rattle.store_laws.proofs.SessionLemmas.{begins_lead, shares_lead, aborts_lead}
use Rattle.page_frames.specs.Views.{frames_of}
use Rattle.page_frames.specs.declared.pages.Pages.{Pages}
use Rattle.page_frames.specs.Pages.{tables_in, frames_in}
use Rattle.ipl_store.specs.declared.transactions.Transactions.{Transactions}
use Rattle.ipl_store.specs.Turns.{memory_in, TurnsInMemory, IsSameButActive}
use Rattle.ipl_store.proofs.OrderLemmas.{changed_had, same_had, turned_in_memory}
use Rattle.ipl_store.proofs.OpenLemmas.{begins_unnumbered}

pub locks_of : (slots : SessionSlots) → length slots ≤ 32 → OneWriter slots → All IsSized slots
    → FewPending slots → LocksHold slots
locks_of slots all one sized few =
    record { all = all; one_writer = one; sized = sized; few = few }

-- a session that shares a name, or writes one, has the number that it had
numbers_stay : (change : Held → Held) → ((h : Held) → (change h).number ≡ h.number)
    → (slots : SessionSlots) (s : ℕ)
    → numbers_in (slice_set slots s (option_map change (held_at slots s))) ≡ numbers_in slots
numbers_stay change same [] s = refl
numbers_stay change same (None ∷ slots) zero = refl
numbers_stay change same (Some h ∷ slots) zero =
    ap (λ (n : ℕ). n ∷ numbers_in slots) (same h)
numbers_stay change same (None ∷ slots) (suc s) = numbers_stay change same slots s
numbers_stay change same (Some h ∷ slots) (suc s) =
    ap (λ (l : List ℕ). h.number ∷ l) (numbers_stay change same slots s)

shared_number : (n : ℕ) (h : Held) → (with_shared n h).number ≡ h.number
shared_number n h = by_tests (is_among n h.written) (is_among n h.shared)
  where
    by_tests : (a b : Bool) → (if a then h else if b then h
        else record h { shared = h.shared ++ n ∷ [] }).number ≡ h.number
    by_tests true b = refl
    by_tests false true = refl
    by_tests false false = refl

written_number : (n size : ℕ) (h : Held) → (with_written n size h).number ≡ h.number
written_number n size h = by_test (is_among n h.written)
  where
    by_test : (a : Bool) → (if a then record h { sizes = raised h.written h.sizes n size }
        else record h { written = h.written ++ n ∷ []; sizes = h.sizes ++ size ∷ [] }).number
        ≡ h.number
    by_test true = refl
    by_test false = refl

shares_keep_numbers : (slots : SessionSlots) (s n : ℕ)
    → numbers_in (after_share slots s n) ≡ numbers_in slots
shares_keep_numbers slots s n = numbers_stay (with_shared n) (shared_number n) slots s

pub writes_keep_numbers : (slots : SessionSlots) (s n size : ℕ)
    → numbers_in (after_write slots s n size) ≡ numbers_in slots
writes_keep_numbers slots s n size =
    numbers_stay (with_written n size) (written_number n size) slots s

-- ---- a session is opened

pub begun : (s : ℕ) (old new : Transactions) → s < length old.sessions → refuses_begin old.sessions s ≡ None
    → new.sessions ≡ after_begin old.sessions s old.pages.parts.counter
    → LocksHold new.sessions
    → new.pages.parts.directory ≡ old.pages.parts.directory
    → new.pages.parts.overflow ≡ old.pages.parts.overflow
    → new.pages.parts.status ≡ old.pages.parts.status
    → new.pages.parts.counter ≡ old.pages.parts.counter + 1
    → new.pages.parts.active ≡ numbers_in new.sessions → new.pages.pool ≡ old.pages.pool
    → TurnsInMemory (λ state. rules.after_begin state s) old new
begun s old new low closed slots locks directory overflow status counter active pool =
    let tid = old.pages.parts.counter in
    let after = after_begin old.sessions s tid in
    let locked : LocksHold after = subst LocksHold slots locks in
    let before = tables_in old.pages in
    turned_in_memory (λ state. rules.after_begin state s) old new
    (with_numbers_of (record before { next = tid + 1 }) after) (frames_in old.pages) after
    (record {
      places = directory;
      overflow = overflow;
      status = status;
      next = counter;
      active = active ∙ ap numbers_in slots;
      frames_are = ap frames_of pool;
      slots_are = slots;
    })
    ((calls_keep_slots old.sessions s).begins tid)
    (record { places = refl; overflow = refl; status = refl }) refl (λ p s counted. counted)
    (subst (KeepsPins old.pages.pool) (sym pool) (nothing_keeps old.pages.pool))
    (same_had old.pages new.pages (ap frames_of pool)) (λ had. refl)
    (λ told. begins_lead s tid (memory_in old) told
    low
    (begins_unnumbered old.sessions s closed) (omega arith) locked)

-- ---- a session shares a name

pub shared : (s n : ℕ) (old new : Transactions) → s < length old.sessions
    → new.sessions ≡ after_share old.sessions s n → LocksHold new.sessions
    → new.pages ≡ old.pages
    → TurnsInMemory (λ state. rules.after_share state s n) old new
shared s n old new low slots locks pages =
    let after = after_share old.sessions s n in
    let locked : LocksHold after = subst LocksHold slots locks in
    turned_in_memory (λ state. rules.after_share state s n) old new (tables_in old.pages)
    (frames_in old.pages) after
    (record {
      places = ap (λ (p : Pages). p.parts.directory) pages;
      overflow = ap (λ (p : Pages). p.parts.overflow) pages;
      status = ap (λ (p : Pages). p.parts.status) pages;
      next = ap (λ (p : Pages). p.parts.counter) pages;
      active = ap (λ (p : Pages). p.parts.active) pages;
      frames_are = ap frames_in pages;
      slots_are = slots;
    })
    ((calls_keep_slots old.sessions s).shares n)
    (record { places = refl; overflow = refl; status = refl }) refl (λ p s counted. counted)
    (subst (λ (p : Pages). KeepsPins old.pages.pool p.pool) (sym pages)
    (nothing_keeps old.pages.pool))
    (same_had old.pages new.pages (ap frames_in pages))
    (λ had. had ∙ sym (shares_keep_numbers old.sessions s n))
    (λ told. shares_lead s n (memory_in old) told low locked)

-- ---- a session is aborted

pub aborted : (s tid : ℕ) (names : List Name) (old new : Transactions) (pool : PoolView)
    → s < length old.sessions → number_of old.sessions s ≡ Some tid
    → map (λ (n : Name). n.0) names ≡ written_of old.sessions s
    → NamedFramesChange (IsAbortedFrame tid) (map (λ (n : Name). n.0) names)
    (frames_of old.pages.pool) (frames_of pool)
    → KeepsPins old.pages.pool pool
    → IsSameButActive (record { parts = old.pages.parts; pool = pool }) new.pages
    → new.sessions ≡ after_end old.sessions s
    → new.pages.parts.active ≡ numbers_in new.sessions → LocksHold new.sessions
    → TurnsInMemory (λ state. rules.after_abort state s) old new
aborted s tid names old new pool low mine written dropped pins rest slots active locks =
    let after = after_end old.sessions s in
    let locked : LocksHold after = subst LocksHold slots locks in
    let change : NamedFramesChange (IsAbortedFrame tid) (written_of old.sessions s)
    (frames_in old.pages) (frames_of pool) =
    subst (λ (l : List ℕ). NamedFramesChange (IsAbortedFrame tid) l (frames_in old.pages)
    (frames_of pool)) written dropped in
    turned_in_memory (λ state. rules.after_abort state s) old new
    (with_numbers_of (tables_in old.pages) after) (frames_of pool) after
    (record {
      places = rest.directory;
      overflow = rest.overflow;
      status = rest.status;
      next = rest.counter;
      active = active ∙ ap numbers_in slots;
      frames_are = ap frames_of rest.pool;
      slots_are = slots;
    })
    (calls_keep_slots old.sessions s).ends
    (record { places = refl; overflow = refl; status = refl }) refl (λ p s counted. counted)
    (subst (KeepsPins old.pages.pool) (sym rest.pool) pins)
    (changed_had (IsSameOr (IsAbortedFrame tid)) old.pages new.pages
    (subst (λ (p : PoolView). EachFrameChanges (IsSameOr (IsAbortedFrame tid))
    (frames_in old.pages) (frames_of p)) (sym rest.pool) change.each))
    (λ had. refl)
    (λ told. aborts_lead s tid (memory_in old) (frames_of pool) told
    low mine change locked)
