-- What a commit makes of the memory of a store and of its chip.
use Rattle.std.proofs.Common.{◌≡◌, ℕ, ◌<◌, ◌≤◌, ◌+◌, ◌*◌, ◌^◌, Bool, true, false, [], List, length, All, Result, Ok, Err, OnOk, inr, refl, sym, ◌∙◌, ap, subst, arith}
use Rattle.chip_trait.specs.Told.{Told}
use Rattle.chip_trait.proofs.CountsLemmas.{counts_none}
use Rattle.ipl_base.specs.declared.fault.ChipFault.{ChipFault}
use Rattle.ipl_model.specs.Operations.{after_batch}
use Rattle.ipl_model.specs.State.{State}
use Rattle.record_locks.specs.Held.{numbers_in, written_by, writer_numbers, SessionSlots}
use Rattle.record_locks.specs.Held.{after_batch as slots_after}
use Rattle.record_locks.proofs.BatchLemmas.{batch_slots}
use Rattle.ipl_meaning.specs.Tables.{Places, StatusTable, Tables, IsCountedClean}
use Rattle.ipl_meaning.specs.TableSteps.{after_commit as after_commit_of}
use Rattle.selective_merge.specs.Known.{KnowsPlaces}
use Rattle.selective_merge.proofs.KnownCleanLemmas.{commit_shrinks}
use Rattle.place_taking.proofs.CountedLemmas.{keeps_counts}
use Rattle.place_taking.specs.Spending.{tells_worn}
use Rattle.place_taking.specs.Wear.{TellsOfWear}
use Rattle.place_taking.proofs.HomeLemmas.{homes_equal}
use Rattle.place_taking.proofs.WearLemmas.{alike_tables, failures_wear, nothing_wears, programs_leave_places, programs_wear_nothing}
use Rattle.unit_io.specs.Costs.{Spends}
use Rattle.unit_io.specs.Spots.{Programs, IsSpot}
use Rattle.unit_io.specs.Steps.{Settled, Tidies}
use Rattle.unit_io.proofs.TablesLemmas.{tables_none, tables_fewer, tables_programmed}
use Rattle.unit_io.specs.Accounts.{Accounts}
use Rattle.unit_io.specs.Charts.{Charts}
use Rattle.unit_io.specs.Leads.{IsStopped}
use Rattle.txn_status.proofs.RoomLemmas.{room_left}
use Rattle.txn_status.specs.Adding.{KeepsFirstAt}
use Rattle.txn_status.specs.Status.{after_add, room_of}
use Rattle.buffer_pool.specs.Holding.{KeepsPins}
use Rattle.buffer_pool.specs.Pools.{PoolView}
use Rattle.buffer_pool.proofs.HoldingLemmas.{nothing_keeps}
use Rattle.store_laws.specs.Frames.{EachFrameChanges}
use Rattle.store_laws.specs.Fits.{LocksHold}
use Rattle.store_laws.specs.Advances.{Memory, memory_of, LeadsTo}
use Rattle.store_laws.specs.NamedFrames.{ApplyInTurn}
use Rattle.store_laws.specs.Numbers.{IsOut, added_to, AddsNumbers, AddsNumbersInSteps}
use Rattle.store_laws.specs.Refusals.{AreOpenSessions}
use Rattle.store_laws.specs.SessionLaws.{with_numbers_of}
use Rattle.store_laws.proofs.CommitLemmas.{numbers_lead, failed_numbers_lead}
use Rattle.store_laws.proofs.SessionLemmas.{empty_commits_lead}
use Rattle.page_frames.specs.Views.{frames_of}
use Rattle.page_frames.specs.declared.pages.Pages.{Pages}
use Rattle.page_frames.specs.Pages.{tables_in, frames_in, PageCause, Upholds}
use Rattle.ipl_store.specs.declared.transactions.Transactions.{Transactions}
use Rattle.ipl_store.specs.Adding.{WritesCommit}
use Rattle.ipl_store.specs.Turns.{memory_in, IsInOrder, MayAddNumbers, Turns, IsSameButActive}
use Rattle.ipl_store.proofs.OrderLemmas.{changed_had, same_had, still_ready, memory_is}
use Rattle.ipl_store.proofs.FramedLemmas.{StaysFramed, in_turn_stays}
use Rattle.ipl_store.proofs.TurnLemmas.{upheld_then, upheld_no_more, turns_weaker}

-- A commit sector was programmed, the first clean one of the status place: it isn't counted as clean
-- then, and no other sector is that wasn't before.
number_tidy : (places : ℕ) (t after : Tables) (done : Bool) (result : Result (Unit {0}) ChipFault)
    (old new : Told) → KnowsPlaces places t → 0 < room_of t.status
    → (Settled result old new → (q s : ℕ) → IsCountedClean after q s
    → IsCountedClean (after_commit_of t [] 0 []) q s)
    → Spends (Programs t.status.place (IsSpot t.status.first) done) old new
    → Tidies t result after old new
number_tidy places t after done result old new known room fewer =
    tables_programmed t after t.status.place (IsSpot t.status.first) done result old new
    (λ s at. (omega (arith, at, (room_left t.status room).0), inr (inr (refl, omega (arith, at)))))
    (λ end q s counted.
    let was = commit_shrinks places t known [] [] 0 q s (fewer end q s counted) in
    (was.0, λ here spot. was.1 here spot))

-- it fails only where a write failed, which is a cause of any call on pages
stopped_accounts : (then : Places) (before after : Told) (result : Result (Unit {0}) ChipFault)
    → Accounts IsStopped result before after → Accounts (PageCause then) result before after
stopped_accounts then before after (Ok v) did = record { counts = did.counts; cause = tt }
stopped_accounts then before after (Err e) did = record {
  counts = did.counts;
  cause = subst (λ (f : ChipFault). PageCause then f before after) (sym did.cause.0) did.cause.1;
}

-- the numbers of sessions were added, and their changes are values
pub numbers_added : (ss tids : List ℕ) (old new : Transactions) (added : Pages)
    (before after : Told)
    → IsInOrder before.places old → AreOpenSessions old.sessions ss → MayAddNumbers old ss
    → tids ≡ writer_numbers old.sessions ss
    → Charts (AddsNumbers before.places old.pages.parts.status old.pages.parts.counter tids) before
    after
    → AddsNumbersInSteps before.places old.pages.parts.status old.pages.parts.counter tids (Ok tt)
    before after
    → added.parts.directory ≡ old.pages.parts.directory
    → added.parts.overflow ≡ old.pages.parts.overflow
    → added.parts.status ≡ after_add old.pages.parts.status tids
    → added.parts.counter ≡ old.pages.parts.counter + 1
    → ApplyInTurn old.sessions ss (frames_in old.pages) (frames_of added.pool)
    → KeepsPins old.pages.pool added.pool
    → IsSameButActive added new.pages
    → new.sessions ≡ slots_after old.sessions ss
    → new.pages.parts.active ≡ numbers_in new.sessions → LocksHold new.sessions
    → WritesCommit old.pages.parts.status.place old.pages.parts.status.first (Ok tt) before after
    → Charts (KeepsFirstAt old.pages.parts.status.place) before after
    → Turns (λ state. after_batch state ss) 1 old before (Ok (tt {0})) new after
numbers_added ss tids old new added before after order are may writers adds steps directory overflow
    status counter applied pins rest slots active locks wrote header =
    let ended = slots_after old.sessions ss in
    let stands = old.pages.parts.status in
    let next = old.pages.parts.counter in
    let locked : LocksHold ended = subst LocksHold slots locks in
    let t = added_to (tables_in old.pages) tids ended in
    let pins_then = subst (KeepsPins old.pages.pool) (sym rest.pool) pins in
    let same = memory_is t (frames_of added.pool) ended new (record {
      places = rest.directory ∙ directory;
      overflow = rest.overflow ∙ overflow;
      status = rest.status ∙ status;
      next = omega (arith, rest.counter, counter);
      active = active ∙ ap numbers_in slots;
      frames_are = ap frames_of rest.pool;
      slots_are = slots;
    }) in
    let leads_on : LeadsTo {T = Unit {0}} {E = ChipFault} (λ state. after_batch state ss)
    (memory_in old) before (Ok tt) (memory_of t (frames_of added.pool) ended) after =
    subst (λ (l : List ℕ). Charts (AddsNumbers before.places stands next l) before after
    → AddsNumbersInSteps before.places stands next l (Ok tt) before after
    → LeadsTo {T = Unit {0}} {E = ChipFault} (λ state. after_batch state ss) (memory_in old) before
    (Ok tt) (memory_of (added_to (tables_in old.pages) l ended) (frames_of added.pool) ended) after)
    (sym writers) (λ adding in_steps. numbers_lead ss (memory_in old) (frames_of added.pool) before
    after are may.out adding in_steps applied locked) adds steps in record {
      leads = subst (λ (m : Memory). LeadsTo {T = Unit {0}} {E = ChipFault}
          (λ state. after_batch state ss) (memory_in old) before (Ok tt) m after) same leads_on;
      tidy = number_tidy before.places (tables_in old.pages) (tables_in new.pages) true (Ok tt) before
          after order.ready.known may.room
          (λ end q n counted. subst (λ (m : Memory). IsCountedClean m.tables q n) (sym same) counted)
          wrote.tidy;
      wears = programs_wear_nothing (tables_in old.pages) (tables_in new.pages) true false before after
          (alike_tables (tables_in old.pages) (tables_in new.pages) (rest.directory ∙ directory)
          (ap (λ (it : StatusTable). it.place) (rest.status ∙ status)))
          (programs_leave_places (tables_in old.pages).places (tables_in new.pages).places stands.place 1 2
          6 before after (ap (λ (d : Places). d.retired) (rest.directory ∙ directory))
          (homes_equal (tables_in old.pages).places (tables_in new.pages).places
          (rest.directory ∙ directory))
          (keeps_counts (tables_in old.pages).places (tables_in new.pages).places (rest.directory ∙ directory)) wrote.costs)
          (λ done. header);
      order = record {
        ready = still_ready before.places old.pages new.pages (record {
          places = rest.directory ∙ directory;
          overflow = rest.overflow ∙ overflow;
          status = ap (λ (it : StatusTable). it.place) (rest.status ∙ status);
        }) pins_then
            (changed_had StaysFramed old.pages new.pages
            (subst (λ (p : PoolView). EachFrameChanges StaysFramed (frames_in old.pages)
            (frames_of p)) (sym rest.pool)
            (in_turn_stays old.sessions ss (frames_in old.pages) (frames_of added.pool) are.opens
            applied))) order.ready;
        active = active;
      };
      units = ap (λ (it : Places). length it.current) (rest.directory ∙ directory);
      sessions = ap (λ (v : SessionSlots). length v) slots ∙ batch_slots old.sessions ss;
      numbers = ap (λ (it : StatusTable). it.most) (rest.status ∙ status);
      pins = pins_then;
      least = omega (arith, rest.counter, counter);
      drawn = omega (arith, rest.counter, counter);
      accounts = stopped_accounts new.pages.parts.directory before after (Ok tt) wrote.accounts;
    }

-- they weren't added
pub numbers_not_added : (ss tids : List ℕ) (e : ChipFault) (old new : Transactions)
    (before after : Told)
    → IsInOrder before.places old → AreOpenSessions old.sessions ss → MayAddNumbers old ss
    → tids ≡ writer_numbers old.sessions ss
    → AddsNumbersInSteps before.places old.pages.parts.status old.pages.parts.counter tids (Err e)
    before after
    → new.sessions ≡ old.sessions → new.pages.pool ≡ old.pages.pool
    → new.pages.parts.directory ≡ old.pages.parts.directory
    → new.pages.parts.overflow ≡ old.pages.parts.overflow
    → new.pages.parts.status ≡ old.pages.parts.status
    → new.pages.parts.active ≡ old.pages.parts.active
    → (old.pages.parts.counter ≤ new.pages.parts.counter)
    × (new.pages.parts.counter ≤ old.pages.parts.counter + 1)
    → WritesCommit old.pages.parts.status.place old.pages.parts.status.first (Err e) before after
    → Turns {T = Unit {0}} (λ state. after_batch state ss) 1 old before (Err e) new after
numbers_not_added ss tids e old new before after order are may writers steps sessions pool directory
    overflow status active draws wrote =
    let accounts = wrote.accounts in
    let pins = subst (KeepsPins old.pages.pool) (sym pool) (nothing_keeps old.pages.pool) in record {
      leads = failed_numbers_lead ss (memory_in old) (memory_in new) e e before after are may.out
          (subst (λ (l : List ℕ). AddsNumbersInSteps before.places old.pages.parts.status
          old.pages.parts.counter l (Err e) before after) writers steps) accounts.cause;
      tidy = number_tidy before.places (tables_in old.pages) (tables_in new.pages) false (Err e)
          before after order.ready.known may.room
          (λ unrisen. absurd (omega (arith, accounts.cause.1, unrisen))) wrote.tidy;
      wears = subst (λ (f : ChipFault). TellsOfWear (tables_in old.pages) (tables_in new.pages) false
          (tells_worn f) before after) (sym accounts.cause.0)
          (failures_wear (tables_in old.pages) (tables_in new.pages) false before after
          (programs_leave_places (tables_in old.pages).places (tables_in new.pages).places
          old.pages.parts.status.place 1 2 6 before after (ap (λ (d : Places). d.retired) directory)
          (homes_equal (tables_in old.pages).places (tables_in new.pages).places directory)
          (keeps_counts (tables_in old.pages).places (tables_in new.pages).places directory) wrote.costs));
      order = record {
        ready = still_ready before.places old.pages new.pages (record {
          places = directory;
          overflow = overflow;
          status = ap (λ (it : StatusTable). it.place) status;
        }) pins (same_had old.pages new.pages (ap frames_of pool)) order.ready;
        active = active ∙ order.active ∙ ap numbers_in (sym sessions);
      };
      units = ap (λ (it : Places). length it.current) directory;
      sessions = ap (λ (v : SessionSlots). length v) sessions;
      numbers = ap (λ (it : StatusTable). it.most) status;
      pins = pins;
      least = draws.0;
      drawn = draws.1;
      accounts = stopped_accounts new.pages.parts.directory before after (Err e) accounts;
    }

-- the names' pages were written out, where a clean sector was made sure of before
pub may_add : (ss : List ℕ) (mid : Pages) (new : Transactions) (result : Result (Unit {0}) ChipFault)
    → OnOk result (All (IsOut (frames_in new.pages)) (written_by new.sessions ss))
    → 0 < room_of mid.parts.status → new.pages.parts.status ≡ mid.parts.status
    → OnOk result (MayAddNumbers new ss)
may_add ss mid new (Ok v) out room same = record {
  out = out;
  room = subst (λ (status : StatusTable). 0 < room_of status) (sym same) room;
}
may_add ss mid new (Err e) out room same = tt

-- other open sessions: the same sectors are counted as clean
active_counted : (old new : Pages) → IsSameButActive old new → (p s : ℕ)
    → IsCountedClean (tables_in new) p s → IsCountedClean (tables_in old) p s
active_counted old new rest p s counted =
    subst (λ (t : Tables). IsCountedClean t p s)
    (λ i. record {
      places = rest.directory i;
      overflow = rest.overflow i;
      status = rest.status i;
      next = new.parts.counter;
      active = new.parts.active;
    }) counted

-- ---- all of a commit

-- the sessions wrote nothing
pub empty_committed : (ss : List ℕ) (most : ℕ) (old new : Transactions) (told : Told)
    → IsInOrder told.places old → AreOpenSessions old.sessions ss
    → written_by old.sessions ss ≡ [] → IsSameButActive old.pages new.pages
    → new.sessions ≡ slots_after old.sessions ss
    → new.pages.parts.active ≡ numbers_in new.sessions → LocksHold new.sessions
    → Turns {T = Unit {0}} (λ state. after_batch state ss) most old told (Ok tt) new told
empty_committed ss most old new told order are none rest slots active locks =
    let ended = slots_after old.sessions ss in
    let locked : LocksHold ended = subst LocksHold slots locks in
    let pins = subst (KeepsPins old.pages.pool) (sym rest.pool) (nothing_keeps old.pages.pool) in
    record {
      leads = subst (λ (m : Memory). LeadsTo {T = Unit {0}} {E = ChipFault}
          (λ state. after_batch state ss) (memory_in old) told (Ok tt) m told)
          (memory_is (with_numbers_of (tables_in old.pages) ended) (frames_in old.pages) ended new
          (record {
            places = rest.directory;
            overflow = rest.overflow;
            status = rest.status;
            next = rest.counter;
            active = active ∙ ap numbers_in slots;
            frames_are = ap frames_of rest.pool;
            slots_are = slots;
          }))
          (empty_commits_lead ss (memory_in old) told are none locked);
      tidy = tables_fewer {T = Unit {0}} {E = ChipFault} (tables_in old.pages) (tables_in old.pages) (tables_in new.pages) (Ok tt)
          told told (λ q n counted. active_counted old.pages new.pages rest q n counted)
          (tables_none {T = Unit {0}} {E = ChipFault} (tables_in old.pages) (Ok tt) told);
      wears = nothing_wears (tables_in old.pages) (tables_in new.pages) true told
          (alike_tables (tables_in old.pages) (tables_in new.pages) rest.directory (ap (λ (it : StatusTable). it.place) rest.status));
      order = record {
        ready = still_ready told.places old.pages new.pages (record {
          places = rest.directory;
          overflow = rest.overflow;
          status = ap (λ (it : StatusTable). it.place) rest.status;
        }) pins (same_had old.pages new.pages (ap frames_of rest.pool)) order.ready;
        active = active;
      };
      units = ap (λ (d : Places). length d.current) rest.directory;
      sessions = ap (λ (v : SessionSlots). length v) slots ∙ batch_slots old.sessions ss;
      numbers = ap (λ (it : StatusTable). it.most) rest.status;
      pins = pins;
      least = omega (arith, rest.counter);
      drawn = omega (arith, rest.counter);
      accounts = record { counts = counts_none told; cause = tt };
    }

-- the most numbers that are drawn before the sessions' numbers are added
abbrev pub BEFORE_NUMBERS : ℕ
BEFORE_NUMBERS = 2 ^ 14 + 14 * 64

-- their records were written out, and then their numbers were added, or not
pub committed : (ss : List ℕ) (old mid new : Transactions) (result : Result (Unit {0}) ChipFault)
    (before between after : Told)
    → Upholds BEFORE_NUMBERS old.pages before (Ok (tt {0})) mid.pages between
    → mid.sessions ≡ old.sessions
    → Turns (λ state. after_batch state ss) 1 mid between result new after
    → Turns (λ state. after_batch state ss) (2 ^ 15) old before result new after
committed ss old mid new result before between after did same turns =
    let next = λ (state : State). after_batch state ss in
    turns_weaker next (BEFORE_NUMBERS + 1) (2 ^ 15) old new result before after (omega arith)
    (upheld_then next BEFORE_NUMBERS 1 old mid new result before between after did same turns)

-- they weren't
pub not_committed : (ss : List ℕ) (old new : Transactions) (e : ChipFault) (before after : Told)
    → IsInOrder before.places old
    → Upholds {T = Unit {0}} BEFORE_NUMBERS old.pages before (Err e) new.pages after
    → new.sessions ≡ old.sessions
    → Turns {T = Unit {0}} (λ state. after_batch state ss) (2 ^ 15) old before (Err e) new after
not_committed ss old new e before after order did same =
    let next = λ (state : State). after_batch state ss in
    turns_weaker next BEFORE_NUMBERS (2 ^ 15) old new (Err e) before after (omega arith)
    (upheld_no_more next BEFORE_NUMBERS old new e before after order did same)
