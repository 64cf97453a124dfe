-- What a put of a store leaves, however it ends.
use Rattle.std.proofs.Common.{◌≡◌, ℕ, ◌≤◌, ◌+◌, true, false, List, length, Option, Some, None, Result, Ok, Err, IfErr, OnOk, IsSome, inl, refl, sym, ◌∙◌, ap, subst, arith}
use Rattle.std.specs.Prelude.{[], ◌∷◌, Bool, OnErr}
use Rattle.std.proofs.lemmas.Bool.{false≢true}
use Rattle.chip_trait.specs.Told.{Told}
use Rattle.ipl_base.specs.declared.fault.ChipFault.{ChipFault}
use Rattle.ipl_base.specs.declared.fault.StoreFault.{StoreFault}
use Rattle.ipl_base.specs.declared.fault.StoreFault.TheVariants.{Chip}
use Rattle.ipl_base.specs.declared.limits.TheConstants.{VALUE_LEN}
use Rattle.ipl_base.specs.Places.{home_of}
use Rattle.ipl_format.specs.Record.{Change}
use Rattle.ipl_meaning.specs.Last.{size_of_all}
use Rattle.ipl_model.specs.Operations.{after_write}
use Rattle.ipl_model.specs.State.{State}
use Rattle.record_locks.specs.Held.{SessionSlots, peaks_in, numbers_in}
use Rattle.unit_io.specs.Costs.{Costs, Spends}
use Rattle.buffer_pool.specs.Holding.{KeepsPins}
use Rattle.buffer_pool.specs.Uses.{IsUsedLast}
use Rattle.buffer_pool.proofs.HoldingLemmas.{nothing_keeps, both_keep}
use Rattle.place_taking.specs.Spending.{is_worn_out, tells_worn}
use Rattle.selective_merge.specs.declared.parts.Parts.{Parts}
use Rattle.selective_merge.specs.Moving.{tables_of}
use Rattle.selective_merge.specs.Spotting.{HasHomeSpot}
use Rattle.page_frames.specs.Spending.{ErasesAndLogs}
use Rattle.store_laws.specs.Frames.{PageFrame, Frames}
use Rattle.store_laws.specs.Room.{overfills_at}
use Rattle.store_laws.specs.Advances.{memory_of, LeadsTo}
use Rattle.store_laws.specs.Refusals.{sessions_refuse_put}
use Rattle.page_frames.specs.Pages.{tables_in, frames_in, IsFramed, KeepsFramedFor}
use Rattle.page_frames.proofs.AskLemmas.{one_of_none}
use Rattle.page_frames.proofs.UseLemmas.{none_leaves, framed_then}
use Rattle.ipl_store.specs.declared.transactions.Transactions.{Transactions}
use Rattle.ipl_store.specs.Costs.{HasRoomFor, AsksToWrite}
use Rattle.ipl_store.specs.Turns.{memory_in, CompletesFor, TellsFaultsForThen, Turns}
use Rattle.ipl_store.specs.declared.store.Store.{Store}
use Rattle.ipl_store.specs.Calls.{counter_of, ends_worn_out, tells_wear, IsSound, EndsAs, KeepsHolds, Calls, limits_of_store}
use Rattle.ipl_store.specs.Puts.{found_room, put_fault, put_next, TellsRoom, HasBrought, BringsPageOf, PutsBy}
use Rattle.ipl_store.specs.Shown.{Fetches, AsksFor, CostsOnePage, IsUsedLastIn}
use Rattle.ipl_store.proofs.BroughtLemmas.{moves_then}
use Rattle.ipl_store.proofs.CallLemmas.{calls_as, calls_fail_as, calls_refused, early_unworn, failed_calls, let_in_calls, moved_calls}
use Rattle.ipl_store.proofs.RoomLemmas.{early_found, chip_found, full_told}
use Rattle.ipl_store.proofs.ShownLemmas.{write_asks_nothing}

-- what a put leaves, by what it answers of its page's room
pub record Puts (s n : ℕ) (bytes : List ℕ) (old : Store) (before : Told)
    (found : Result Bool StoreFault) (new : Store) (after : Told) : Type 0 where
  pub calls : Calls (put_fault old s n bytes) (put_next s n bytes found) 14 old before found new
      after
  pub steps : put_fault old s n bytes ≡ None → PutsBy s n bytes old before found new after
  pub full : put_fault old s n bytes ≡ None → TellsRoom n bytes old before found
  pub holds : KeepsHolds old new
  pub framed : OnOk found (IsFramed new.transactions.pages (home_of n).unit (home_of n).page)
  pub used : OnOk found (IsUsedLastIn new (home_of n).unit (home_of n).page)
  pub stays : KeepsFramedFor (home_of n).unit (home_of n).page old.transactions.pages
      new.transactions.pages
  pub asks : AsksToWrite n (Some bytes) (ends_worn_out found) old.transactions.pages
      new.transactions.pages before after

-- ---- nothing was written

-- the page was brought, or wasn't, and no more was asked
looked_asks : (n : ℕ) (change : Change) (worn_out : Bool) (store new : Store)
    (before after : Told) → AsksFor n store before after
    → CostsOnePage worn_out store new before after
    → AsksToWrite n change worn_out store.transactions.pages new.transactions.pages before after
looked_asks n change worn_out store new before after asks costs = record {
  idle = λ room. asks.idle (subst IsSome (sym room.there) refl);
  free = λ absent free. asks.free free;
  home = λ framed clean. subst (λ (t : Told). Spends (Costs 0 1 0 (5 ∷ [])) before t)
      (sym (asks.idle framed)) (one_of_none before);
  costs = costs;
}

-- it was refused before its page was looked at
pub refused_put : (s n : ℕ) (bytes : List ℕ) (old : Store) (before : Told) (fault : StoreFault)
    → put_fault old s n bytes ≡ Some fault → IsSound before.places old
    → Puts s n bytes old before (found_room (Err fault)) old before
refused_put s n bytes old before fault is sound =
    subst (λ (found : Result Bool StoreFault). Puts s n bytes old before found old before)
    (sym (early_found old s n bytes fault is)) (record {
      calls = calls_refused (put_fault old s n bytes) (put_next s n bytes (Err fault)) 14 old before
          (Err fault) fault is (early_unworn old
          (sessions_refuse_put (limits_of_store old) old.transactions.sessions s n bytes) fault is) refl
          sound;
      steps = λ none. tt;
      full = λ none. tt;
      holds = nothing_keeps old.transactions.pages.pool;
      framed = tt;
      used = tt;
      stays = none_leaves (home_of n).unit (home_of n).page old.transactions.pages;
      asks = write_asks_nothing n (Some bytes) (tells_wear fault) old.transactions.pages before
          (early_unworn old
          (sessions_refuse_put (limits_of_store old) old.transactions.sessions s n bytes) fault is);
    })

-- its page wasn't brought
pub unbrought_put : (s n : ℕ) (bytes : List ℕ) (old : Store) (before : Told) (fault : StoreFault)
    (new : Store) (after : Told) → put_fault old s n bytes ≡ None
    → Fetches None (λ state. state) n old before (Err fault) new after → AsksFor n old before after
    → Puts s n bytes old before (found_room (Err fault)) new after
unbrought_put s n bytes old before fault new after none did asks =
    let (e, is, cause, down) = (did.calls.serves refl).ends in
    subst (λ (found : Result Bool StoreFault). Puts s n bytes old before found new after)
    (sym (chip_found fault e is)) (record {
      calls = calls_fail_as {T = Unit {0}} (put_fault old s n bytes)
          (put_next s n bytes (Err fault)) 14 old before fault new after
          (failed_calls (put_fault old s n bytes) (put_next s n bytes (Err fault)) 14 old before fault
          new after none did.calls);
      steps = λ none. tt;
      full = λ none. tt;
      holds = did.holds;
      framed = tt;
      used = tt;
      stays = did.stays;
      asks = looked_asks n (Some bytes) (tells_wear fault) old new before after asks did.costs;
    })

-- that the page was brought, as the laws of puts ask for it
brings : (n : ℕ) (old : Store) (before : Told) (new : Store) (after : Told)
    → (did : HasBrought (home_of n).unit (home_of n).page old before new after)
    → BringsPageOf n old before (tables_in new.transactions.pages)
    (frames_in new.transactions.pages) did.frame after
brings n old before new after did = record {
  keeps = did.upholds.keeps;
  there = did.there;
  counts = did.upholds.accounts.counts;
}

same_sessions : (u page : ℕ) (old : Store) (before : Told) (new : Store) (after : Told)
    → HasBrought u page old before new after
    → new.transactions.sessions ≡ old.transactions.sessions
same_sessions u page old before new after did = ap (λ (s : Store). s.transactions.sessions) did.rest

-- it was found full
pub full_put : (s n : ℕ) (bytes : List ℕ) (old : Store) (before : Told) (new : Store)
    (after : Told) → put_fault old s n bytes ≡ None → IsSound before.places old
    → Fetches None (λ state. state) n old before (Ok tt) new after → AsksFor n old before after
    → (did : HasBrought (home_of n).unit (home_of n).page old before new after)
    → overfills_at (peaks_in old.transactions.sessions) n bytes did.frame.values ≡ true
    → Puts s n bytes old before (Ok false) new after
full_put s n bytes old before new after none sound first asks did full = record {
  calls = calls_as (put_fault old s n bytes) (λ state. state) 14 old before tt false new after
      (let_in_calls (put_fault old s n bytes) (λ state. state) 14 old before (Ok tt) new after none
      first.calls);
  steps = λ early. record {
    frame = did.frame;
    brings = brings n old before new after did;
    full = full;
    sessions = same_sessions (home_of n).unit (home_of n).page old before new after did;
  };
  full = λ early. full_told n bytes old before (tables_in new.transactions.pages)
      (frames_in new.transactions.pages) did.frame after
      (brings n old before new after did) true full;
  holds = first.holds;
  framed = subst IsSome (sym did.there) refl;
  used = first.used;
  stays = first.stays;
  asks = looked_asks n (Some bytes) false old new before after asks first.costs;
}

-- ---- it was written

-- what the write leaves
pub record HasWritten (s n : ℕ) (bytes : List ℕ) (mid : Transactions) (between : Told)
    (done : Result (Unit {0}) ChipFault) (t : Transactions) (after : Told) : Type 0 where
  pub turns : Turns (λ state. after_write state s (n, Some bytes)) 14 mid between done t after
  pub complete : CompletesFor mid done between
  pub faults : TellsFaultsForThen mid done between t.pages after
  pub framed : OnOk done (IsFramed t.pages (home_of n).unit (home_of n).page)
  pub used : OnOk done (IsUsedLast t.pages.pool (home_of n).unit (home_of n).page)
  pub stays : KeepsFramedFor (home_of n).unit (home_of n).page mid.pages t.pages
  pub asks : AsksToWrite n (Some bytes) (is_worn_out done) mid.pages t.pages between after
  pub sessions : OnErr done (t.sessions ≡ mid.sessions)
  pub idle : HasRoomFor mid.pages n (Some bytes)
      → (t.pages.parts ≡ mid.pages.parts) × (is_worn_out done ≡ false)

module _ (s n : ℕ) (bytes : List ℕ) (old : Store) (before : Told) (mid : Store) (between : Told)
    (done : Result (Unit {0}) ChipFault) (t : Transactions) (after : Told)
    (did : HasBrought (home_of n).unit (home_of n).page old before mid between)
    (wrote : HasWritten s n bytes mid.transactions between done t after)
    (short : length bytes ≤ VALUE_LEN) where
  -- a page that was brought from the chip has room for the record
  fresh_room : frames_in old.transactions.pages (home_of n).unit (home_of n).page ≡ None
      → HasRoomFor mid.transactions.pages n (Some bytes)
  fresh_room none = record {
    frame = did.frame;
    there = did.there;
    fits = let empty = ap size_of_all (did.fresh none) in omega (arith, empty, short);
  }

  -- so few numbers are drawn: bringing it drew none, or writing
  few_drawn : t.pages.parts.counter ≤ counter_of old + 14
  few_drawn = by_frame (frames_in old.transactions.pages (home_of n).unit (home_of n).page) refl
    where
      by_frame : (o : Option PageFrame)
          → frames_in old.transactions.pages (home_of n).unit (home_of n).page ≡ o
          → t.pages.parts.counter ≤ counter_of old + 14
      by_frame None none = omega (
        arith,
        ap (λ (p : Parts). p.counter) (wrote.idle (fresh_room none)).0,
        did.upholds.drawn,
      )
      by_frame (Some f) there =
          let (only, idle) = did.asks.idle (subst IsSome (sym there) refl) in
          omega (arith, ap (λ (p : Parts). p.counter) only.parts, wrote.turns.drawn)

  -- and little is asked of the chip
  joined_asks : AsksToWrite n (Some bytes) (is_worn_out done) old.transactions.pages t.pages before
      after
  joined_asks = by_frame (frames_in old.transactions.pages (home_of n).unit (home_of n).page) refl
    where
      by_frame : (o : Option PageFrame)
          → frames_in old.transactions.pages (home_of n).unit (home_of n).page ≡ o
          → AsksToWrite n (Some bytes) (is_worn_out done) old.transactions.pages t.pages before after
      by_frame None none =
          let idle : after ≡ between = wrote.asks.idle (fresh_room none) in
          let (same, still) = wrote.idle (fresh_room none) in record {
            idle = λ room. let no : None ≡ Some room.frame = sym none ∙ room.there in
                absurd (cc no);
            free = λ absent free. subst (λ (k : Told). Spends (Costs 0 0 0 []) before k) (sym idle)
                (did.asks.free free);
            home = λ framed clean. absurd (false≢true (subst IsSome none framed));
            costs = subst (λ (k : Told). Spends (ErasesAndLogs
                old.transactions.pages.parts.directory t.pages.parts.directory (is_worn_out done))
                before k) (sym idle)
                (subst (λ (b : Bool). Spends (ErasesAndLogs old.transactions.pages.parts.directory
                t.pages.parts.directory b) before between) (sym still)
                (subst (λ (p : Parts). Spends (ErasesAndLogs
                old.transactions.pages.parts.directory p.directory false) before between)
                (sym same) did.asks.costs));
          }
      by_frame (Some f) there =
          let framed : IsFramed old.transactions.pages (home_of n).unit (home_of n).page =
          subst IsSome (sym there) refl in
          let (only, idle) = did.asks.idle framed in
          let frames = did.same framed in record {
            idle = λ room. wrote.asks.idle (record {
              frame = room.frame;
              there = ap (λ (F : Frames). F (home_of n).unit (home_of n).page) frames ∙ room.there;
              fits = room.fits;
            }) ∙ idle;
            free = λ none free. let no : None ≡ Some f = sym none ∙ there in absurd (cc no);
            home = λ still clean. subst (λ (k : Told). Spends (Costs 0 1 0 (5 ∷ [])) k after) idle
                (wrote.asks.home (subst IsSome (sym did.there) refl)
                (subst (λ (p : Parts). HasHomeSpot (tables_of p) (home_of n).unit) (sym only.parts)
                clean));
            costs = subst (λ (k : Told). Spends (ErasesAndLogs
                old.transactions.pages.parts.directory t.pages.parts.directory (is_worn_out done))
                k after) idle
                (subst (λ (p : Parts). Spends (ErasesAndLogs p.directory t.pages.parts.directory
                (is_worn_out done)) between after) only.parts wrote.asks.costs);
          }

  -- a write that failed leaves the numbers of the open sessions
  alike : mid.transactions.pages.parts.active ≡ numbers_in mid.transactions.sessions
      → IfErr done (λ e. t.pages.parts.active ≡ mid.transactions.pages.parts.active)
  alike active = by_done done wrote.sessions
    where
      by_done : (r : Result (Unit {0}) ChipFault)
          → OnErr r (t.sessions ≡ mid.transactions.sessions)
          → IfErr r (λ e. t.pages.parts.active ≡ mid.transactions.pages.parts.active)
      by_done (Ok v) same = tt
      by_done (Err e) same = wrote.turns.order.active ∙ ap numbers_in same ∙ sym active

  -- the whole call, and its ends
  end_calls : (result : Result (Unit {0}) StoreFault) (new : Store) (early : Option StoreFault)
      → early ≡ None → old.down ≡ false → IsSound before.places old
      → new ≡ record mid { transactions = t; down = new.down }
      → EndsAs done mid.down result new.down
      → Calls early (λ state. after_write state s (n, Some bytes)) 14 old before result new after
  end_calls result new early none up sound rest ends =
      let sessions = same_sessions (home_of n).unit (home_of n).page old before mid between did in
      let active : mid.transactions.pages.parts.active ≡ numbers_in mid.transactions.sessions =
      did.upholds.active ∙ (sound.order up).active ∙ ap numbers_in (sym sessions) in
      moved_calls (λ state. after_write state s (n, Some bytes)) 14 old t old.kept refl before after done
      result new up sound
      (moves_then (λ state. after_write state s (n, Some bytes)) 14 14 14 old.transactions
      mid.transactions t before between after done did.upholds sessions wrote.turns wrote.complete
      wrote.faults (alike active) few_drawn)
      (rest ∙ ap (λ (x : Store). record x { transactions = t; down = new.down }) did.rest)
      (subst (λ (b : Bool). EndsAs done b result new.down) (ap (λ (x : Store). x.down) did.rest)
      ends) early none

  end_holds : (new : Store) → new.transactions ≡ t
      → KeepsHolds old mid → KeepsHolds old new
  end_holds new moved holds =
      subst (λ (it : Transactions). KeepsPins old.transactions.pages.pool it.pages.pool) (sym moved)
      (both_keep old.transactions.pages.pool mid.transactions.pages.pool t.pages.pool holds
      wrote.turns.pins)

  end_stays : (new : Store) → new.transactions ≡ t
      → KeepsFramedFor (home_of n).unit (home_of n).page old.transactions.pages
      mid.transactions.pages
      → KeepsFramedFor (home_of n).unit (home_of n).page old.transactions.pages
      new.transactions.pages
  end_stays new moved stays =
      subst (λ (it : Transactions). KeepsFramedFor (home_of n).unit (home_of n).page
      old.transactions.pages it.pages) (sym moved)
      (framed_then (home_of n).unit (home_of n).page old.transactions.pages mid.transactions.pages
      t.pages stays (wrote.stays.stay (inl (subst IsSome (sym did.there) refl))) wrote.stays.uses)

pub written_put : (s n : ℕ) (bytes : List ℕ) (old : Store) (before : Told) (mid : Store)
    (between : Told) (done : Result (Unit {0}) ChipFault) (t : Transactions) (after : Told)
    (result : Result (Unit {0}) StoreFault) (new : Store)
    → put_fault old s n bytes ≡ None → old.down ≡ false → IsSound before.places old
    → Fetches None (λ state. state) n old before (Ok tt) mid between
    → (did : HasBrought (home_of n).unit (home_of n).page old before mid between)
    → overfills_at (peaks_in old.transactions.sessions) n bytes did.frame.values ≡ false
    → length bytes ≤ VALUE_LEN → HasWritten s n bytes mid.transactions between done t after
    → new ≡ record mid { transactions = t; down = new.down }
    → EndsAs done mid.down result new.down
    → Puts s n bytes old before (found_room result) new after
written_put s n bytes old before mid between (Ok v) t after result new none up sound first did room
    short wrote rest ends =
    let next = λ (state : State). after_write state s (n, Some bytes) in
    let moved : new.transactions ≡ t = ap (λ (x : Store). x.transactions) rest in
    let sessions = same_sessions (home_of n).unit (home_of n).page old before mid between did in
    subst (λ (r : Result (Unit {0}) StoreFault). Puts s n bytes old before (found_room r) new after)
    (sym ends.0) (record {
      calls = calls_as (put_fault old s n bytes) next 14 old before v true new after
          (subst (λ (r : Result (Unit {0}) StoreFault).
          Calls (put_fault old s n bytes) next 14 old before r new after) ends.0
          (end_calls s n bytes old before mid between (Ok v) t after did wrote short result new
          (put_fault old s n bytes) none up sound rest ends));
      steps = λ early. record {
        tables = tables_in mid.transactions.pages;
        frames = frames_in mid.transactions.pages;
        frame = did.frame;
        mid = between;
        brings = brings n old before mid between did;
        room = room;
        leads = subst (λ (it : Transactions). LeadsTo {T = Unit {0}} {E = ChipFault} next
            (memory_of (tables_in mid.transactions.pages) (frames_in mid.transactions.pages)
            old.transactions.sessions) between (Ok tt) (memory_in it) after) (sym moved)
            (subst (λ (slots : SessionSlots). LeadsTo {T = Unit {0}} {E = ChipFault} next
            (memory_of (tables_in mid.transactions.pages) (frames_in mid.transactions.pages) slots)
            between (Ok tt) (memory_in t) after) sessions wrote.turns.leads);
      };
      full = λ early. full_told n bytes old before (tables_in mid.transactions.pages)
          (frames_in mid.transactions.pages) did.frame between
          (brings n old before mid between did) false room;
      holds = end_holds s n bytes old before mid between (Ok v) t after did wrote short new moved
          first.holds;
      framed = subst (λ (it : Transactions). IsFramed it.pages (home_of n).unit (home_of n).page)
          (sym moved) wrote.framed;
      used = subst (λ (it : Transactions). IsUsedLast it.pages.pool (home_of n).unit
          (home_of n).page) (sym moved) wrote.used;
      stays = end_stays s n bytes old before mid between (Ok v) t after did wrote short new moved
          first.stays;
      asks = subst (λ (it : Transactions). AsksToWrite n (Some bytes) false old.transactions.pages
          it.pages before after) (sym moved)
          (joined_asks s n bytes old before mid between (Ok v) t after did wrote short);
    })
written_put s n bytes old before mid between (Err e) t after result new none up sound first did room
    short wrote rest ends =
    let next = λ (state : State). after_write state s (n, Some bytes) in
    let moved : new.transactions ≡ t = ap (λ (x : Store). x.transactions) rest in
    subst (λ (r : Result (Unit {0}) StoreFault). Puts s n bytes old before (found_room r) new after)
    (sym ends.0) (record {
      calls = calls_fail_as {T = Unit {0}} (put_fault old s n bytes) next 14 old before (Chip e) new
          after (subst (λ (r : Result (Unit {0}) StoreFault).
          Calls (put_fault old s n bytes) next 14 old before r new after) ends.0
          (end_calls s n bytes old before mid between (Err e) t after did wrote short result new
          (put_fault old s n bytes) none up sound rest ends));
      steps = λ early. tt;
      full = λ early. tt;
      holds = end_holds s n bytes old before mid between (Err e) t after did wrote short new moved
          first.holds;
      framed = tt;
      used = tt;
      stays = end_stays s n bytes old before mid between (Err e) t after did wrote short new moved
          first.stays;
      asks = subst (λ (it : Transactions). AsksToWrite n (Some bytes) (tells_worn e)
          old.transactions.pages it.pages before after) (sym moved)
          (joined_asks s n bytes old before mid between (Err e) t after did wrote short);
    })
