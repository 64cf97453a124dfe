-- What calls of a store leave.
use Rattle.std.proofs.Common.{◌≡◌, inl, inr, ℕ, ◌+◌, ◌≤◌, ◌||◌, nat_lt, Bool, true, false, length, Option, Some, None, Result, Ok, Err, IfErr, OnOk, is_ok, if◌then◌else◌, refl, sym, ◌∙◌, ap, subst, arith}
use Rattle.std.proofs.lemmas.Bool.Decides.{nat_tests}
use Rattle.number_set.specs.Flags.{Flags}
use Rattle.chip_trait.specs.Told.{History, Told}
use Rattle.chip_trait.proofs.CountsLemmas.{counts_none}
use Rattle.ipl_base.specs.Places.{KeepsUnits}
use Rattle.ipl_base.specs.declared.fault.ChipFault.{ChipFault}
use Rattle.ipl_base.specs.declared.fault.Refusal.{Refusal}
use Rattle.ipl_base.specs.declared.fault.StoreFault.{StoreFault}
use Rattle.ipl_base.specs.declared.fault.StoreFault.TheVariants.{Down, Spent, Refused}
use Rattle.ipl_model.specs.State.{State}
use Rattle.buffer_pool.specs.Holding.{KeepsPins}
use Rattle.buffer_pool.specs.Uses.{IsUsedLast}
use Rattle.store_trait.specs.Keeping.{LAST_NUMBER}
use Rattle.chip_trait.specs.Story.{Contents}
use Rattle.ipl_meaning.specs.Legible.{Legibility, every}
use Rattle.ipl_meaning.specs.Chart.{Chart}
use Rattle.ipl_meaning.specs.Layout.{Layout}
use Rattle.ipl_meaning.specs.Tables.{Places, Tables}
use Rattle.unit_io.specs.Accounts.{Accounts}
use Rattle.unit_io.specs.Charts.{Charts}
use Rattle.unit_io.specs.Costs.{Spends}
use Rattle.unit_io.specs.Reads.{OfContents}
use Rattle.place_taking.specs.Spending.{is_worn_out}
use Rattle.place_taking.specs.Wear.{TellsOfWear}
use Rattle.place_taking.proofs.WearLemmas.{alike_tables, nothing_wears, wears_are_joined}
use Rattle.selective_merge.specs.Faults.{FailsByChipAlone}
use Rattle.selective_merge.specs.Throughout.{ChartsThroughout}
use Rattle.unit_io.specs.Steps.{Tidies}
use Rattle.unit_io.proofs.TablesLemmas.{tables_none, tables_then, tables_answered, tables_fewer}
use Rattle.store_laws.specs.Advances.{TurnsMapOf, LeadsTo}
use Rattle.store_laws.specs.Keeps.{ShowsState}
use Rattle.store_laws.proofs.AdvanceLemmas.{answers_advance, calls_advance, failures_advance}
use Rattle.store_laws.proofs.KeeperLemmas.{nothing_keeps_states}
use Rattle.store_laws.proofs.LeadLemmas.{keepers_lead_still}
use Rattle.page_frames.specs.Spending.{ErasesAndLogs}
use Rattle.page_frames.specs.declared.pages.Pages.{Pages}
use Rattle.page_frames.specs.Complete.{FailsByChip}
use Rattle.page_frames.specs.Faulty.{FailsByPage, StandsEver, StandsSurely, TellsFaults}
use Rattle.page_frames.specs.Pages.{tables_in, IsFramed, KeepsFramed, KeepsFramedFor, PageCause, Upholds}
use Rattle.ipl_store.specs.declared.transactions.Transactions.{Transactions}
use Rattle.ipl_store.specs.Turns.{memory_in, CompletesFor, IsInOrder, TellsFaultsFor, TellsFaultsForSurely, Turns, TurnsInMemory}
use Rattle.ipl_store.proofs.TurnLemmas.{completes_for, tells_for}
use Rattle.ipl_store.specs.declared.store.Store.{Store}
use Rattle.ipl_store.specs.Calls.{memory_of_store, view_of, counter_of, numbers_of, IsMade, IsSound, early_fault, ends_worn_out, entry_fault, down_fault, puts_down, tells_wear, EndsAs, BlamesPagesSurely, IsOfBadPage, IsOfTheChip, EndsFor, KeepsHolds, Calls}
use Rattle.ipl_store.specs.Shown.{CostsOnePage, IsUsedLastIn}

-- ---- before anything is done

-- nothing is worn where nothing is done
idle_wears : {T : Type 0} (store : Store) (told : Told) (result : Result T StoreFault)
    → ends_worn_out result ≡ false
    → TellsOfWear (tables_in store.transactions.pages) (tables_in store.transactions.pages) (is_ok result)
    (ends_worn_out result) told told
idle_wears store told result calm =
    let t = tables_in store.transactions.pages in
    subst (λ (worn_out : Bool). TellsOfWear t t (is_ok result) worn_out told told) (sym calm)
    (nothing_wears t t (is_ok result) told (alike_tables t t refl refl))

pub calls_refused : {T : Type 0} (early : Option StoreFault) (next : State → State) (most : ℕ)
    (store : Store) (told : Told) (result : Result T StoreFault) (fault : StoreFault)
    → early ≡ Some fault → tells_wear fault ≡ false → result ≡ Err fault → IsSound told.places store
    → Calls early next most store told result store told
calls_refused early next most store told result fault is calm answer sound = record {
  refuses = λ first also.
      let same : Some fault ≡ Some first = sym is ∙ also in
      let one : fault ≡ first = cc same in (answer ∙ ap Err one, refl, refl);
  serves = λ none. let no : Some fault ≡ None = sym is ∙ none in absurd (cc no);
  sound = sound;
  units = refl;
  sessions = refl;
  numbers = refl;
  tidy = tables_none (tables_in store.transactions.pages) result told;
  wears = idle_wears store told result (ap ends_worn_out answer ∙ calm);
  counts = counts_none told;
}

-- its fault doesn't tell that too many places are worn
unworn : (down spent : Bool) (refusal : Option Refusal) (fault : StoreFault)
    → early_fault (if down then Some Down else (if spent then Some Spent else None)) refusal
    ≡ Some fault → tells_wear fault ≡ false
unworn true spent refusal fault is =
    let which : Down ≡ fault = cc is in ap tells_wear (sym which)
unworn false true refusal fault is =
    let which : Spent ≡ fault = cc is in ap tells_wear (sym which)
unworn false false (Some r) fault is =
    let which : Refused r ≡ fault = cc is in ap tells_wear (sym which)
unworn false false None fault is = absurd (cc is)

pub early_unworn : (store : Store) (refusal : Option Refusal) (fault : StoreFault)
    → early_fault (entry_fault store) refusal ≡ Some fault → tells_wear fault ≡ false
early_unworn store refusal fault is =
    unworn store.down (nat_lt LAST_NUMBER (counter_of store)) refusal fault is

-- nor does that of a call which draws no number
pub ended_unworn : (store : Store) (refusal : Option Refusal) (fault : StoreFault)
    → early_fault (down_fault store) refusal ≡ Some fault → tells_wear fault ≡ false
ended_unworn store refusal fault is = unworn store.down false refusal fault is

-- what is known where a call is let in
passed_down : (down : Bool) (refusal : Option Refusal)
    → early_fault (if down then Some Down else None) refusal ≡ None
    → (down ≡ false) × (refusal ≡ None)
passed_down true refusal none = absurd (cc none)
passed_down false (Some r) none = absurd (cc none)
passed_down false None none = (refl, refl)

passed_entry : (down spent : Bool) (refusal : Option Refusal)
    → early_fault (if down then Some Down else (if spent then Some Spent else None)) refusal ≡ None
    → (down ≡ false) × (spent ≡ false) × (refusal ≡ None)
passed_entry true spent refusal none = absurd (cc none)
passed_entry false true refusal none = absurd (cc none)
passed_entry false false (Some r) none = absurd (cc none)
passed_entry false false None none = (refl, refl, refl)

pub let_in_down : (store : Store) (refusal : Option Refusal)
    → early_fault (down_fault store) refusal ≡ None → (store.down ≡ false) × (refusal ≡ None)
let_in_down store refusal none = passed_down store.down refusal none

pub let_in : (store : Store) (refusal : Option Refusal)
    → early_fault (entry_fault store) refusal ≡ None
    → (store.down ≡ false) × (counter_of store ≤ LAST_NUMBER) × (refusal ≡ None)
let_in store refusal none =
    let (up, few, rest) =
    passed_entry store.down (nat_lt LAST_NUMBER (counter_of store)) refusal none in
    let low : nat_lt LAST_NUMBER (counter_of store) ≡ false = few in
    (up, grind (arith, nat_tests), rest)

-- ---- calls as moves

-- what a call of a store leaves that was let in, whichever pages are held then
pub record Moves (next : State → State) (most : ℕ) (old : Transactions) (before : Told)
    (done : Result (Unit {0}) ChipFault) (new : Transactions) (after : Told) : Type 0 where
  pub leads : LeadsTo next (memory_in old) before done (memory_in new) after
  pub tidy : Tidies (tables_in old.pages) done (tables_in new.pages) before after
  pub wears : TellsOfWear (tables_in old.pages) (tables_in new.pages) (is_ok done) (is_worn_out done) before
      after
  pub order : IsInOrder before.places new
  pub units : length new.pages.parts.directory.current ≡ length old.pages.parts.directory.current
  pub sessions : length new.sessions ≡ length old.sessions
  pub numbers : new.pages.parts.status.most ≡ old.pages.parts.status.most
  pub limit : new.pages.pool.limit ≡ old.pages.pool.limit
  pub least : old.pages.parts.counter ≤ new.pages.parts.counter
  pub drawn : new.pages.parts.counter ≤ old.pages.parts.counter + most
  pub accounts : Accounts (PageCause new.pages.parts.directory) done before after
  pub complete : CompletesFor old done before
  pub faults : TellsFaultsFor old done before new.pages after

pub writes_move : (next : State → State) (most : ℕ) (old new : Transactions) (before after : Told)
    (done : Result (Unit {0}) ChipFault) → Turns next most old before done new after
    → CompletesFor old done before → TellsFaultsFor old done before new.pages after
    → Moves next most old before done new after
writes_move next most old new before after done did complete faults = record {
  leads = did.leads;
  tidy = did.tidy;
  wears = did.wears;
  order = did.order;
  units = did.units;
  sessions = did.sessions;
  numbers = did.numbers;
  limit = did.pins.limit;
  least = did.least;
  drawn = did.drawn;
  accounts = did.accounts;
  complete = complete;
  faults = faults;
}

pub turns_move : (next : State → State) (most : ℕ) (old new : Transactions) (before after : Told)
    (done : Result (Unit {0}) ChipFault) → Turns next most old before done new after
    → FailsByChip old.pages done before → TellsFaults old.pages done before new.pages after
    → Moves next most old before done new after
turns_move next most old new before after done did complete faults =
    writes_move next most old new before after done did (completes_for old done before complete)
    (tells_for (λ x it. StandsEver x it (tables_in new.pages) after) old done before new.pages faults)

-- one in memory alone
pub memory_moves : (next : State → State) (most : ℕ) (old new : Transactions) (told : Told)
    → TurnsInMemory next old new → IsInOrder told.places old
    → old.pages.parts.counter ≤ new.pages.parts.counter
    → new.pages.parts.counter ≤ old.pages.parts.counter + most
    → Moves next most old told (Ok tt) new told
memory_moves next most old new told did order least drawn = record {
  leads = did.leads told;
  tidy = tables_fewer {T = Unit {0}} {E = ChipFault} (tables_in old.pages) (tables_in old.pages) (tables_in new.pages) (Ok tt) told
      told did.fewer (tables_none {T = Unit {0}} {E = ChipFault} (tables_in old.pages) (Ok tt) told);
  wears = nothing_wears (tables_in old.pages) (tables_in new.pages) true told
      (alike_tables (tables_in old.pages) (tables_in new.pages) did.directory did.status);
  order = did.order told.places order;
  units = ap (λ (d : Places). length d.current) did.directory;
  sessions = did.sessions;
  numbers = did.numbers;
  limit = did.pins.limit;
  least = least;
  drawn = drawn;
  accounts = record { counts = counts_none told; cause = tt };
  complete = λ x there it state fits says. tt;
  faults = λ x there it state fits. tt;
}

-- one that knows the pages alone
pub pages_move : (most : ℕ) (old : Transactions) (pages : Pages) (before after : Told)
    (result : Result (Unit {0}) ChipFault) → IsInOrder before.places old
    → Upholds most old.pages before result pages after → FailsByChip old.pages result before
    → TellsFaults old.pages result before pages after
    → Moves (λ state. state) most old before result (record old { pages = pages }) after
pages_move most old pages before after result order did complete faults = record {
  leads = keepers_lead_still (memory_in old) _ _ result before after did.keeps;
  tidy = did.tidy;
  wears = did.wears;
  order = record { ready = did.ready; active = did.active ∙ order.active };
  units = did.units;
  sessions = refl;
  numbers = did.room;
  limit = did.pins.limit;
  least = did.least;
  drawn = did.drawn;
  accounts = did.accounts;
  complete = completes_for old result before complete;
  faults = tells_for (λ x it. StandsEver x it (tables_in pages) after) old result before pages faults;
}

-- ---- the end of a call

pub same_answer : (done : Result (Unit {0}) ChipFault) (was is : Bool)
    (result : Result (Unit {0}) StoreFault) → EndsAs done was result is → is_ok done ≡ is_ok result
same_answer (Ok v) was is result ends = ap is_ok (sym ends.0)
same_answer (Err e) was is result ends = ap is_ok (sym ends.0)

-- it tells that too many places are worn where its work does
pub ended_worn : (done : Result (Unit {0}) ChipFault) (was is : Bool)
    (result : Result (Unit {0}) StoreFault) → EndsAs done was result is
    → ends_worn_out result ≡ is_worn_out done
ended_worn (Ok v) was is result ends = ap ends_worn_out ends.0
ended_worn (Err e) was is result ends = ap ends_worn_out ends.0

not_down : (stopped : Bool) → (stopped || false) ≡ stopped
not_down true = refl
not_down false = refl

ends_for : (done : Result (Unit {0}) ChipFault) (was : Bool)
    (result : Result (Unit {0}) StoreFault) (new : Store) (before after : Told) → was ≡ false
    → IfErr done (λ e. PageCause new.transactions.pages.parts.directory e before after)
    → EndsAs done was result new.down → EndsFor before result new after
ends_for (Ok v) was result new before after up cause ends =
    subst (λ (r : Result (Unit {0}) StoreFault). EndsFor before r new after) (sym ends.0)
    (ends.1 ∙ up)
ends_for (Err e) was result new before after up cause ends =
    subst (λ (r : Result (Unit {0}) StoreFault). EndsFor before r new after) (sym ends.0) (
      e,
      refl,
      cause,
      ends.1 ∙ ap (λ (b : Bool). puts_down e || b) up ∙ not_down (puts_down e),
    )

-- a call hands its work's fault on, which is one of the chip
failed_so : (done : Result (Unit {0}) ChipFault) (was is : Bool)
    (result : Result (Unit {0}) StoreFault) → EndsAs done was result is → FailsByChipAlone done
    → IfErr result IsOfTheChip
failed_so (Ok v) was is result ends alone =
    subst (λ (r : Result (Unit {0}) StoreFault). IfErr r IsOfTheChip) (sym ends.0) tt
failed_so (Err e) was is result ends alone =
    subst (λ (r : Result (Unit {0}) StoreFault). IfErr r IsOfTheChip) (sym ends.0)
    (e, refl, alone)

-- or that of a page
blamed_so : (Finds : Tables → ℕ → ℕ → ChipFault → Type 0) (x : Contents) (it : Layout)
    (done : Result (Unit {0}) ChipFault) (was is : Bool) (result : Result (Unit {0}) StoreFault)
    → EndsAs done was result is → (a : Tables) (new : Store) → a ≡ tables_in new.transactions.pages
    → IfErr done (FailsByPage (Finds a) x it a) → IfErr result (IsOfBadPage Finds x it new)
blamed_so Finds x it (Ok v) was is result ends a new same blamed =
    subst (λ (r : Result (Unit {0}) StoreFault). IfErr r (IsOfBadPage Finds x it new)) (sym ends.0) tt
blamed_so Finds x it (Err e) was is result ends a new same blamed =
    subst (λ (r : Result (Unit {0}) StoreFault). IfErr r (IsOfBadPage Finds x it new)) (sym ends.0)
    (e, refl, subst (λ (t : Tables). FailsByPage (Finds t) x it t e) same blamed)

-- whether the chip tells its story or not
pub blamed_surely : (old new : Store) (t : Transactions) (kept : Flags) (before after : Told)
    (done : Result (Unit {0}) ChipFault) (result : Result (Unit {0}) StoreFault)
    → new ≡ record old { transactions = t; kept = kept; down = new.down }
    → EndsAs done old.down result new.down
    → TellsFaultsForSurely old.transactions done before t.pages after
    → BlamesPagesSurely old before result new after
blamed_surely old new t kept before after done result rest ends tells x told it state fits =
    blamed_so (λ k. StandsSurely x it k after) x it done old.down new.down result ends (tables_in t.pages) new
    (ap (λ (s : Store). tables_in s.transactions.pages) (sym rest))
    (tells x told it state fits)

-- work that is complete, where store and contents show a state
shown_complete : (store : Store) (before : Told) (done : Result (Unit {0}) ChipFault)
    → CompletesFor store.transactions done before
    → OfContents before (λ x. (state : State) → ShowsState before.places every (view_of store) state x
    → FailsByChipAlone done)
shown_complete store before done complete x told state shown =
    complete x told shown.layout state shown.fits shown.says

module _ (next : State → State) (most : ℕ) (old : Store) (t : Transactions) (kept : Flags) (flags : kept.room ≡ old.kept.room)
    (before after : Told) (done : Result (Unit {0}) ChipFault)
    (result : Result (Unit {0}) StoreFault) (new : Store) (up : old.down ≡ false)
    (sound : IsSound before.places old)
    (moves : Moves next most old.transactions before done t after)
    (rest : new ≡ record old { transactions = t; kept = kept; down = new.down })
    (ends : EndsAs done old.down result new.down) where
  moved : new.transactions ≡ t
  moved = ap (λ (s : Store). s.transactions) rest

  as_many : new.units ≡ old.units
  as_many = ap (λ (s : Store). s.units) rest

  as_counted : length new.transactions.pages.parts.directory.current ≡ new.units
  as_counted = ap (λ (it : Transactions). length it.pages.parts.directory.current) moved
      ∙ moves.units ∙ sound.count up ∙ sym as_many

  as_roomy : numbers_of new ≡ numbers_of old
  as_roomy = ap (λ (it : Transactions). it.pages.parts.status.most) moved ∙ moves.numbers

  made : IsMade before.places new
  made =
      let was = sound.made in record {
        geometry = was.geometry;
        units = subst (KeepsUnits before.places) (sym as_many) was.units;
        scratch = ap (λ (s : Store). s.scratch) rest ∙ was.scratch;
        directory = ap (λ (it : Transactions). length it.pages.parts.directory.in_use) moved
            ∙ moves.order.ready.known.suits.all;
        overflow = ap (λ (it : Transactions). it.pages.parts.overflow.places) moved
            ∙ moves.order.ready.known.suits.sized;
        room = ap (λ (s : Store). s.kept.room) rest ∙ flags ∙ was.room ∙ sym as_roomy;
        frames = ap (λ (s : Store). s.frames) rest ∙ was.frames ∙ sym moves.limit
            ∙ ap (λ (it : Transactions). it.pages.pool.limit) (sym moved);
        two = subst (λ (n : ℕ). 2 ≤ n) (sym (ap (λ (s : Store). s.frames) rest)) was.two;
      }

  pub moved_calls : (early : Option StoreFault) → early ≡ None
      → Calls early next most old before result new after
  moved_calls early none = record {
    refuses = λ fault is. let no : None ≡ Some fault = sym none ∙ is in absurd (cc no);
    serves = λ let_in. record {
      leads = answers_advance (TurnsMapOf next) next (memory_of_store old) (memory_of_store new)
          done result before after (same_answer done old.down new.down result ends)
          (subst (λ (it : Transactions).
          LeadsTo next (memory_in old.transactions) before done (memory_in it) after) (sym moved)
          moves.leads);
      ends = ends_for done old.down result new before after up
          (subst (λ (it : Transactions).
          IfErr done (λ e. PageCause it.pages.parts.directory e before after)) (sym moved)
          moves.accounts.cause) ends;
      counted = as_counted;
      least = subst (λ (it : Transactions). counter_of old ≤ it.pages.parts.counter) (sym moved)
          moves.least;
      drawn = subst (λ (it : Transactions). it.pages.parts.counter ≤ counter_of old + most)
          (sym moved) moves.drawn;
      complete = λ x told state shown. failed_so done old.down new.down result ends
          (shown_complete old before done moves.complete x told state shown);
      faults = λ x told it state fits. blamed_so (λ k. StandsEver x it k after) x it done old.down
          new.down result ends (tables_in t.pages) new
          (ap (λ (it : Transactions). tables_in it.pages) (sym moved))
          (moves.faults x told it state fits);
    };
    sound = record {
      made = made;
      order = λ still. subst (IsInOrder before.places) (sym moved) moves.order;
      count = λ still. as_counted;
    };
    units = as_many;
    sessions = ap (λ (it : Transactions). length it.sessions) moved ∙ moves.sessions;
    numbers = as_roomy;
    tidy = tables_answered (tables_in old.transactions.pages) (tables_in new.transactions.pages) done
        result before after (same_answer done old.down new.down result ends)
        (subst (λ (it : Transactions).
        Tidies (tables_in old.transactions.pages) done (tables_in it.pages) before after) (sym moved)
        moves.tidy);
    wears = subst (λ (worn_out : Bool). TellsOfWear (tables_in old.transactions.pages)
        (tables_in new.transactions.pages) (is_ok result) worn_out before after)
        (sym (ended_worn done old.down new.down result ends))
        (subst (λ (ok : Bool). TellsOfWear (tables_in old.transactions.pages)
        (tables_in new.transactions.pages) ok (is_worn_out done) before after)
        (same_answer done old.down new.down result ends)
        (subst (λ (it : Transactions). TellsOfWear (tables_in old.transactions.pages) (tables_in it.pages)
        (is_ok done) (is_worn_out done) before after) (sym moved) moves.wears));
    counts = moves.accounts.counts;
  }

-- ---- calls in memory alone

pub memory_calls : (next : State → State) (most : ℕ) (old : Store) (t : Transactions) (told : Told)
    (early : Option StoreFault) → IsSound told.places old → old.down ≡ false
    → TurnsInMemory next old.transactions t → counter_of old ≤ t.pages.parts.counter
    → t.pages.parts.counter ≤ counter_of old + most → early ≡ None
    → Calls {T = Unit {0}} early next most old told (Ok tt) (record old { transactions = t }) told
memory_calls next most old t told early sound up did least drawn none =
    moved_calls next most old t old.kept refl told told (Ok tt) (Ok tt) (record old { transactions = t })
    up sound
    (memory_moves next most old.transactions t told did (sound.order up) least drawn) refl
    (refl, refl) early none

-- ---- which pages are held, and which sessions are open

pub kept_holds : (old new : Store) (t : Transactions) (kept : Flags)
    → new ≡ record old { transactions = t; kept = kept; down = new.down }
    → KeepsPins old.transactions.pages.pool t.pages.pool → KeepsHolds old new
kept_holds old new t kept rest pins =
    subst (λ (it : Transactions). KeepsPins old.transactions.pages.pool it.pages.pool)
    (sym (ap (λ (s : Store). s.transactions) rest)) pins

-- ---- a call that is let in

pub let_in_calls : {T : Type 0} (early : Option StoreFault) (next : State → State) (most : ℕ)
    (old : Store) (before : Told) (result : Result T StoreFault) (new : Store) (after : Told)
    → early ≡ None → Calls None next most old before result new after
    → Calls early next most old before result new after
let_in_calls early next most old before result new after none calls = record {
  refuses = λ fault is. let no : None ≡ Some fault = sym none ∙ is in absurd (cc no);
  serves = λ let_in. calls.serves refl;
  sound = calls.sound;
  units = calls.units;
  sessions = calls.sessions;
  numbers = calls.numbers;
  tidy = calls.tidy;
  wears = calls.wears;
  counts = calls.counts;
}

-- ---- a call with another answer

pub calls_as : {T U : Type 0} (early : Option StoreFault) (next : State → State) (most : ℕ)
    (old : Store) (before : Told) (v : T) (w : U) (new : Store) (after : Told)
    → Calls early next most old before (Ok v) new after
    → Calls early next most old before (Ok w) new after
calls_as early next most old before v w new after did = record {
  refuses = λ fault is. let no : Ok v ≡ Err fault = (did.refuses fault is).0 in absurd (cc no);
  serves = λ none.
      let serves = did.serves none in record {
        leads = answers_advance (TurnsMapOf next) next (memory_of_store old) (memory_of_store new)
            (Ok v) (Ok w) before after refl serves.leads;
        ends = serves.ends;
        counted = serves.counted;
        least = serves.least;
        drawn = serves.drawn;
        complete = λ x told state shown. tt;
        faults = λ x told it state fits. tt;
      };
  sound = did.sound;
  units = did.units;
  sessions = did.sessions;
  numbers = did.numbers;
  tidy = did.tidy;
  wears = did.wears;
  counts = did.counts;
}

pub calls_fail_as : {T U : Type 0} (early : Option StoreFault) (next : State → State) (most : ℕ)
    (old : Store) (before : Told) (fault : StoreFault) (new : Store) (after : Told)
    → Calls {T = T} early next most old before (Err fault) new after
    → Calls {T = U} early next most old before (Err fault) new after
calls_fail_as early next most old before fault new after did = record {
  refuses = λ first is.
      let (answer, same, idle) = did.refuses first is in
      let which : fault ≡ first = cc answer in (ap Err which, same, idle);
  serves = λ none.
      let serves = did.serves none in record {
        leads = answers_advance (TurnsMapOf next) next (memory_of_store old) (memory_of_store new)
            (Err fault) (Err fault) before after refl serves.leads;
        ends = serves.ends;
        counted = serves.counted;
        least = serves.least;
        drawn = serves.drawn;
        complete = serves.complete;
        faults = serves.faults;
      };
  sound = did.sound;
  units = did.units;
  sessions = did.sessions;
  numbers = did.numbers;
  tidy = did.tidy;
  wears = did.wears;
  counts = did.counts;
}

-- ---- a call that does nothing

pub idle_calls : (most : ℕ) (store : Store) (told : Told) (early : Option StoreFault)
    → IsSound told.places store → store.down ≡ false → early ≡ None
    → Calls {T = Unit {0}} early (λ state. state) most store told (Ok tt) store told
idle_calls most store told early sound up none =
    moved_calls (λ state. state) most store store.transactions store.kept refl told told (Ok tt) (Ok tt)
    store up sound (record {
      leads = keepers_lead_still (memory_in store.transactions)
          (memory_in store.transactions).tables (memory_in store.transactions).frames (Ok tt) told
          told (nothing_keeps_states (memory_in store.transactions).tables
          (memory_in store.transactions).frames told);
      tidy = tables_none {T = Unit {0}} {E = ChipFault} (tables_in store.transactions.pages) (Ok tt) told;
      wears = nothing_wears (tables_in store.transactions.pages) (tables_in store.transactions.pages)
          true told (alike_tables (tables_in store.transactions.pages)
          (tables_in store.transactions.pages) refl refl);
      order = sound.order up;
      units = refl;
      sessions = refl;
      numbers = refl;
      limit = refl;
      least = omega arith;
      drawn = omega arith;
      accounts = record { counts = counts_none told; cause = tt };
      complete = λ x there it state fits says. tt;
      faults = λ x there it state fits. tt;
    }) refl (refl, refl) early none

-- what holds where the work was done holds where the call was
pub done_ends : (P : Type 0) (done : Result (Unit {0}) ChipFault) (was is : Bool)
    (result : Result (Unit {0}) StoreFault) → EndsAs done was result is → OnOk done P
    → OnOk result P
done_ends P (Ok v) was is result ends did =
    subst (λ (r : Result (Unit {0}) StoreFault). OnOk r P) (sym ends.0) did
done_ends P (Err e) was is result ends did =
    subst (λ (r : Result (Unit {0}) StoreFault). OnOk r P) (sym ends.0) tt

-- what a merge that is done makes of the contents
pub throughout_done : (F : Chart → Chart → Type 0) (G : Chart → Chart → Type 0)
    (result : Result (Unit {0}) ChipFault) (old new : Told)
    → ChartsThroughout (λ done. F) G result old new → OnOk result (Charts F old new)
throughout_done F G (Ok v) old new tells = tells
throughout_done F G (Err e) old new tells = tt

-- pages that stay in their frames
pub kept_framed : (old new : Store) (t : Transactions) (kept : Flags)
    → new ≡ record old { transactions = t; kept = kept; down = new.down }
    → KeepsFramed old.transactions.pages t.pages
    → KeepsFramed old.transactions.pages new.transactions.pages
kept_framed old new t kept rest framed =
    subst (λ (it : Transactions). KeepsFramed old.transactions.pages it.pages)
    (sym (ap (λ (s : Store). s.transactions) rest)) framed

-- and one that leaves its frame for a page
pub kept_for : (u page : ℕ) (old new : Store) (t : Transactions) (kept : Flags)
    → new ≡ record old { transactions = t; kept = kept; down = new.down }
    → KeepsFramedFor u page old.transactions.pages t.pages
    → KeepsFramedFor u page old.transactions.pages new.transactions.pages
kept_for u page old new t kept rest framed =
    subst (λ (it : Transactions). KeepsFramedFor u page old.transactions.pages it.pages)
    (sym (ap (λ (s : Store). s.transactions) rest)) framed

-- a page that the work leaves in a frame
pub ended_framed : (u page : ℕ) (old new : Store) (t : Transactions) (kept : Flags)
    (done : Result (Unit {0}) ChipFault) (result : Result (Unit {0}) StoreFault)
    → new ≡ record old { transactions = t; kept = kept; down = new.down }
    → EndsAs done old.down result new.down → OnOk done (IsFramed t.pages u page)
    → OnOk result (IsFramed new.transactions.pages u page)
ended_framed u page old new t kept done result rest ends framed =
    done_ends (IsFramed new.transactions.pages u page) done old.down new.down result ends
    (subst (λ (it : Transactions). OnOk done (IsFramed it.pages u page))
    (sym (ap (λ (s : Store). s.transactions) rest)) framed)

-- and as the one used last
pub ended_used : (u page : ℕ) (old new : Store) (t : Transactions) (kept : Flags)
    (done : Result (Unit {0}) ChipFault) (result : Result (Unit {0}) StoreFault)
    → new ≡ record old { transactions = t; kept = kept; down = new.down }
    → EndsAs done old.down result new.down → OnOk done (IsUsedLast t.pages.pool u page)
    → OnOk result (IsUsedLastIn new u page)
ended_used u page old new t kept done result rest ends used =
    done_ends (IsUsedLastIn new u page) done old.down new.down result ends
    (subst (λ (it : Transactions). OnOk done (IsUsedLast it.pages.pool u page))
    (sym (ap (λ (s : Store). s.transactions) rest)) used)

-- what its work asks of the chip, by the pages then
pub ended_asks : (Asks : Bool → Pages → Type 0) (old new : Store) (t : Transactions) (kept : Flags)
    (done : Result (Unit {0}) ChipFault) (result : Result (Unit {0}) StoreFault)
    → new ≡ record old { transactions = t; kept = kept; down = new.down }
    → EndsAs done old.down result new.down → Asks (is_worn_out done) t.pages
    → Asks (ends_worn_out result) new.transactions.pages
ended_asks Asks old new t kept done result rest ends asks =
    subst (λ (b : Bool). Asks b new.transactions.pages)
    (sym (ended_worn done old.down new.down result ends))
    (subst (λ (it : Transactions). Asks (is_worn_out done) it.pages)
    (sym (ap (λ (s : Store). s.transactions) rest)) asks)

-- and what it costs
pub ended_costs : (old new : Store) (t : Transactions) (kept : Flags) (before after : Told)
    (done : Result (Unit {0}) ChipFault) (result : Result (Unit {0}) StoreFault)
    → new ≡ record old { transactions = t; kept = kept; down = new.down }
    → EndsAs done old.down result new.down
    → Spends (ErasesAndLogs old.transactions.pages.parts.directory t.pages.parts.directory
    (is_worn_out done)) before after
    → CostsOnePage (ends_worn_out result) old new before after
ended_costs old new t kept before after done result rest ends costs =
    ended_asks (λ worn_out pages. Spends (ErasesAndLogs old.transactions.pages.parts.directory
    pages.parts.directory worn_out) before after) old new t kept done result rest ends costs

-- ---- a call that keeps each state, and then one in memory

-- what leaves the map leaves one of two
kept_either : (next : State → State) (places : ℕ) (pages : Legibility) (state : State) (k : History)
    → TurnsMapOf (λ same. same) places pages state k → TurnsMapOf next places pages state k
kept_either next places pages state k each = (
  each.0,
  λ x image. elim (each.1 x image) [
    | inl is ↦ inl is
    | inr is ↦ inl is
  ],
)

pub calls_joined : (early : Option StoreFault) (next : State → State) (most : ℕ)
    (old mid : Store) (t : Transactions) (before after : Told) → early ≡ None
    → mid.down ≡ false
    → Calls {T = Unit {0}} None (λ state. state) most old before (Ok tt) mid after
    → TurnsInMemory next mid.transactions t → t.pages.parts.counter ≡ counter_of mid
    → Calls {T = Unit {0}} early next most old before (Ok tt) (record mid { transactions = t })
    after
calls_joined early next most old mid t before after none up first did drawn = record {
  refuses = λ fault is. let no : None ≡ Some fault = sym none ∙ is in absurd (cc no);
  serves = λ let_in. record {
    leads = calls_advance {T = Unit {0}} {U = Unit {0}} {E = StoreFault} {F = StoreFault}
        (TurnsMapOf (λ state. state)) (TurnsMapOf next) (TurnsMapOf next) next
        (memory_of_store old) (memory_of_store mid)
        (memory_of_store (record mid { transactions = t })) tt (Ok tt) before after after
        (kept_either next) (λ places pages state k is. is) first.counts
        (first.serves refl).leads (second.serves refl).leads;
    ends = up;
    counted = second.sound.count up;
    least = omega (arith, (first.serves refl).least, drawn);
    drawn = omega (arith, (first.serves refl).drawn, drawn);
    complete = λ x told state shown. tt;
    faults = λ x told it state fits. tt;
  };
  sound = subst (λ (n : ℕ). IsSound n (record mid { transactions = t })) first.counts.places
      second.sound;
  units = first.units;
  sessions = did.sessions ∙ first.sessions;
  numbers = did.numbers ∙ first.numbers;
  tidy = tables_then {U = Unit {0}} {F = StoreFault} (Unit {0}) StoreFault (tables_in old.transactions.pages)
      (tables_in mid.transactions.pages) (tables_in t.pages) tt (Ok tt) before after after first.counts
      first.tidy second.tidy;
  wears = wears_are_joined (tables_in old.transactions.pages) (tables_in mid.transactions.pages)
      (tables_in t.pages) true false before after after first.wears second.wears;
  counts = first.counts;
}
  where
    second : Calls {T = Unit {0}} None next 0 mid after (Ok tt) (record mid { transactions = t })
        after
    second = memory_calls next 0 mid t after None
        (subst (λ (n : ℕ). IsSound n mid) (sym first.counts.places) first.sound) up did
        (omega (arith, drawn)) (omega (arith, drawn)) refl

-- a call that failed, where nothing else is done then
pub failed_calls : (early : Option StoreFault) (next : State → State) (most : ℕ) (old : Store)
    (before : Told) (fault : StoreFault) (new : Store) (after : Told) → early ≡ None
    → Calls {T = Unit {0}} None (λ state. state) most old before (Err fault) new after
    → Calls {T = Unit {0}} early next most old before (Err fault) new after
failed_calls early next most old before fault new after none calls = record {
  refuses = λ first is. let no : None ≡ Some first = sym none ∙ is in absurd (cc no);
  serves = λ let_in.
      let did = calls.serves refl in record {
        leads = failures_advance {T = Unit {0}} {U = Unit {0}} (TurnsMapOf (λ state. state))
            (TurnsMapOf next) (memory_of_store old) (memory_of_store new) (λ state. state) next
            fault fault before after (kept_either next) did.leads;
        ends = did.ends;
        counted = did.counted;
        least = did.least;
        drawn = did.drawn;
        complete = did.complete;
        faults = did.faults;
      };
  sound = calls.sound;
  units = calls.units;
  sessions = calls.sessions;
  numbers = calls.numbers;
  tidy = calls.tidy;
  wears = calls.wears;
  counts = calls.counts;
}

pub on_ok : {T : Type 0} {P : Type 0} (result : Result T StoreFault) → P → OnOk result P
on_ok (Ok v) is = is
on_ok (Err e) is = tt
