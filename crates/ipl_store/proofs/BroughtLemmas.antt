-- A page that was brought into a frame, and then a call that leads on.
use Rattle.std.proofs.Common.{◌≡◌, ℕ, ◌<◌, ◌≤◌, ◌+◌, [], Bool, List, Some, None, Result, Ok, Err, IfErr, OnOk, refl, sym, ◌∙◌, ap, subst, arith}
use Rattle.chip_trait.specs.Told.{Told}
use Rattle.ipl_base.specs.declared.fault.ChipFault.{ChipFault}
use Rattle.ipl_base.specs.declared.fault.StoreFault.{StoreFault}
use Rattle.ipl_model.specs.State.{State}
use Rattle.ipl_meaning.specs.Legible.{every, whole}
use Rattle.ipl_meaning.specs.Chart.{chart_of}
use Rattle.ipl_meaning.specs.Stands.{Says}
use Rattle.number_set.specs.Numbers.{among}
use Rattle.place_taking.specs.Spending.{is_worn_out}
use Rattle.page_rebuild.specs.Loaded.{load_fault}
use Rattle.buffer_pool.specs.Pools.{AreOnce, with_use}
use Rattle.page_frames.proofs.FrameViewLemmas.{pins_keep_frames}
use Rattle.record_locks.specs.Held.{SessionSlots}
use Rattle.store_laws.specs.Frames.{PageFrame}
use Rattle.store_laws.specs.Advances.{memory_of, MemoryFits}
use Rattle.store_laws.proofs.KeepLemmas.{says_next}
use Rattle.page_frames.specs.declared.pages.Pages.{Pages}
use Rattle.page_frames.specs.Asks.{AsksToBring}
use Rattle.page_frames.specs.Pages.{tables_in, frames_in, IsFramed, IsCleanFrame, OnlyUses, Upholds}
use Rattle.page_frames.proofs.FaultyLemmas.{still_sound}
use Rattle.ipl_store.specs.declared.transactions.Transactions.{Transactions}
use Rattle.ipl_store.specs.Turns.{memory_in, CompletesFor, TellsFaultsForThen, Turns}
use Rattle.ipl_store.proofs.TurnLemmas.{ever_for, upheld_then}
use Rattle.ipl_store.specs.declared.store.Store.{Store}
use Rattle.ipl_store.specs.Calls.{EndsAs}
use Rattle.ipl_store.specs.Puts.{HasBrought}
use Rattle.ipl_store.proofs.CallLemmas.{Moves}
use Rattle.ipl_store.proofs.ShownLemmas.{some_is}

-- ---- the page

-- a use that is counted keeps all frames
used_frames : (u page : ℕ) (old new : Pages) → AreOnce old.pool.buffers → OnlyUses u page old new
    → frames_in new ≡ frames_in old
used_frames u page old new once only =
    let uses = only.pool in
    pins_keep_frames old.pool new.pool u page uses.key (with_use old.pool.clock) once uses.has
    (λ b. record { page = (refl, refl); frame = refl }) uses.changes

-- a store whose pages alone changed
abbrev with_pages : Store → Pages → Store
with_pages store pages =
    record store { transactions = record store.transactions { pages = pages } }

fresh_frame : (u page : ℕ) (pages : Pages) (f : PageFrame) → frames_in pages u page ≡ Some f
    → IsCleanFrame pages u page → f.log ≡ []
fresh_frame u page pages f there (g, is, empty) =
    let one : Some g ≡ Some f = sym is ∙ there in
    let which : g ≡ f = cc one in ap (λ (h : PageFrame). h.log) (sym which) ∙ empty

pub has_brought : (u page : ℕ) (old : Store) (pages : Pages) (before after : Told)
    (done : Result (Unit {0}) ChipFault) (result : Result (Unit {0}) StoreFault) (new : Store)
    → AreOnce old.transactions.pages.pool.buffers
    → Upholds 14 old.transactions.pages before done pages after → OnOk done (IsFramed pages u page)
    → (frames_in old.transactions.pages u page ≡ None → OnOk done (IsCleanFrame pages u page))
    → AsksToBring u page (is_worn_out done) old.transactions.pages pages before after
    → new ≡ record (with_pages old pages) { down = new.down }
    → EndsAs done old.down result new.down
    → OnOk result (HasBrought u page old before new after)
has_brought u page old pages before after (Err e) result new once did there fresh asks rest ends =
    subst (λ (r : Result (Unit {0}) StoreFault). OnOk r (HasBrought u page old before new after))
    (sym ends.0) tt
has_brought u page old pages before after (Ok v) result new once did there fresh asks rest ends =
    let (f, is) = some_is (frames_in pages u page) there in
    let same : new ≡ with_pages old pages =
    rest ∙ ap (λ (b : Bool). record (with_pages old pages) { down = b }) ends.1 in
    subst (λ (r : Result (Unit {0}) StoreFault). OnOk r (HasBrought u page old before new after))
    (sym ends.0) (subst (λ (s : Store). HasBrought u page old before s after) (sym same) (record {
      frame = f;
      there = is;
      upholds = did;
      rest = refl;
      asks = asks;
      fresh = λ none. fresh_frame u page pages f is (fresh none);
      same = λ framed. used_frames u page old.transactions.pages pages once (asks.idle framed).0;
    }))

-- ---- a call after it

module _ (old mid : Transactions) (before between : Told) (n : ℕ)
    (did : Upholds {T = Unit {0}} n old.pages before (Ok tt) mid.pages between)
    (same : mid.sessions ≡ old.sessions) (done : Result (Unit {0}) ChipFault) where
  then_completes : CompletesFor mid done between → CompletesFor old done before
  then_completes complete x told layout state fits says =
      let (y, now, had) = (did.keeps old.sessions).fits before.places refl tt x told in
      let on = had layout state fits in
      let sized = sym did.accounts.counts.places in
      complete y now on.layout state
      (subst (λ (k : ℕ). MemoryFits k (chart_of y) on.layout (memory_in mid) state) sized
      (subst (λ (slots : SessionSlots). MemoryFits before.places (chart_of y) on.layout
      (memory_of (tables_in mid.pages) (frames_in mid.pages) slots) state) (sym same) on.fits))
      (subst (λ (k : ℕ). Says k (chart_of y) on.layout (whole state.map)) sized
      (says_next before.places every (chart_of x) (chart_of y) layout on.layout state state on.shows says))

then_tells : (old mid : Transactions) (before between : Told) (n : ℕ)
    (did : Upholds {T = Unit {0}} n old.pages before (Ok tt) mid.pages between)
    (same : mid.sessions ≡ old.sessions) (done : Result (Unit {0}) ChipFault) (last : Pages)
    → IfErr done (λ e. last.parts.active ≡ mid.pages.parts.active) → (after : Told)
    → TellsFaultsForThen mid done between last after
    → TellsFaultsForThen old done before last after
then_tells old mid before between n did same (Ok v) last alike after tells x told layout state fits = tt
then_tells old mid before between n did same (Err e) last alike after tells x told layout state fits =
    λ fine.
    let then = memory_of (tables_in mid.pages) (frames_in mid.pages) old.sessions in
    let (y, now, had) = (did.keeps old.sessions).fits before.places refl tt x told in
    let on = had layout state fits in
    let sized = did.accounts.counts.places in
    let is = tells y now on.layout state
    (subst (λ (k : ℕ). MemoryFits k (chart_of y) on.layout (memory_in mid) state) (sym sized)
    (subst (λ (slots : SessionSlots). MemoryFits before.places (chart_of y) on.layout
    (memory_of (tables_in mid.pages) (frames_in mid.pages) slots) state) (sym same) on.fits))
    fine in
    let low : is.unit < layout.count = omega (arith, is.low, on.shows.count) in
    record {
      unit = is.unit;
      page = is.page;
      low = low;
      few = is.few;
      bad = λ none. is.bad
          (subst (λ (l : List ℕ). load_fault y on.layout (among l) is.unit is.page ≡ None) (sym alike)
          (still_sound before.places x y layout on.layout (memory_in old) then state is.unit is.page
          low is.few (λ s held. had layout s held) fits on.fits.mirrors
          (subst (λ (l : List ℕ). load_fault x layout (among l) is.unit is.page ≡ None) alike
          none)));
      names = is.names;
      found = is.found;
    }

pub moves_then : (next : State → State) (n m most : ℕ) (old mid new : Transactions)
    (before between after : Told) (done : Result (Unit {0}) ChipFault)
    → Upholds {T = Unit {0}} n old.pages before (Ok tt) mid.pages between
    → mid.sessions ≡ old.sessions → Turns next m mid between done new after
    → CompletesFor mid done between → TellsFaultsForThen mid done between new.pages after
    → IfErr done (λ e. new.pages.parts.active ≡ mid.pages.parts.active)
    → new.pages.parts.counter ≤ old.pages.parts.counter + most
    → Moves next most old before done new after
moves_then next n m most old mid new before between after done did same turned complete faults alike
    few =
    let turns = upheld_then next n m old mid new done before between after did same turned in
    record {
      leads = turns.leads;
      tidy = turns.tidy;
      wears = turns.wears;
      order = turns.order;
      units = turns.units;
      sessions = turns.sessions;
      numbers = turns.numbers;
      limit = turns.pins.limit;
      least = turns.least;
      drawn = few;
      accounts = turns.accounts;
      complete = then_completes old mid before between n did same done complete;
      faults = ever_for old done before after new.pages
          (then_tells old mid before between n did same done new.pages alike after faults);
    }
