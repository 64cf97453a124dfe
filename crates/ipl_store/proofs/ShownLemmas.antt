-- What a store's frames tell of a name, after a call that kept each state.
use Rattle.std.proofs.Common.{◌≡◌, ℕ, Bool, true, false, List, Option, Some, None, Result, Ok, Err, IsSome, is_some, inl, inr, ◌⊎◌, IfErr, OnOk, refl, sym, ◌∙◌, ap, subst, arith}
use Rattle.std.proofs.lemmas.Bool.{cases_Bool, false≢true}
use Rattle.std.specs.FinMap.{get}
use Rattle.chip_trait.specs.Told.{Told}
use Rattle.ipl_base.specs.declared.fault.ChipFault.{ChipFault}
use Rattle.ipl_base.specs.declared.fault.StoreFault.{StoreFault}
use Rattle.ipl_base.specs.Places.{home_of}
use Rattle.ipl_model.specs.State.{State, see}
use Rattle.ipl_format.specs.Record.{Change}
use Rattle.ipl_meaning.specs.Legible.{Legibility, IsToldApart}
use Rattle.ipl_meaning.specs.Chart.{chart_of}
use Rattle.ipl_meaning.specs.Tables.{Tables}
use Rattle.unit_io.specs.Costs.{Spends}
use Rattle.unit_io.specs.Reads.{OfContents}
use Rattle.store_laws.specs.Pending.{name_at}
use Rattle.store_laws.specs.Frames.{PageFrame, Frames}
use Rattle.store_laws.specs.Advances.{KeepsState}
use Rattle.store_laws.specs.Keeps.{View, ShowsState, TellsName}
use Rattle.store_laws.proofs.ViewLemmas.{shown_is_said, frames_tell_state}
use Rattle.record_locks.specs.Held.{number_of}
use Rattle.page_ops.specs.Pending.{seen_by}
use Rattle.buffer_pool.specs.Uses.{IsUsedLast}
use Rattle.buffer_pool.proofs.HoldingLemmas.{nothing_keeps, both_keep}
use Rattle.page_frames.specs.Asks.{AsksForFrame, AsksToBring}
use Rattle.number_set.specs.Numbers.{among}
use Rattle.page_rebuild.specs.Loaded.{load_fault}
use Rattle.page_frames.specs.Faulty.{FailsAsPage}
use Rattle.page_frames.specs.Spending.{ErasesAndLogs}
use Rattle.page_frames.specs.declared.pages.Pages.{Pages}
use Rattle.page_frames.specs.Pages.{tables_in, frames_in, IsFramed, KeepsFramedFor}
use Rattle.page_frames.proofs.AskLemmas.{one_of_none}
use Rattle.page_frames.proofs.UseLemmas.{none_leaves}
use Rattle.page_frames.proofs.SpendLemmas.{nothing_spent, logs_of_reads}
use Rattle.ipl_store.specs.declared.transactions.Transactions.{Transactions}
use Rattle.ipl_store.specs.Costs.{AsksToWrite}
use Rattle.ipl_store.specs.Turns.{TurnsInMemory}
use Rattle.ipl_store.specs.declared.store.Store.{Store}
use Rattle.ipl_store.specs.Calls.{memory_of_store, view_of, tells_wear, EndsAs, IsSound, Serves}
use Rattle.ipl_store.proofs.CallLemmas.{calls_refused, let_in_calls, calls_as, calls_fail_as, failed_calls, calls_joined}
use Rattle.ipl_store.specs.Shown.{ShowsName, FramesName, IsSeen, HasCommitted, Fetches, answered, AsksLittle, CostsOnePage, FailsAsPageOf, IsExactly, LooksAtStore}

name_of_home : (n : ℕ) → name_at (home_of n).unit (home_of n).page (home_of n).slot ≡ n
name_of_home n = omega arith

-- a page in a frame has values
framed_has : (o : Option PageFrame) → IsSome o → (f : PageFrame) × (o ≡ Some f)
framed_has (Some f) is = (f, refl)
framed_has None is = absurd (cc is)

-- Where a call was done and has the name's page in a frame then, that is one of the pages of whose names it is said,
-- whichever are known not to read well: it shows the state.
pub framed_shows : {T : Type 0} (pages : Legibility) (next : State → State) (most n : ℕ) (a b : Store)
    (before after : Told) (found : T) → IsToldApart pages → Serves next most a before (Ok found) b after
    → IsFramed b.transactions.pages (home_of n).unit (home_of n).page
    → (state : State) → OfContents before (λ x. ShowsState before.places pages (view_of a) state x
    → ShowsName before.places (view_of a) state n x)
framed_shows pages next most n a b before after found apart did framed state x told shown = record {
  layout = shown.layout;
  count = shown.count;
  fits = shown.fits;
  shows = λ low. shown.says.pages (home_of n).unit (home_of n).page (omega (arith, low, shown.count)) (omega arith) said;
}
  where
    said : pages.reads (home_of n).unit (home_of n).page ≡ true
    said =
        let (y, told_then, fits) = did.leads.fits before.places refl tt x told in
        let (f, there) = framed_has (frames_in b.transactions.pages (home_of n).unit (home_of n).page) framed in
        shown_is_said before.places pages (chart_of x) (chart_of y) shown.layout state.map (memory_of_store b)
        (next state) (home_of n).unit (home_of n).page f apart shown.says (fits shown.layout state shown.fits) there

pub shown_frames_tell : {T E : Type 0} (v : T) (n : ℕ) (store : View) (t : Tables)
    (later : Frames) (f : PageFrame) (old new : Told)
    → KeepsState {T = T} {E = E} store.memory.tables store.memory.frames old (Ok v) t later new
    → later (home_of n).unit (home_of n).page ≡ Some f
    → (state : State) → OfContents old (λ x. ShowsName old.places store state n x
    → TellsName store.memory.slots state n f)
shown_frames_tell v n store t later f old new keeper there state x told shown =
    let home = home_of n in
    let (y, told_then, had) = (keeper store.memory.slots).fits old.places refl tt x told in
    let on = had shown.layout state shown.fits in
    let low = (on.fits.framed.within home.unit home.page f there).0 in
    let tells = frames_tell_state old.places (chart_of x) (chart_of y) shown.layout state.map
    (record { tables = t; frames = later; slots = store.memory.slots }) state home.unit home.page
    home.slot f on (shown.shows (omega (arith, low, on.shows.count, shown.count))) there
    (omega arith) in
    let same = name_of_home n in record {
      committed = tells.committed ∙ ap (get state.map) same;
      seen = λ s tid mine. tells.seen s tid mine ∙ ap (see state s) same;
    }

-- ---- the name of a page that was brought in

pub some_is : {A : Type 0} (o : Option A) → IsSome o → (x : A) × (o ≡ Some x)
some_is None some = absurd (cc some)
some_is (Some x) some = (x, refl)

pub names_told : (n : ℕ) (old : Store) (pages : Pages) (before after : Told)
    (done : Result (Unit {0}) ChipFault) (new : Store)
    → new.transactions.pages ≡ pages
    → KeepsState (tables_in old.transactions.pages) (frames_in old.transactions.pages) before done
    (tables_in pages) (frames_in pages) after
    → OnOk done (IsFramed pages (home_of n).unit (home_of n).page)
    → OnOk done (FramesName n old before new)
names_told n old pages before after (Ok v) new is keeps framed =
    let (f, there) = some_is (frames_in pages (home_of n).unit (home_of n).page) framed in
    record {
      frame = f;
      there = ap (λ (p : Pages). frames_in p (home_of n).unit (home_of n).page) is ∙ there;
      tells = shown_frames_tell v n (view_of old) (tables_in pages) (frames_in pages) f before after
          keeps there;
    }
names_told n old pages before after (Err e) new is keeps framed = tt

-- ---- why it isn't

-- the call hands on what is wrong with the page
pub ended_exact : (t : Tables) (u page : ℕ) (told : Told) (done : Result (Unit {0}) ChipFault)
    (was is : Bool) (result : Result (Unit {0}) StoreFault) → EndsAs done was result is
    → FailsAsPage t u page done told → FailsAsPageOf u page t told result
ended_exact t u page told (Ok v) was is result ends fails x there it mirrors =
    subst (λ (r : Result (Unit {0}) StoreFault).
    IfErr r (IsExactly (load_fault x it (among t.active) u page))) (sym ends.0) tt
ended_exact t u page told (Err e) was is result ends fails x there it mirrors =
    subst (λ (r : Result (Unit {0}) StoreFault).
    IfErr r (IsExactly (load_fault x it (among t.active) u page))) (sym ends.0)
    (e, refl, fails x there it mirrors)

-- ---- what is lent of it

-- a call that answers where another one was done, and fails as it does
pub looks_as : {U : Type 0} (early : Option StoreFault) (next : State → State) (n : ℕ)
    (old : Store) (before : Told) (v : U) (new : Store) (after : Told)
    → Fetches early next n old before (Ok tt) new after
    → LooksAtStore early next n old before (Ok v) new after
looks_as early next n old before v new after did = record {
  calls = calls_as early next 14 old before tt v new after did.calls;
  holds = did.holds;
  exact = λ none room x told it mirrors. tt;
  surely = λ none x told it state fits. tt;
  framed = subst IsSome (sym did.names.there) refl;
  used = did.used;
  stays = did.stays;
  costs = did.costs;
}

looks_fail : {U : Type 0} (early : Option StoreFault) (next : State → State) (n : ℕ)
    (old : Store) (before : Told) (fault : StoreFault) (new : Store) (after : Told)
    → Fetches early next n old before (Err fault) new after
    → LooksAtStore {T = U} early next n old before (Err fault) new after
looks_fail {U} early next n old before fault new after did = record {
  calls = calls_fail_as early next 14 old before fault new after did.calls;
  holds = did.holds;
  exact = did.exact;
  surely = did.surely;
  framed = tt;
  used = tt;
  stays = did.stays;
  costs = did.costs;
}

pub looks_answered : {U : Type 0} (early : Option StoreFault) (next : State → State) (n : ℕ)
    (old : Store) (before : Told) (result : Result (Unit {0}) StoreFault) (new : Store)
    (after : Told) → Fetches early next n old before result new after → (found : U)
    → LooksAtStore early next n old before (answered result found) new after
looks_answered early next n old before (Ok v) new after did found =
    looks_as early next n old before found new after did
looks_answered early next n old before (Err e) new after did found =
    looks_fail early next n old before e new after did

-- a call that was let in
pub let_in_fetches : (early : Option StoreFault) (next : State → State) (n : ℕ) (old : Store)
    (before : Told) (result : Result (Unit {0}) StoreFault) (new : Store) (after : Told)
    → early ≡ None → Fetches None next n old before result new after
    → Fetches early next n old before result new after
let_in_fetches early next n old before result new after none did = record {
  calls = let_in_calls early next 14 old before result new after none did.calls;
  holds = did.holds;
  exact = λ let_in. did.exact refl;
  surely = λ let_in. did.surely refl;
  names = did.names;
  used = did.used;
  stays = did.stays;
  costs = did.costs;
}

-- nothing was done
pub costs_nothing : (store : Store) (worn_out : Bool) (told : Told) → worn_out ≡ false
    → CostsOnePage worn_out store store told told
costs_nothing store worn_out told still =
    subst (λ (b : Bool). CostsOnePage b store store told told) (sym still)
    (logs_of_reads store.transactions.pages.parts.directory
    store.transactions.pages.parts.directory told told refl (nothing_spent told))

-- one that was refused
pub refused_fetches : (early : Option StoreFault) (next : State → State) (n : ℕ) (store : Store)
    (told : Told) (fault : StoreFault) → early ≡ Some fault → tells_wear fault ≡ false
    → IsSound told.places store → Fetches early next n store told (Err fault) store told
refused_fetches early next n store told fault is unworn sound = record {
  calls = calls_refused early next 14 store told (Err fault) fault is unworn refl sound;
  holds = nothing_keeps store.transactions.pages.pool;
  exact = λ none. let no : None ≡ Some fault = sym none ∙ is in absurd (cc no);
  surely = λ none. let no : None ≡ Some fault = sym none ∙ is in absurd (cc no);
  names = tt;
  used = tt;
  stays = none_leaves (home_of n).unit (home_of n).page store.transactions.pages;
  costs = costs_nothing store (tells_wear fault) told unworn;
}

-- which asks nothing
pub asks_nothing : (u page : ℕ) (store : Store) (told : Told) → AsksLittle u page store told told
asks_nothing u page store told = record {
  idle = λ framed. refl;
  free = λ room. nothing_spent told;
  frame = inl refl;
}

-- a page that was brought in was in a frame, or one was made free for it
pub brought_frame : (u page : ℕ) (worn_out : Bool) (old new : Pages) (before after : Told)
    → AsksToBring u page worn_out old new before after → (after ≡ before) ⊎ AsksForFrame old before after
brought_frame u page worn_out old new before after asks =
    elim (cases_Bool (is_some (frames_in old u page))) [
      | inl there ↦ inl (asks.idle there).1
      | inr none ↦ inr (asks.frame (λ there. false≢true (sym none ∙ there)))
    ]

-- and so does a write
pub write_asks_nothing : (n : ℕ) (change : Change) (worn_out : Bool) (pages : Pages) (told : Told)
    → worn_out ≡ false → AsksToWrite n change worn_out pages pages told told
write_asks_nothing n change worn_out pages told still = record {
  idle = λ room. refl;
  free = λ absent room. nothing_spent told;
  home = λ framed clean. one_of_none told;
  costs = subst (λ (b : Bool). Spends (ErasesAndLogs pages.parts.directory pages.parts.directory b)
      told told) (sym still)
      (logs_of_reads pages.parts.directory pages.parts.directory told told refl (nothing_spent told));
}

-- what the frame tells is what the session sees
pub seen_told : (s n tid : ℕ) (old : Store) (before : Told) (new : Store)
    (found : Option (List ℕ)) (names : FramesName n old before new)
    → number_of old.transactions.sessions s ≡ Some tid
    → found ≡ seen_by tid (names.frame.values (home_of n).slot)
    (names.frame.pending (home_of n).slot)
    → IsSeen s n old before found
seen_told s n tid old before new found names mine is state x told shown =
    is ∙ (names.tells state x told shown).seen s tid mine

pub committed_told : (n : ℕ) (old : Store) (before : Told) (new : Store)
    (found : Option (List ℕ)) (names : FramesName n old before new)
    → found ≡ names.frame.values (home_of n).slot → HasCommitted n old before found
committed_told n old before new found names is state x told shown =
    is ∙ (names.tells state x told shown).committed

pub failed_fetches : (early : Option StoreFault) (next : State → State) (n : ℕ) (old : Store)
    (before : Told) (fault : StoreFault) (new : Store) (after : Told) → early ≡ None
    → Fetches None (λ state. state) n old before (Err fault) new after
    → Fetches early next n old before (Err fault) new after
failed_fetches early next n old before fault new after none did = record {
  calls = failed_calls early next 14 old before fault new after none did.calls;
  holds = did.holds;
  exact = λ let_in. did.exact refl;
  surely = λ let_in. did.surely refl;
  names = tt;
  used = tt;
  stays = did.stays;
  costs = did.costs;
}

-- the page was brought, and then something was done in memory that leaves all pages
pub shared_fetches : (early : Option StoreFault) (next : State → State) (n : ℕ) (old mid : Store)
    (t : Transactions) (before after : Told) → early ≡ None → Fetches None (λ state. state) n old before (Ok tt) mid after
    → TurnsInMemory next mid.transactions t → t.pages ≡ mid.transactions.pages
    → Fetches early next n old before (Ok tt) (record mid { transactions = t }) after
shared_fetches early next n old mid t before after none did turns same = record {
  calls = calls_joined early next 14 old mid t before after none
      (did.calls.serves refl).ends did.calls turns
      (ap (λ (p : Pages). p.parts.counter) same);
  holds = both_keep old.transactions.pages.pool mid.transactions.pages.pool t.pages.pool did.holds
      turns.pins;
  exact = λ let_in room x told it mirrors. tt;
  surely = λ let_in x told it state fits. tt;
  names = record {
    frame = did.names.frame;
    there = ap (λ (p : Pages). frames_in p (home_of n).unit (home_of n).page) same
        ∙ did.names.there;
    tells = did.names.tells;
  };
  used = subst (λ (p : Pages). IsUsedLast p.pool (home_of n).unit (home_of n).page) (sym same)
      did.used;
  stays = subst (KeepsFramedFor (home_of n).unit (home_of n).page old.transactions.pages) (sym same)
      did.stays;
  costs = subst (λ (p : Pages). Spends (ErasesAndLogs old.transactions.pages.parts.directory
      p.parts.directory false) before after) (sym same) did.costs;
}
