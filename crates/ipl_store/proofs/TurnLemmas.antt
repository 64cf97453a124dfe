-- Calls that keep each state, and then one that leads to the next.
use Rattle.std.proofs.Common.{◌≡◌, ℕ, ◌≤◌, ◌+◌, Bool, false, Result, Ok, Err, is_ok, inr, refl, sym, ◌∙◌, ap, subst, arith, length}
use Rattle.chip_trait.specs.Story.{Contents}
use Rattle.ipl_meaning.specs.Layout.{Layout}
use Rattle.chip_trait.specs.Told.{Told}
use Rattle.ipl_base.specs.declared.fault.ChipFault.{ChipFault}
use Rattle.ipl_model.specs.State.{State}
use Rattle.record_locks.specs.Held.{SessionSlots, numbers_in}
use Rattle.buffer_pool.proofs.HoldingLemmas.{both_keep}
use Rattle.restart.proofs.CauseLemmas.{accounts_then}
use Rattle.unit_io.proofs.TablesLemmas.{tables_none, tables_then}
use Rattle.place_taking.specs.Spending.{is_worn_out, tells_worn}
use Rattle.place_taking.specs.Wear.{TellsOfWear}
use Rattle.place_taking.proofs.WearLemmas.{alike_tables, nothing_wears, wears_are_joined}
use Rattle.unit_io.proofs.ReadsAtLemmas.{at_none}
use Rattle.store_laws.specs.Advances.{memory_of, LeadsTo}
use Rattle.store_laws.proofs.KeeperLemmas.{Nowhere, keepers_are_joined, reads_keep_states}
use Rattle.store_laws.proofs.LeadLemmas.{keepers_then_lead, failed_keepers_lead}
use Rattle.page_frames.specs.declared.pages.Pages.{Pages}
use Rattle.page_frames.specs.Complete.{FailsByChip}
use Rattle.page_frames.specs.Faulty.{TellsFaultsBy}
use Rattle.page_frames.specs.Pages.{tables_in, frames_in, PageCause, Upholds}
use Rattle.ipl_store.specs.declared.transactions.Transactions.{Transactions}
use Rattle.ipl_store.specs.Turns.{memory_in, CompletesFor, IsInOrder, TellsFaultsFor, TellsFaultsForBy, TellsFaultsForThen, Turns}

-- with the same sessions memory is in order still
upheld_order : (most : ℕ) (old new : Transactions) (result : Result (Unit {0}) ChipFault)
    (before after : Told) → IsInOrder before.places old
    → Upholds most old.pages before result new.pages after → new.sessions ≡ old.sessions
    → IsInOrder before.places new
upheld_order most old new result before after order did same = record {
  ready = did.ready;
  active = did.active ∙ order.active ∙ ap numbers_in (sym same);
}

pub upheld_order_then : (most : ℕ) (old new : Transactions) (result : Result (Unit {0}) ChipFault)
    (before after : Told) → IsInOrder before.places old
    → Upholds most old.pages before result new.pages after → new.sessions ≡ old.sessions
    → IsInOrder after.places new
upheld_order_then most old new result before after order did same =
    subst (λ (places : ℕ). IsInOrder places new) (sym did.accounts.counts.places)
    (upheld_order most old new result before after order did same)

-- after a call that was done, one that leads on
pub upheld_then : (next : State → State) (n m : ℕ) (old mid new : Transactions)
    (result : Result (Unit {0}) ChipFault) (before between after : Told)
    → Upholds n old.pages before (Ok (tt {0})) mid.pages between → mid.sessions ≡ old.sessions
    → Turns next m mid between result new after
    → Turns next (n + m) old before result new after
upheld_then next n m old mid new result before between after did same turns =
    let counts = did.accounts.counts in record {
      leads = keepers_then_lead next (memory_in old) (tables_in mid.pages) (frames_in mid.pages)
          (memory_in new) result before between after counts did.keeps
          (subst (λ (slots : SessionSlots). LeadsTo next
          (memory_of (tables_in mid.pages) (frames_in mid.pages) slots) between result
          (memory_in new) after) same turns.leads);
      tidy = tables_then (Unit {0}) ChipFault (tables_in old.pages) (tables_in mid.pages)
          (tables_in new.pages) tt result before between after counts did.tidy turns.tidy;
      wears = wears_are_joined (tables_in old.pages) (tables_in mid.pages) (tables_in new.pages)
          (is_ok result) (is_worn_out result) before between after did.wears turns.wears;
      order = subst (λ (places : ℕ). IsInOrder places new) counts.places turns.order;
      units = turns.units ∙ did.units;
      sessions = turns.sessions ∙ ap (λ (v : SessionSlots). length v) same;
      numbers = turns.numbers ∙ did.room;
      pins = both_keep old.pages.pool mid.pages.pool new.pages.pool did.pins turns.pins;
      least = omega (arith, did.least, turns.least);
      drawn = omega (arith, did.drawn, turns.drawn);
      accounts = accounts_then new.pages.parts.directory before between after result counts
          turns.accounts;
    }

-- one that failed, where nothing else is done then
pub upheld_no_more : (next : State → State) (n : ℕ) (old new : Transactions) (e : ChipFault)
    (before after : Told) → IsInOrder before.places old
    → Upholds {T = Unit {0}} n old.pages before (Err e) new.pages after
    → new.sessions ≡ old.sessions
    → Turns {T = Unit {0}} next n old before (Err e) new after
upheld_no_more next n old new e before after order did same = record {
  leads = subst (λ (slots : SessionSlots). LeadsTo {T = Unit {0}} next (memory_in old) before (Err e)
      (memory_of (tables_in new.pages) (frames_in new.pages) slots) after) (sym same)
      (failed_keepers_lead next (memory_in old) (tables_in new.pages) (frames_in new.pages) e e
      before after did.keeps);
  tidy = did.tidy;
  wears = did.wears;
  order = upheld_order n old new (Err e) before after order did same;
  units = did.units;
  sessions = ap (λ (v : SessionSlots). length v) same;
  numbers = did.room;
  pins = did.pins;
  least = did.least;
  drawn = did.drawn;
  accounts = did.accounts;
}

-- one that was done, where the next one fails without doing anything
pub upheld_refused : (next : State → State) (n : ℕ) (old new : Transactions) (e : ChipFault)
    (before after : Told) → IsInOrder before.places old
    → Upholds n old.pages before (Ok (tt {0})) new.pages after → new.sessions ≡ old.sessions
    → PageCause new.pages.parts.directory e before after → tells_worn e ≡ false
    → Turns {T = Unit {0}} next n old before (Err e) new after
upheld_refused next n old new e before after order did same cause calm =
    let t = tables_in new.pages in
    let frames = frames_in new.pages in
    upheld_no_more next n old new e before after order (record {
      keeps = keepers_are_joined (tables_in old.pages) t t (frames_in old.pages) frames frames
          (Err e) before after after did.accounts.counts did.keeps
          (reads_keep_states Nowhere t frames (Err e) after after (at_none Nowhere after));
      tidy = tables_then {U = Unit {0}} {F = ChipFault} (Unit {0}) ChipFault (tables_in old.pages) t
          t tt (Err e) before after after did.accounts.counts did.tidy (tables_none {T = Unit {0}} {E = ChipFault} t (Err e) after);
      wears = subst (λ (worn_out : Bool). TellsOfWear (tables_in old.pages) t false worn_out before after)
          (sym calm) (wears_are_joined (tables_in old.pages) t t false false before after after did.wears
          (nothing_wears t t false after (alike_tables t t refl refl)));
      ready = did.ready;
      units = did.units;
      room = did.room;
      active = did.active;
      pins = did.pins;
      least = did.least;
      drawn = did.drawn;
      accounts = record { counts = did.accounts.counts; cause = cause };
    }) same

-- ---- faults over contents that the memory fits

-- whatever sessions there are, so with those of the memory
pub completes_for : (old : Transactions) (result : Result (Unit {0}) ChipFault) (told : Told)
    → FailsByChip old.pages result told → CompletesFor old result told
completes_for old result told complete x there layout state fits says =
    complete x there old.sessions layout state fits says

pub tells_for : (Finds : Contents → Layout → ℕ → ℕ → ChipFault → Type 0) (old : Transactions)
    (result : Result (Unit {0}) ChipFault) (told : Told) (new : Pages)
    → TellsFaultsBy Finds old.pages result told new → TellsFaultsForBy Finds old result told new
tells_for Finds old result told new faults x there layout state fits =
    faults x there old.sessions layout state fits

-- what is known over the contents after it
pub ever_for : (old : Transactions) (result : Result (Unit {0}) ChipFault) (before after : Told)
    (new : Pages) → TellsFaultsForThen old result before new after
    → TellsFaultsFor old result before new after
ever_for old (Ok v) before after new tells x there layout state fits = tt
ever_for old (Err e) before after new tells x there layout state fits = λ fine.
    let is = tells x there layout state fits fine in
    record {
      unit = is.unit;
      page = is.page;
      low = is.low;
      few = is.few;
      bad = is.bad;
      names = is.names;
      found = inr is.found;
    }

-- fewer numbers were drawn
pub turns_weaker : (next : State → State) (n m : ℕ) (old new : Transactions)
    (result : Result (Unit {0}) ChipFault) (before after : Told) → n ≤ m
    → Turns next n old before result new after → Turns next m old before result new after
turns_weaker next n m old new result before after fewer turns = record {
  leads = turns.leads;
  tidy = turns.tidy;
  wears = turns.wears;
  order = turns.order;
  units = turns.units;
  sessions = turns.sessions;
  numbers = turns.numbers;
  pins = turns.pins;
  least = turns.least;
  drawn = omega (arith, turns.drawn, fewer);
  accounts = turns.accounts;
}
