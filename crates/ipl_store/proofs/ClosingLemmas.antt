-- What a clean close of a store leaves.
use Rattle.std.proofs.Common.{◌≡◌, ℕ, ◌+◌, ◌<◌, ◌≤◌, ◌^◌, true, false, length, Option, Some, None, Result, Ok, Err, OnOk, refl, sym, ◌∙◌, ap, subst}
use Rattle.std.proofs.lemmas.Bool.{true≢false}
use Rattle.number_set.specs.Flags.{Flags}
use Rattle.chip_trait.specs.Told.{Told}
use Rattle.chip_trait.proofs.CountsLemmas.{counts_then}
use Rattle.ipl_base.specs.declared.fault.ChipFault.{ChipFault}
use Rattle.ipl_base.specs.declared.fault.StoreFault.{StoreFault}
use Rattle.ipl_base.specs.declared.fault.StoreFault.TheVariants.{Chip}
use Rattle.unit_io.specs.Accounts.{Accounts}
use Rattle.unit_io.specs.Costs.{ProgramsAt, Spends}
use Rattle.unit_io.specs.Leads.{IsStopped}
use Rattle.unit_io.specs.Steps.{Tidies}
use Rattle.selective_merge.specs.Moving.{tables_of}
use Rattle.selective_merge.specs.declared.parts.Parts.{Parts}
use Rattle.restart.specs.Closing.{ClosesInSteps, EndsWithMark, MarksOrStays}
use Rattle.page_frames.specs.declared.pages.Pages.{Pages}
use Rattle.page_frames.specs.Complete.{FailsByChip}
use Rattle.page_frames.specs.Faulty.{TellsFaults}
use Rattle.page_frames.specs.Pages.{tables_in, Upholds}
use Rattle.ipl_meaning.specs.Tables.{StatusTable}
use Rattle.txn_status.specs.Status.{room_of}
use Rattle.ipl_store.specs.declared.store.Store.{Store}
use Rattle.ipl_store.specs.Calls.{counter_of, numbers_of, EndsAs, Calls, IsMade, IsSound}
use Rattle.ipl_store.specs.Closing.{ClosesStore, EndsMarking, MarksStore}
use Rattle.record_locks.specs.Held.{SessionSlots}
use Rattle.ipl_store.proofs.CallLemmas.{moved_calls, pages_move}

-- ---- the mark

-- a store after a mark of its tables was written, or a write failed
abbrev pub marked : Store → Parts → Store
marked store parts = record store {
  transactions = record store.transactions {
    pages = record store.transactions.pages { parts = parts };
  };
  down = true;
  closed = true;
}

-- as many committed numbers have room
pub marked_roomy : (result : Result (Unit {0}) ChipFault) (old new : Parts) → MarksOrStays result old new
    → new.status.most ≡ old.status.most
marked_roomy (Ok v) old new leaves = ap (λ (s : StatusTable). s.most) leaves.marked
marked_roomy (Err e) old new leaves = ap (λ (s : StatusTable). s.most) leaves.same

-- the directory and the overflow lists are as they were
pub made_marked : (places : ℕ) (store : Store) (parts : Parts) → IsMade places store
    → parts.status.most ≡ store.transactions.pages.parts.status.most
    → parts ≡ record store.transactions.pages.parts { status = parts.status; counter = parts.counter }
    → IsMade places (marked store parts)
made_marked places store parts made roomy rest = record {
  geometry = made.geometry;
  units = made.units;
  scratch = made.scratch;
  directory = ap (λ (p : Parts). length p.directory.in_use) rest ∙ made.directory;
  overflow = ap (λ (p : Parts). p.overflow.places) rest ∙ made.overflow;
  room = made.room ∙ sym roomy;
  frames = made.frames;
  two = made.two;
}

-- one that is down is sound as soon as it is made
pub down_sound : (places : ℕ) (store : Store) → store.down ≡ true → IsMade places store → IsSound places store
down_sound places store down made = record {
  made = made;
  order = λ up. absurd (true≢false (sym down ∙ up));
  count = λ up. absurd (true≢false (sym down ∙ up));
}

-- what ended the writing of the mark is handed on
pub failed_marking : (written : Result (Unit {0}) ChipFault) (fault : ChipFault)
    (result : Result (Unit {0}) StoreFault) → written ≡ Err fault → result ≡ Err (Chip fault)
    → EndsMarking written result
failed_marking (Ok v) fault result is ends = absurd (cc is)
failed_marking (Err e) fault result is ends =
    let same : e ≡ fault = cc is in ends ∙ ap (λ (f : ChipFault). Err (Chip f)) (sym same)

pub done_marking : (written : Result (Unit {0}) ChipFault) (v : Unit {0}) → written ≡ Ok v
    → EndsMarking written (Ok tt)
done_marking (Ok w) v is = refl
done_marking (Err e) v is = absurd (cc is)

pub marks_store : (store : Store) (parts : Parts) (before after : Told)
    (written : Result (Unit {0}) ChipFault) (result : Result (Unit {0}) StoreFault)
    → EndsMarking written result
    → ClosesInSteps before.places (tables_in store.transactions.pages) (tables_of parts) before written
    after
    → Tidies (tables_in store.transactions.pages) written (tables_of parts) before after
    → OnOk written (Spends EndsWithMark before after)
    → Spends (ProgramsAt store.transactions.pages.parts.status.place 1 2 7) before after
    → Accounts IsStopped written before after
    → parts.status.most ≡ numbers_of store
    → parts ≡ record store.transactions.pages.parts { status = parts.status; counter = parts.counter }
    → parts.counter ≤ counter_of store + 1
    → MarksStore store before result (marked store parts) after
marks_store store parts before after written result ends steps tidy last costs accounts roomy rest
    drawn = record {
      written = written;
      ends = ends;
      steps = steps;
      tidy = tidy;
      last = last;
      costs = costs;
      accounts = accounts;
      directory = ap (λ (p : Parts). p.directory) rest;
      drawn = drawn;
      down = refl;
      closed = refl;
      units = refl;
      sessions = refl;
      numbers = roomy;
    }

-- ---- the status place is made ready

module _ (store : Store) (pages : Pages) (kept : Flags) (flags : kept.room ≡ store.kept.room) (before told : Told)
    (done : Result (Unit {0}) ChipFault) (readied : Result (Unit {0}) StoreFault) (mid : Store)
    (up : store.down ≡ false) (sound : IsSound before.places store)
    (upholds : Upholds (2 ^ 14) store.transactions.pages before done pages told)
    (complete : FailsByChip store.transactions.pages done before)
    (faults : TellsFaults store.transactions.pages done before pages told)
    (rest : mid ≡ record store {
      transactions = record store.transactions { pages = pages };
      kept = kept;
      down = mid.down;
    })
    (ends : EndsAs done store.down readied mid.down) where
  pub readies : (early : Option StoreFault) → early ≡ None
      → Calls early (λ state. state) (2 ^ 14) store before readied mid told
  readies early none =
      moved_calls (λ state. state) (2 ^ 14) store (record store.transactions { pages = pages }) kept flags
      before told done readied mid up sound
      (pages_move (2 ^ 14) store.transactions pages before told done (sound.order up) upholds complete
      faults) rest ends early none

-- ---- a close

-- the status place isn't made ready
pub closes_unready : (early : Option StoreFault) (store mid : Store) (before told : Told)
    (fault : StoreFault) → early ≡ None
    → Calls {T = Unit {0}} early (λ state. state) (2 ^ 14) store before (Err fault) mid told
    → (0 < room_of store.transactions.pages.parts.status → told ≡ before)
    → ClosesStore early store before (Err fault) mid told
closes_unready early store mid before told fault none calls idle = record {
  refuses = λ first is. let no : None ≡ Some first = sym none ∙ is in absurd (cc no);
  serves = λ let_in. record {
    between = mid;
    told = told;
    readied = Err fault;
    ready = calls.serves let_in;
    tidy = calls.tidy;
    wears = calls.wears;
    units = calls.units;
    sessions = calls.sessions;
    numbers = calls.numbers;
    counts = calls.counts;
    idle = idle;
    then = (refl, refl, refl);
  };
  sound = calls.sound;
  units = calls.units;
  sessions = calls.sessions;
  numbers = calls.numbers;
  counts = calls.counts;
}

-- it is, and then a mark is written
pub closes_marked : (early : Option StoreFault) (store mid new : Store) (before told after : Told)
    (result : Result (Unit {0}) StoreFault) → early ≡ None
    → Calls {T = Unit {0}} early (λ state. state) (2 ^ 14) store before (Ok tt) mid told
    → (0 < room_of store.transactions.pages.parts.status → told ≡ before)
    → MarksStore mid told result new after → IsMade told.places new
    → ClosesStore early store before result new after
closes_marked early store mid new before told after result none calls idle marks made = record {
  refuses = λ first is. let no : None ≡ Some first = sym none ∙ is in absurd (cc no);
  serves = λ let_in. record {
    between = mid;
    told = told;
    readied = Ok tt;
    ready = calls.serves let_in;
    tidy = calls.tidy;
    wears = calls.wears;
    units = calls.units;
    sessions = calls.sessions;
    numbers = calls.numbers;
    counts = calls.counts;
    idle = idle;
    then = marks;
  };
  sound = down_sound before.places new marks.down
      (subst (λ (n : ℕ). IsMade n new) calls.counts.places made);
  units = marks.units ∙ calls.units;
  sessions = ap (λ (v : SessionSlots). length v) marks.sessions ∙ calls.sessions;
  numbers = marks.numbers ∙ calls.numbers;
  counts = counts_then before told after calls.counts marks.accounts.counts;
}
