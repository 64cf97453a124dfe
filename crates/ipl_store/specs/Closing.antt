-- What a clean close leaves of a store.
use Rattle.std.specs.Prelude.{◌≡◌, ◌<◌, ◌≤◌, ◌+◌, ◌^◌, true, length, Option, Some, None, Result, Ok, Err, MatchResult, OnOk, is_ok}
use Rattle.chip_trait.specs.Told.{Told, Counts}
use Rattle.ipl_base.specs.declared.fault.ChipFault.{ChipFault}
use Rattle.ipl_base.specs.declared.fault.StoreFault.{StoreFault}
use Rattle.ipl_base.specs.declared.fault.StoreFault.TheVariants.{Chip}
use Rattle.unit_io.specs.Accounts.{Accounts}
use Rattle.unit_io.specs.Costs.{ProgramsAt, Spends}
use Rattle.unit_io.specs.Leads.{IsStopped}
use Rattle.unit_io.specs.Steps.{Tidies}
use Rattle.place_taking.specs.Wear.{TellsOfWear}
use Rattle.txn_status.specs.Status.{room_of}
use Rattle.restart.specs.Closing.{ClosesInSteps, EndsWithMark}
use Rattle.page_frames.specs.Pages.{tables_in}
use Rattle.ipl_store.specs.declared.store.Store.{Store}
use Rattle.ipl_store.specs.Calls.{counter_of, numbers_of, ends_worn_out, IsSound, Serves}

-- what ended the writing of a mark, as the store's answer
abbrev pub EndsMarking : Result (Unit {0}) ChipFault → Result (Unit {0}) StoreFault → Type 0
EndsMarking (Ok v) result = result ≡ Ok v
EndsMarking (Err e) result = result ≡ Err (Chip e)

-- A mark was written, or a write failed: of the chip only the status place was programmed, once at most, and nothing was
-- erased. The store is down and closed either way, so that an opening counts the mark that may stand.
pub record MarksStore (old : Store) (before : Told) (result : Result (Unit {0}) StoreFault) (new : Store)
    (after : Told) : Type 0 where
  pub written : Result (Unit {0}) ChipFault
  pub ends : EndsMarking written result
  pub steps : ClosesInSteps before.places (tables_in old.transactions.pages) (tables_in new.transactions.pages)
      before written after
  pub tidy : Tidies (tables_in old.transactions.pages) written (tables_in new.transactions.pages) before after
  pub last : OnOk written (Spends EndsWithMark before after)
  pub costs : Spends (ProgramsAt old.transactions.pages.parts.status.place 1 2 7) before after
  pub accounts : Accounts IsStopped written before after
  pub directory : new.transactions.pages.parts.directory ≡ old.transactions.pages.parts.directory
  pub drawn : counter_of new ≤ counter_of old + 1
  pub down : new.down ≡ true
  pub closed : new.closed ≡ true
  pub units : new.units ≡ old.units
  pub sessions : new.transactions.sessions ≡ old.transactions.sessions
  pub numbers : numbers_of new ≡ numbers_of old

-- The status place was made ready, as by any call that keeps the state, for which the chip isn't asked where it has room;
-- and then a mark was written.
pub record ServesClose (old : Store) (before : Told) (result : Result (Unit {0}) StoreFault) (new : Store)
    (after : Told) : Type 0 where
  pub between : Store
  pub told : Told
  pub readied : Result (Unit {0}) StoreFault
  pub ready : Serves (λ state. state) (2 ^ 14) old before readied between told
  pub tidy : Tidies (tables_in old.transactions.pages) readied (tables_in between.transactions.pages) before told
  pub wears : TellsOfWear (tables_in old.transactions.pages) (tables_in between.transactions.pages) (is_ok readied)
      (ends_worn_out readied) before told
  pub units : between.units ≡ old.units
  pub sessions : length between.transactions.sessions ≡ length old.transactions.sessions
  pub numbers : numbers_of between ≡ numbers_of old
  pub counts : Counts before told
  pub idle : 0 < room_of old.transactions.pages.parts.status → told ≡ before
  pub then : MatchResult readied (λ _. MarksStore between told result new after)
      (λ fault. (result ≡ Err fault) × (new ≡ between) × (after ≡ told))

-- It ends early with this fault, and nothing was done; or it does what it is for. The store is sound either
-- way, with as many units and sessions, and with room for as many numbers.
pub record ClosesStore (early : Option StoreFault) (old : Store) (before : Told)
    (result : Result (Unit {0}) StoreFault) (new : Store) (after : Told) : Type 0 where
  pub refuses : (fault : StoreFault) → early ≡ Some fault
      → (result ≡ Err fault) × (new ≡ old) × (after ≡ before)
  pub serves : early ≡ None → ServesClose old before result new after
  pub sound : IsSound before.places new
  pub units : new.units ≡ old.units
  pub sessions : length new.transactions.sessions ≡ length old.transactions.sessions
  pub numbers : numbers_of new ≡ numbers_of old
  pub counts : Counts before after
