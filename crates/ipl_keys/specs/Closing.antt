-- What a clean close leaves of a store of keys.
use Rattle.std.specs.Prelude.{Result}
use Rattle.chip_trait.specs.Told.{History, Told}
use Rattle.ipl_meaning.specs.Tables.{IsCountedClean}
use Rattle.unit_io.specs.Steps.{Settled, OutcomeWhere, TidyWork}
use Rattle.restart.specs.Closing.{CountsUnused}
use Rattle.page_frames.specs.Pages.{tables_in}
use Rattle.store_laws.specs.Keeps.{KnownPages}
use Rattle.ipl_store.specs.declared.store.Store.{Store}
use Rattle.ipl_keys.specs.declared.fault.KeyFault.{KeyFault}
use Rattle.ipl_keys.specs.KeyState.{KeyState}
use Rattle.ipl_keys.specs.Keeps.{LeavesKeys, KeepsKeys}

-- What it leaves of a store that keeps a key state. At each moment a power cut leaves the keys; and marks
-- are kept, where what the store counts as clean is unused. Unless a write failed, the store keeps the key
-- state then, done or not: one that is down keeps the keys alone.
abbrev pub ClosesFor : KnownPages → Store → Told → Result (Unit {0}) KeyFault → Store → Told → History → KeyState
    → Type 0
ClosesFor known old before result new after h k =
    OutcomeWhere (CountsUnused (tables_in old.transactions.pages) h)
    (LeavesKeys before.places known old.units k.map k.map)
    (TidyWork (IsCountedClean (tables_in old.transactions.pages))
    (IsCountedClean (tables_in new.transactions.pages)) (Settled result before after))
    (Settled result before after) (λ later. KeepsKeys before.places known new after later k) h before after

-- each that it keeps, whichever pages don't read well
abbrev pub ClosesKeys : Store → Told → Result (Unit {0}) KeyFault → Store → Told → Type 0
ClosesKeys old before result new after = (known : KnownPages) (h : History) (k : KeyState)
    → KeepsKeys before.places known old before h k → ClosesFor known old before result new after h k
