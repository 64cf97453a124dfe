-- What the work of a command has done by itself, also where not all pages of the chip read well.
use Rattle.std.specs.Prelude.{ℕ, ◌≡◌, ◌<◌, ◌*◌, ◌⊎◌, List, Option, slice_index}
use Rattle.chip_trait.specs.Told.{Told}
use Rattle.ipl_base.specs.declared.fault.Refusal.{Refusal}
use Rattle.ipl_base.specs.declared.limits.TheConstants.{UNIT_NAMES}
use Rattle.ipl_model.specs.declared.command.Command.{Command}
use Rattle.ipl_model.specs.declared.command.Command.TheVariants as command
use Rattle.ipl_model.specs.declared.reply.Reply.{Reply}
use Rattle.ipl_model.specs.declared.reply.Reply.TheVariants as reply
use Rattle.ipl_model.specs.Step.{found_reply}
use Rattle.unit_io.specs.Costs.{Spends}
use Rattle.restart.specs.Passes.{HasErased}
use Rattle.ipl_store.specs.Shown.{IsSeen, HasCommitted}
use Rattle.script_store.specs.declared.store.ScriptStore.{ScriptStore}

-- the command was refused
abbrev pub IsRefusal : Reply → Type 0
IsRefusal r = (refusal : Refusal) × (r ≡ reply.Refused refusal)

-- the reply says what the session sees of the name, by the name's own page, whatever other pages do
abbrev pub SaysSeen : ℕ → ℕ → ScriptStore → Told → Reply → Type 0
SaysSeen s n old before r = IsRefusal r
    ⊎ ((found : Option (List ℕ)) × (r ≡ found_reply found) × IsSeen s n old.store before found)

-- the place was erased at which the unit stands now
abbrev pub UnitHasMoved : ℕ → ScriptStore → Told → Told → Type 0
UnitHasMoved u new before after =
    Spends (HasErased (slice_index new.store.transactions.pages.parts.directory.current u)) before after

-- the place was erased that the status has now
abbrev pub HasNewStatus : ScriptStore → Told → Told → Type 0
HasNewStatus new before after =
    Spends (HasErased new.store.transactions.pages.parts.status.place) before after

-- A get and a share say what the name's own page shows; a merge that isn't refused has moved its
-- unit, and a restart has renewed the status place.
abbrev pub HasDone : Command → ScriptStore → Told → Reply → ScriptStore → Told → Type 0
HasDone (command.Begin s) old before r new after = Unit {0}
HasDone (command.Get s n) old before r new after = SaysSeen s n old before r
HasDone (command.Share s n) old before r new after = SaysSeen s n old before r
HasDone (command.Put s n bytes) old before r new after = Unit {0}
HasDone (command.Del s n) old before r new after = Unit {0}
HasDone (command.Commit s) old before r new after = Unit {0}
HasDone (command.Batch ss) old before r new after = Unit {0}
HasDone (command.Abort s) old before r new after = Unit {0}
HasDone (command.List a b) old before r new after = Unit {0}
HasDone (command.Merge u) old before r new after = IsRefusal r ⊎ UnitHasMoved u new before after
HasDone command.Restart old before r new after = HasNewStatus new before after
HasDone command.Syntax old before r new after = Unit {0}

-- a record that was looked up is that which the name's own page shows
abbrev pub HasFound : ℕ → ScriptStore → Told → Option (List ℕ) → Type 0
HasFound n old before found = n < UNIT_NAMES * old.store.units → HasCommitted n old.store before found
