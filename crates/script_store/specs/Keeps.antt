-- How the store that a run of a script works with keeps a state, and what the work of each command
-- leaves of it.
use Rattle.std.specs.Prelude.{ℕ, ◌≡◌, ◌≤◌, false, List, Option, None, Result, Ok, Err, IfErr, OnOk, IsErrOf, is_ok, if◌then◌else◌}
use Rattle.chip_trait.specs.Chart.{says}
use Rattle.chip_trait.specs.Told.{History, Told, Counts, adds_all}
use Rattle.ipl_base.specs.declared.fault.StoreFault.{StoreFault}
use Rattle.ipl_base.specs.declared.fault.StoreFault.TheVariants as store
use Rattle.ipl_base.specs.Places.{spares_on}
use Rattle.ipl_model.specs.State.{State, Limits}
use Rattle.ipl_model.specs.declared.command.Command.{Command}
use Rattle.ipl_model.specs.declared.reply.Reply.{Reply}
use Rattle.ipl_model.specs.declared.reply.Reply.TheVariants as reply
use Rattle.ipl_format.specs.Sector.{sector_in}
use Rattle.ipl_meaning.specs.Legible.{every, of}
use Rattle.ipl_meaning.specs.Chart.{chart_of}
use Rattle.ipl_meaning.specs.Stands.{StandsIn}
use Rattle.ipl_meaning.specs.Marks.{MarksAreUnused}
use Rattle.ipl_meaning.specs.Tables.{IsCountedClean}
use Rattle.store_trait.specs.declared.fault.Fault.{Fault}
use Rattle.store_trait.specs.declared.fault.Fault.TheVariants.{Chip, Spent}
use Rattle.store_trait.specs.Onward.{Still, sayings}
use Rattle.store_trait.specs.Keeping.{Keeping, WORK_DRAWS, LOOK_UP_DRAWS, Draws, Works, LooksUp, LeavesTidy, Learns, DoneRecalls, is_restart}
use Rattle.store_laws.specs.Keeps.{KnownPages, KeepsStore, StoreCause, FaultTells, UsedNothing, keeps_each, keeps_still, said_unused, cause_longer}
use Rattle.ipl_store.specs.Calls.{view_of, counter_of, IsSound}
use Rattle.script_store.specs.declared.store.ScriptStore.{ScriptStore}
use Rattle.script_store.specs.Met.{FaultMet}
use Rattle.script_store.specs.Recalls.{RecallsErased, erased_still}
use Rattle.script_store.specs.Worn.{KnowsWorn, FaultWears, worn_still}

-- ---- what it keeps

-- the store is sound for a chip of so many places, and isn't down
pub record IsRunning (places : ℕ) (s : ScriptStore) : Type 0 where
  pub sound : IsSound places s.store
  pub up : s.store.down ≡ false

-- it keeps the state of these pages over a chip of so many places, with at most 1,024 units
pub record KeepsScript (places : ℕ) (known : KnownPages) (limits : Limits) (s : ScriptStore) (t : Told) (h : History)
    (state : State) : Type 0 where
  pub kept : KeepsStore places known.pages limits (view_of s.store) t h state
  pub few : s.store.units ≤ 1024

-- the next number that it draws; a store that is down draws none
abbrev pub next_number : ScriptStore → ℕ
next_number s = if s.store.down then 0 else counter_of s.store

-- what is said and what is read of a script changes nothing
pub script_still : (places : ℕ) (known : KnownPages) (limits : Limits) (s : ScriptStore) (old new : Told) (h : History)
    (state : State) → (still : Still old new) → KeepsScript places known limits s old h state
    → KeepsScript places known limits s new (adds_all (sayings still.pieces) h) state
script_still places known limits s old new h state still keeps = record {
  kept = keeps_still places known.pages limits (view_of s.store) old new h state still keeps.kept;
  few = keeps.few;
}

-- such a store over a chip of so many places, of whose pages this is known, as a run knows it
abbrev pub script_keeping : ℕ → KnownPages → Keeping ScriptStore
script_keeping places known = record {
  checks = says sector_in;
  whole = known.pages ≡ every;
  stands = λ limits x m. StandsIn places limits.units (chart_of x) (of known.pages m);
  holds = KeepsScript places known;
  suits = IsRunning places;
  clean = λ s p sector. IsCountedClean (view_of s.store).memory.tables p sector;
  marked = MarksAreUnused places;
  unused = λ s. UsedNothing places (view_of s.store);
  counter = next_number;
  does = λ e. Unit {0};
  cause = StoreCause places;
  knows = KnowsWorn;
  wears = FaultWears;
  recalls = RecallsErased;
  tells = λ limits fault. FaultTells (spares_on places limits.units) fault;
  met = FaultMet places;
  each = λ limits s t h state keeps.
      keeps_each places known.pages limits (view_of s.store) t h state keeps.kept;
  still = script_still places known;
  known_still = worn_still;
  unused_marked = λ s h unused. unused.0;
  unused_said = λ s. said_unused places (view_of s.store);
  recalled_still = erased_still;
  caused = cause_longer places;
}

-- ---- answers

-- what ended a call of the store, as a reply or a fault; one that is down isn't called
abbrev pub ended : StoreFault → Result Reply Fault
ended store.Down = Err Spent
ended store.Spent = Err Spent
ended (store.Refused refusal) = Ok (reply.Refused refusal)
ended (store.Chip fault) = Err (Chip fault)

-- a call's answer, where a reply says what it found
abbrev pub answer_of : {T : Type 0} → (T → Reply) → Result T StoreFault → Result Reply Fault
answer_of say (Ok found) = Ok (say found)
answer_of say (Err fault) = ended fault

-- where it found nothing
abbrev pub reply_of : Result (Unit {0}) StoreFault → Result Reply Fault
reply_of done = answer_of (λ v. reply.Ok) done

-- what ended a look-up, as its answer; no record has a name that is refused
abbrev pub not_found : StoreFault → Result (Option (List ℕ)) Fault
not_found store.Down = Err Spent
not_found store.Spent = Err Spent
not_found (store.Refused refusal) = Ok None
not_found (store.Chip fault) = Err (Chip fault)

abbrev pub looked_up : Result (Option (List ℕ)) StoreFault → Result (Option (List ℕ)) Fault
looked_up (Ok found) = Ok found
looked_up (Err fault) = not_found fault

-- ---- work

-- what the work of a command leaves, where this is known of the chip's pages
pub record DoesCommand (known : KnownPages) (c : Command) (old : ScriptStore) (before : Told) (result : Result Reply Fault)
    (new : ScriptStore) (after : Told) : Type 0 where
  pub works : Works (script_keeping before.places known) c old before result new after
  pub tidy : LeavesTidy (script_keeping before.places known) old new before after (is_ok result)
  pub draws : Draws (script_keeping before.places known) WORK_DRAWS old (IsErrOf result Spent) new
  pub running : OnOk result (IsRunning before.places new)
  pub learns : Learns (script_keeping before.places known) old before result new after
  pub recalls : is_restart c ≡ false → DoneRecalls (script_keeping before.places known) old before result new after
  pub counts : Counts before after
  pub cause : IfErr result (λ fault. StoreCause before.places fault before after)

-- what looking a record up leaves, likewise
pub record Finds (known : KnownPages) (n : ℕ) (old : ScriptStore) (before : Told)
    (result : Result (Option (List ℕ)) Fault) (new : ScriptStore) (after : Told) : Type 0 where
  pub looks_up : LooksUp (script_keeping before.places known) n old before result new after
  pub tidy : LeavesTidy (script_keeping before.places known) old new before after (is_ok result)
  pub draws : Draws (script_keeping before.places known) LOOK_UP_DRAWS old (IsErrOf result Spent) new
  pub running : OnOk result (IsRunning before.places new)
  pub learns : Learns (script_keeping before.places known) old before result new after
  pub recalls : DoneRecalls (script_keeping before.places known) old before result new after
  pub counts : Counts before after
  pub cause : IfErr result (λ fault. StoreCause before.places fault before after)
