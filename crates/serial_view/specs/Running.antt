-- What is kept of a run in place of its records and writes: the open sessions, and what is taken in pages.
use Rattle.std.specs.Prelude.{◌≡◌, ℕ, ◌+◌, ◌*◌, ◌<◌, ◌-◌, ◌/◌, ◌==◌, max, Bool, true, List, length, slice_index, slice_set, sum_by, Option, Some, if◌then◌else◌}
use Rattle.std.specs.List.{range_with_len}
use Rattle.std.specs.FinMap.{get}
use Rattle.ipl_base.specs.Sizes.{size_in_page}
use Rattle.ipl_base.specs.declared.limits.TheConstants.{SLOTS, UNIT_NAMES}
use Rattle.ipl_model.specs.State.{State, Limits, last_write, writes_of}
use Rattle.ipl_model.specs.Peaks as rules
use Rattle.ipl_model.specs.declared.command.Command.{Command}
use Rattle.ipl_model.specs.Step.{step}
use Rattle.record_locks.specs.Held as held
use Rattle.record_locks.specs.Held.{SessionSlots, is_among}
use Rattle.record_locks.specs.Names.{SameNames, SamePeaks}
use Rattle.record_locks.specs.Standing.{state_of}
use Rattle.serial_view.specs.declared.running.Running.{Running}
use Rattle.serial_view.specs.Serial.{accepts}
use Rattle.serial_view.specs.Turns.{KeptTurns, HasSlot, RunsCommand}

-- the units, the open sessions, and by name what its record takes in its page, what its last write by an open session
-- takes, and the most that such a write of it takes
pub record KeptRun : Type 0 where
  pub units : ℕ
  pub slots : SessionSlots
  pub records : List ℕ
  pub last : List ℕ
  pub most : List ℕ

-- what a run keeps
abbrev pub run_of : Running → KeptRun
run_of r = record {
  units = r.units;
  slots = r.sessions;
  records = r.records.items;
  last = r.last.items;
  most = r.most.items;
}

-- so many sessions, so many units, and the names of these
abbrev pub limits_with : ℕ → ℕ → Limits
limits_with sessions units = record { sessions = sessions; names = UNIT_NAMES * units; units = units }

-- its limits
abbrev pub run_limits : KeptRun → Limits
run_limits run = limits_with (length run.slots) run.units

-- each of the tables has a place for each of so many names
abbrev pub CoversNames : KeptRun → ℕ → Type 0
CoversNames run names = (length run.records ≡ names) × (length run.last ≡ names) × (length run.most ≡ names)

-- what is kept is what a state has: its sessions' names and peaks, and the sizes of its records and writes
pub record Tracks (state : State) (run : KeptRun) : Type 0 where
  pub names : SameNames (state_of run.slots) state
  pub peaks : SamePeaks run.slots state
  pub places : CoversNames run (run_limits run).names
  pub records : (n : ℕ) → n < (run_limits run).names → slice_index run.records n ≡ size_in_page (get state.map n)
  pub last : (s n : ℕ) (change : Option (List ℕ)) → n < (run_limits run).names
      → last_write (writes_of state s) n ≡ Some change → slice_index run.last n ≡ size_in_page change
  pub most : (n : ℕ) → n < (run_limits run).names → slice_index run.most n ≡ rules.peaks state n - 1

-- ---- what the calls do

-- a table in which the sizes of these names are set
pub record Sets (names : List ℕ) (value : ℕ → ℕ) (old new : List ℕ) : Type 0 where
  pub long : length new ≡ length old
  pub sizes : (n : ℕ) → n < length old
      → slice_index new n ≡ (if is_among n names then value n else slice_index old n)

-- a session's write of this size, of a name
abbrev pub after_write : KeptRun → ℕ → ℕ → ℕ → KeptRun
after_write run s n size = record run {
  slots = held.after_write run.slots s n size;
  last = slice_set run.last n size;
  most = slice_set run.most n (max size (slice_index run.most n));
}

-- what a name may come to take in its page, with one write more: of this size, of name n
abbrev pub room_in : KeptRun → ℕ → ℕ → ℕ → ℕ
room_in run n size name = max (slice_index run.records name)
    (if n == name then max size (slice_index run.most name) else slice_index run.most name)

-- what the page of a name may come to take, with a write of this size of it
unfoldable pub fill_in : KeptRun → ℕ → ℕ → ℕ
fill_in run n size = sum_by (λ slot. room_in run n size (n / SLOTS * SLOTS + slot)) (range_with_len 0 SLOTS)

-- the limits stay, and where what was kept is a state's, what is kept now is that of the next
pub record Follows (old : KeptRun) (next : State → State) (new : KeptRun) : Type 0 where
  pub limits : run_limits new ≡ run_limits old
  pub tracks : (state : State) → Tracks state old → Tracks (next state) new

-- one command's run, from whatever state: it tells whether the command is accepted
pub record TakesCommand (old : KeptRun) (c : Command) (new : KeptRun) (taken : Bool) : Type 0 where
  pub follows : Follows old (λ state. (step (run_limits old) state c).0) new
  pub tells : (state : State) → Tracks state old → taken ≡ accepts (run_limits old) state c
  pub slot : taken ≡ true → HasSlot c

-- and with its turn
pub record RunsTracked (old : KeptRun) (before : KeptTurns) (c : Command) (new : KeptRun) (after : KeptTurns)
    : Type 0 where
  pub follows : Follows old (λ state. (step (run_limits old) state c).0) new
  pub runs : (state : State) → Tracks state old
      → RunsCommand (run_limits old) state before c (step (run_limits old) state c).0 after
