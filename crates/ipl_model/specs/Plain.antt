-- What the plain model stands for.
use Rattle.std.specs.Prelude.{◌≡◌, ℕ, ◌-◌, ◌*◌, ◌<◌, length, slice_index, max, ◌==◌, ◌++◌, Bool, not, ◌&&◌, ◌||◌, List, [], ◌∷◌, map, reverse, find, Option, Result, Ok, Err, Vec}
use Rattle.std.specs.List.{flat_map, range_with_len}
use Rattle.std.specs.Option.{option_map, option_map_or}
use Rattle.std.specs.FinMap.{empty, get, insert}
use Rattle.std.specs.declared.alloc.Global.{Global}
use Rattle.std.specs.declared.alloc.AllocError.{AllocError}
use Rattle.ipl_base.specs.declared.limits.TheConstants.{UNIT_NAMES, SESSIONS, SLOTS}
use Rattle.ipl_base.specs.declared.fault.Refusal.{Refusal}
use Rattle.ipl_base.specs.Sizes.{size_in_page}
use Rattle.ipl_model.specs.State as rules
use Rattle.ipl_model.specs.Peaks.{peaks_of, values_at, peaks_at}
use Rattle.ipl_model.specs.Slots.{open_from, opened}
use Rattle.ipl_model.specs.Operations.{after_abort}
use Rattle.ipl_model.specs.Refusals.{first_of, not_open, conflict, writes_full, pending_full}
use Rattle.ipl_model.specs.declared.plain_model.PlainModel.{PlainModel}
use Rattle.ipl_model.specs.declared.plain_model.log.Write.{Write}
use Rattle.ipl_model.specs.declared.plain_model.log.LoggedSession.{LoggedSession}
use Rattle.ipl_model.specs.declared.plain_model.locks.Lock.{Lock}
use Rattle.ipl_model.specs.declared.plain_model.locks.Lock.TheVariants as lock
use Rattle.ipl_model.specs.declared.command.Command.{Command}
use Rattle.ipl_model.specs.declared.reply.Reply.{Reply}
use Rattle.ipl_model.specs.Step.{step, Stepped}

-- a write, as the rules have it
abbrev pub write_of : Write → rules.Write
write_of w = (w.name, w.value)

-- the writes of a log, the newest first
abbrev pub newest_first : List Write → List rules.Write
newest_first log = reverse (map write_of log)

-- a session, as the rules have it
abbrev pub session_of : LoggedSession → rules.Session
session_of s = record { writes = newest_first s.writes.items; shared = reverse s.shared.items }

-- a session or none, as the rules have it
abbrev pub slot_of : Option LoggedSession → Option rules.Session
slot_of slot = option_map session_of slot

-- the records that a log of committed writes leaves
abbrev pub records_of : List Write → rules.Map
records_of committed = rules.with_writes (newest_first committed) empty

-- the records of the committed writes, and the open sessions
unfoldable pub state_of : PlainModel → rules.State
state_of m = record { map = records_of m.committed.items; sessions = opened (map slot_of m.sessions) }

-- 32 sessions, and 960 names in each unit
abbrev pub limits_for : ℕ → rules.Limits
limits_for units = record { sessions = SESSIONS; names = UNIT_NAMES * units; units = units }

-- the limits of the model
abbrev pub limits_of : PlainModel → rules.Limits
limits_of m = limits_for m.units

-- the writes of the session in a slot, none where there is none
abbrev pub writes_in : Option rules.Session → List rules.Write
writes_in slot = option_map_or (λ session. session.writes) slot []

-- all writes of open sessions
abbrev pub all_writes : List (Option rules.Session) → List rules.Write
all_writes slots = flat_map (λ e. e.1.writes) (open_from 0 slots)

-- the writes of these sessions, the newest first; each session stands once
abbrev pub batch_writes : rules.State → List ℕ → List rules.Write
batch_writes state [] = []
batch_writes state (s ∷ ss) = batch_writes state ss ++ rules.writes_of state s

-- what the records of a page take in its text, slot by slot
abbrev pub sizes_in : List Write → ℕ → List ℕ
sizes_in committed page = map (λ slot. size_in_page (values_at (records_of committed) page slot)) (range_with_len 0 SLOTS)

-- of each name below a limit, what its record takes in the text of its page
abbrev pub AreRecordSizes : List Write → List ℕ → Type 0
AreRecordSizes committed sizes = (n : ℕ) → n < length sizes → slice_index sizes n ≡ size_in_page (get (records_of committed) n)

-- what the slots of a page may come to take with the writes of another log
abbrev pub rooms_in : List Write → List Write → ℕ → List ℕ
rooms_in committed log page = map (λ slot. max (size_in_page (values_at (records_of committed) page slot)) (peaks_at (peaks_of (newest_first log)) page slot - 1)) (range_with_len 0 SLOTS)

-- the state with these writes among the records
abbrev pub with_records : List rules.Write → rules.State → rules.State
with_records writes state = record state { map = rules.with_writes writes state.map }

-- the state with these sessions closed
abbrev pub with_closed : rules.State → List ℕ → rules.State
with_closed state [] = state
with_closed state (s ∷ ss) = with_closed (after_abort state s) ss

-- the state with a name more among those that a session shares
abbrev pub with_share : rules.State → ℕ → ℕ → rules.State
with_share state s n = option_map_or (λ session. record state { sessions = insert state.sessions s (record session { shared = n ∷ session.shared }) }) (get state.sessions s) state

-- a session keeps others from sharing a name, or from writing it
abbrev pub keeps_from : Lock → ℕ → rules.Session → Bool
keeps_from lock.Share n session = rules.has_written session n
keeps_from lock.Write n session = rules.has_written session n || rules.has_shared session n

-- the least open session other than s that keeps it from a name
abbrev pub least_holder : List (Option rules.Session) → ℕ → Lock → ℕ → Option ℕ
least_holder slots s lock n = option_map (λ e. e.0) (find (λ e. not (e.0 == s) && keeps_from lock n e.1) (open_from 0 slots))

-- why a session's write of a name is refused, where the session, the name and the value are in range
abbrev pub refuses_write : rules.State → ℕ → rules.Write → Option Refusal
refuses_write state s w = first_of (not_open state s ∷ conflict (rules.holder_for_write state s w.0)
    ∷ writes_full state s w.0 ∷ pending_full state w ∷ [])

-- a step of the model, or nothing where memory is wanting
abbrev pub StepsOrStays : rules.State → Stepped → rules.State → Result (Vec Reply Global) AllocError → Type 0
StepsOrStays old stepped new (Ok replies) = stepped ≡ (new, replies.items)
StepsOrStays old stepped new (Err e) = new ≡ old

-- the model's step
pub record IsStep (old : PlainModel) (command : Command) (new : PlainModel) (result : Result (Vec Reply Global) AllocError) : Type 0 where
  pub answers : StepsOrStays (state_of old) (step (limits_of old) (state_of old) command) (state_of new) result
  pub limits : limits_of new ≡ limits_of old
