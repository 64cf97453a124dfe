-- The state of the rules that sessions stand for. A lock doesn't depend on what was put, so each write is a delete there,
-- and no name has a record.
use Rattle.std.specs.Prelude.{ℕ, ◌==◌, Bool, not, ◌&&◌, ◌||◌, List, map, reverse, find, Option, None, if◌then◌else◌}
use Rattle.std.specs.Option.{option_map}
use Rattle.std.specs.FinMap.{empty}
use Rattle.ipl_model.specs.Slots.{open_from, opened}
use Rattle.ipl_model.specs.State.{Write, Session, State, has_written, has_shared}
use Rattle.record_locks.specs.Held.{Held, SessionSlots}

-- a write of a name, as the rules have it
abbrev pub write_of : ℕ → Write
write_of n = (n, None)

-- a session, as the rules have it
abbrev pub session_of : Held → Session
session_of h = record { writes = map write_of (reverse h.written); shared = reverse h.shared }

-- a session or none, as the rules have it
abbrev pub slot_of : Option Held → Option Session
slot_of slot = option_map session_of slot

-- no record, and the open sessions
unfoldable pub state_of : SessionSlots → State
state_of slots = record { map = empty; sessions = opened (map slot_of slots) }

-- a session keeps others from writing a name, or from sharing it
abbrev pub keeps_from : Bool → ℕ → Session → Bool
keeps_from for_write n session = if for_write then has_written session n || has_shared session n else has_written session n

-- the least open session other than s that keeps it from a name
abbrev pub least_holder : List (Option Session) → ℕ → ℕ → Bool → Option ℕ
least_holder slots s n for_write = option_map (λ e. e.0) (find (λ e. not (e.0 == s) && keeps_from for_write n e.1) (open_from 0 slots))
