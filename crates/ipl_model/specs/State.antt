-- What the store stands for: a map from names to values, and open sessions with their writes and shared names.
use Rattle.std.specs.Prelude.{ℕ, ◌==◌, Bool, not, ◌&&◌, ◌||◌, List, [], ◌∷◌, find, Option, Some, None, is_some, if◌then◌else◌}
use Rattle.std.specs.List.{flat_map, list_any}
use Rattle.std.specs.Ordering.{nat_cmp}
use Rattle.std.specs.Option.{option_map, option_map_or}
use Rattle.std.specs.FinMap.{FinMap, get, insert, remove, empty, entries}

-- the records: a value for each name that has one
abbrev pub Map : Type 0
Map = FinMap nat_cmp (List ℕ)

-- a name with the value that is put there, or with none where it is deleted
abbrev pub Write : Type 0
Write = ℕ × Option (List ℕ)

-- an open session: its writes, the newest first, and the names that it shares
pub record Session : Type 0 where
  pub writes : List Write
  pub shared : List ℕ

-- the records, and the open sessions by their numbers
pub record State : Type 0 where
  pub map : Map
  pub sessions : FinMap nat_cmp Session

-- how many sessions, names and units there are; each is numbered below that
pub record Limits : Type 0 where
  pub sessions : ℕ
  pub names : ℕ
  pub units : ℕ

-- these records, with no session open
abbrev pub at_rest : Map → State
at_rest m = record { map = m; sessions = empty }

-- ---- writes

-- the newest write of a name among these
abbrev pub last_write : List Write → ℕ → Option (Option (List ℕ))
last_write [] n = None
last_write (w ∷ older) n = if w.0 == n then Some w.1 else last_write older n

-- the names that these writes write, each once
abbrev pub written_names : List Write → List ℕ
written_names [] = []
written_names (w ∷ older) = if is_some (last_write older w.0) then written_names older else w.0 ∷ written_names older

-- the records with the writes applied, the oldest first
abbrev pub with_writes : List Write → Map → Map
with_writes [] m = m
with_writes (w ∷ older) m = option_map_or (λ value. insert (with_writes older m) w.0 value) w.1 (remove (with_writes older m) w.0)

-- what is seen of a name through these writes
abbrev pub seen_through : List Write → Map → ℕ → Option (List ℕ)
seen_through writes m n = option_map_or (λ change. change) (last_write writes n) (get m n)

-- ---- sessions

abbrev pub is_open_session : State → ℕ → Bool
is_open_session state s = is_some (get state.sessions s)

-- a session's writes, none where it isn't open
abbrev pub writes_of : State → ℕ → List Write
writes_of state s = option_map_or (λ session. session.writes) (get state.sessions s) []

-- the names that a session shares, none where it isn't open
abbrev pub shared_of : State → ℕ → List ℕ
shared_of state s = option_map_or (λ session. session.shared) (get state.sessions s) []

-- what a session sees of a name: its own last write, or else the record
abbrev pub see : State → ℕ → ℕ → Option (List ℕ)
see state s n = seen_through (writes_of state s) state.map n

-- the session wrote the name
abbrev pub has_written : Session → ℕ → Bool
has_written session n = is_some (last_write session.writes n)

-- the session shares the name
abbrev pub has_shared : Session → ℕ → Bool
has_shared session n = list_any (λ k. k == n) session.shared

-- the least open session other than s that passes the test
abbrev pub least_other : (Session → Bool) → State → ℕ → Option ℕ
least_other test state s = option_map (λ e. e.0) (find (λ e. not (e.0 == s) && test e.1) (entries state.sessions))

-- who keeps session s from sharing a name: the least other session that wrote it
abbrev pub holder_for_share : State → ℕ → ℕ → Option ℕ
holder_for_share state s n = least_other (λ session. has_written session n) state s

-- who keeps session s from writing a name: the least other session that wrote or shares it
abbrev pub holder_for_write : State → ℕ → ℕ → Option ℕ
holder_for_write state s n = least_other (λ session. has_written session n || has_shared session n) state s

-- all writes of open sessions
abbrev pub pending_writes : State → List Write
pending_writes state = flat_map (λ e. e.1.writes) (entries state.sessions)
