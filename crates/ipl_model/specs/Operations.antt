-- What each operation does where it isn't refused.
use Rattle.std.specs.Prelude.{ℕ, zero, suc, ◌+◌, ◌-◌, ◌∷◌, ◌++◌, List, [], Option, Some, None, if◌then◌else◌}
use Rattle.std.specs.Option.{option_map_or}
use Rattle.std.specs.FinMap.{get, insert, remove}
use Rattle.ipl_model.specs.State.{Map, Write, Session, State, at_rest, with_writes, writes_of}
use Rattle.ipl_model.specs.Refusals.{is_new_share}

-- a session that has done nothing yet
abbrev pub new_session : Session
new_session = record { writes = []; shared = [] }

abbrev pub after_begin : State → ℕ → State
after_begin state s = record state { sessions = insert state.sessions s new_session }

-- the name is shared, unless the session wrote or shares it
abbrev pub after_share : State → ℕ → ℕ → State
after_share state s n = if is_new_share state s n
    then option_map_or (λ session. record state { sessions = insert state.sessions s (record session { shared = n ∷ session.shared }) }) (get state.sessions s) state
    else state

-- a put or a delete
abbrev pub after_write : State → ℕ → Write → State
after_write state s w = option_map_or (λ session. record state { sessions = insert state.sessions s (record session { writes = w ∷ session.writes }) }) (get state.sessions s) state

-- the session's writes become records, and it is closed
abbrev pub after_commit : State → ℕ → State
after_commit state s = record { map = with_writes (writes_of state s) state.map; sessions = remove state.sessions s }

-- the writes of these sessions become records, one session after the other, and they are closed
abbrev pub after_batch : State → List ℕ → State
after_batch state [] = state
after_batch state (s ∷ ss) = after_batch (after_commit state s) ss

abbrev pub after_abort : State → ℕ → State
after_abort state s = record state { sessions = remove state.sessions s }

-- all sessions are closed
abbrev pub after_restart : State → State
after_restart state = at_rest state.map

-- ---- lists of records

-- the record of a name, where there is one
abbrev pub row_of : ℕ → Option (List ℕ) → List (ℕ × List ℕ)
row_of n None = []
row_of n (Some value) = (n, value) ∷ []

-- the records of the k names from a on, rising
abbrev pub rows_from : Map → ℕ → ℕ → List (ℕ × List ℕ)
rows_from m a zero = []
rows_from m a (suc k) = rows_from m a k ++ row_of (a + k) (get m (a + k))

-- the records from name a to name b, rising; none where a is above b
abbrev pub rows : Map → ℕ → ℕ → List (ℕ × List ℕ)
rows m a b = rows_from m a (b + 1 - a)
