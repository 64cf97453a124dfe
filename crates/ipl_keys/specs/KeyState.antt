-- What a store of keys stands for: a map from keys to values, and open sessions with their writes.
use Rattle.std.specs.Prelude.{ℕ, List, [], ◌∷◌, Option, Some, None, if◌then◌else◌}
use Rattle.std.specs.Ordering.{nat_cmp, eq_by_cmp}
use Rattle.std.specs.Option.{option_map_or}
use Rattle.std.specs.FinMap.{FinMap, get, insert, remove, empty}
use Rattle.ipl_keys.specs.BucketPairs.{by_bytes}

-- a value for each key that has one
abbrev pub KeyMap : Type 0
KeyMap = FinMap by_bytes (List ℕ)

-- a key with the value that is put there, or with none where it is deleted
abbrev pub KeyWrite : Type 0
KeyWrite = List ℕ × Option (List ℕ)

-- the keys, and of each open session its writes, the newest first
pub record KeyState : Type 0 where
  pub map : KeyMap
  pub sessions : FinMap nat_cmp (List KeyWrite)

-- these keys, with no session open
abbrev pub keys_at_rest : KeyMap → KeyState
keys_at_rest m = record { map = m; sessions = empty }

-- ---- writes

-- the newest write of a key among these
abbrev pub last_key_write : List KeyWrite → List ℕ → Option (Option (List ℕ))
last_key_write [] key = None
last_key_write (w ∷ older) key =
    if eq_by_cmp by_bytes key w.0 then Some w.1 else last_key_write older key

-- the keys with the writes applied, the oldest first
abbrev pub with_key_writes : List KeyWrite → KeyMap → KeyMap
with_key_writes [] m = m
with_key_writes (w ∷ older) m = option_map_or (λ value. insert (with_key_writes older m) w.0 value) w.1
    (remove (with_key_writes older m) w.0)

-- ---- sessions

-- a session's writes, none where it isn't open
abbrev pub key_writes_of : KeyState → ℕ → List KeyWrite
key_writes_of k s = option_map_or (λ writes. writes) (get k.sessions s) []

-- what a session sees of a key: its own last write, or else the value
abbrev pub see_key : KeyState → ℕ → List ℕ → Option (List ℕ)
see_key k s key = option_map_or (λ change. change) (last_key_write (key_writes_of k s) key)
    (get k.map key)

-- ---- what each operation does where it isn't refused

abbrev pub after_key_begin : KeyState → ℕ → KeyState
after_key_begin k s = record k { sessions = insert k.sessions s [] }

-- a put or a delete
abbrev pub after_key_write : KeyState → ℕ → KeyWrite → KeyState
after_key_write k s w = record k {
  sessions = option_map_or (λ writes. insert k.sessions s (w ∷ writes)) (get k.sessions s) k.sessions;
}

-- the session's writes count, and it is closed
abbrev pub after_key_commit : KeyState → ℕ → KeyState
after_key_commit k s =
    record { map = with_key_writes (key_writes_of k s) k.map; sessions = remove k.sessions s }

-- so it is of each of these sessions, one after the other
abbrev pub after_key_batch : KeyState → List ℕ → KeyState
after_key_batch k [] = k
after_key_batch k (s ∷ ss) = after_key_batch (after_key_commit k s) ss

abbrev pub after_key_abort : KeyState → ℕ → KeyState
after_key_abort k s = record k { sessions = remove k.sessions s }
