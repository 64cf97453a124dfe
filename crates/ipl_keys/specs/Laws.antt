-- Laws of keys: what sessions see, and that each operation on names is one on keys.
use Rattle.std.specs.Prelude.{ℕ, ◌≡◌, true, List}
use Rattle.ipl_model.specs.State.{Map, State, at_rest, is_open_session, see}
use Rattle.ipl_model.specs.Operations.{after_begin, after_write, after_commit, after_batch, after_abort}
use Rattle.store_laws.specs.PendingLaws.{StateHasOneWriter}
use Rattle.ipl_keys.specs.BucketPairs.{Pairs, value_at}
use Rattle.ipl_keys.specs.BucketHome.{bucket_of}
use Rattle.ipl_keys.specs.KeyState.{KeyMap, KeyWrite, KeyState, keys_at_rest, key_writes_of, see_key, after_key_begin, after_key_write, after_key_commit, after_key_batch, after_key_abort}
use Rattle.ipl_keys.specs.Records.{IsBucketOf, HoldsPairs, HasKeys}
use Rattle.ipl_keys.specs.Sessions.{pairs_after, pairs_seen, written, HasKeyState}

-- records have one map of keys
abbrev pub KeysAreOne : Type 0
KeysAreOne = (units : ℕ) (m : Map) (a b : KeyMap) → HasKeys units m a → HasKeys units m b → a ≡ b

-- the pairs of a bucket that a session sees
abbrev pub pairs_of : {units : ℕ} {state : State} {k : KeyState} → HasKeyState units state k → ℕ → ℕ
    → Pairs
pairs_of {units} {state} {k} has s n = pairs_seen units n (key_writes_of k s) (has.keys.pairs n)

-- what a session sees of a name is a bucket, and there it sees its keys
abbrev pub SessionsSeeKeys : Type 0
SessionsSeeKeys = (units : ℕ) (state : State) (k : KeyState) (has : HasKeyState units state k) (s : ℕ)
    → ((n : ℕ) → HoldsPairs units n (see state s n) (pairs_of has s n))
    × ((key : List ℕ) → value_at key (pairs_of has s (bucket_of units key)) ≡ see_key k s key)

-- a state at rest
abbrev pub RestingStatesHaveKeys : Type 0
RestingStatesHaveKeys = (units : ℕ) (m : Map) (keys : KeyMap) → HasKeys units m keys
    → HasKeyState units (at_rest m) (keys_at_rest keys)

-- a session is opened
abbrev pub BeginsKeepKeys : Type 0
BeginsKeepKeys = (units : ℕ) (state : State) (k : KeyState) (s : ℕ) → HasKeyState units state k
    → HasKeyState units (after_begin state s) (after_key_begin k s)

-- a key is put or deleted: what is written for the bucket that the session sees, with that write
abbrev pub WritesKeepKeys : Type 0
WritesKeepKeys = (units : ℕ) (state : State) (k : KeyState) (s : ℕ) (w : KeyWrite)
    → (has : HasKeyState units state k) → is_open_session state s ≡ true
    → IsBucketOf units (bucket_of units w.0) (pairs_after w (pairs_of has s (bucket_of units w.0)))
    → HasKeyState units (after_write state s (
      bucket_of units w.0,
      written (pairs_after w (pairs_of has s (bucket_of units w.0))),
    )) (after_key_write k s w)

-- a session is committed, where no name is written by two
abbrev pub CommitsKeepKeys : Type 0
CommitsKeepKeys = (units : ℕ) (state : State) (k : KeyState) (s : ℕ) → StateHasOneWriter state
    → HasKeyState units state k → HasKeyState units (after_commit state s) (after_key_commit k s)

-- several are, together
abbrev pub BatchesKeepKeys : Type 0
BatchesKeepKeys = (units : ℕ) (state : State) (k : KeyState) (ss : List ℕ) → StateHasOneWriter state
    → HasKeyState units state k → HasKeyState units (after_batch state ss) (after_key_batch k ss)

-- or one is aborted
abbrev pub AbortsKeepKeys : Type 0
AbortsKeepKeys = (units : ℕ) (state : State) (k : KeyState) (s : ℕ) → HasKeyState units state k
    → HasKeyState units (after_abort state s) (after_key_abort k s)
