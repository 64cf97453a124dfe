-- What the writes of open sessions say of keys.
use Rattle.std.specs.Prelude.{ℕ, ◌≡◌, ◌==◌, Bool, List, [], ◌∷◌, filter, Option, Some, None, is_some}
use Rattle.std.specs.Option.{option_map_or}
use Rattle.std.specs.FinMap.{get}
use Rattle.ipl_model.specs.State.{State, is_open_session, writes_of, last_write}
use Rattle.ipl_keys.specs.BucketPairs.{Pairs, set_pair, remove_pair}
use Rattle.ipl_keys.specs.Bucket.{bucket_bytes}
use Rattle.ipl_keys.specs.BucketHome.{bucket_of}
use Rattle.ipl_keys.specs.KeyState.{KeyWrite, KeyState, key_writes_of}
use Rattle.ipl_keys.specs.Records.{IsBucketOf, HasKeys}

-- ---- a bucket and the writes on its keys

-- the write is of a key that lives in this bucket
abbrev pub is_on : ℕ → ℕ → KeyWrite → Bool
is_on units n w = bucket_of units w.0 == n

-- of these writes those on a bucket
abbrev pub writes_on : ℕ → ℕ → List KeyWrite → List KeyWrite
writes_on units n writes = filter (is_on units n) writes

-- the pairs after a write
abbrev pub pairs_after : KeyWrite → Pairs → Pairs
pairs_after w pairs = option_map_or (λ value. set_pair w.0 value pairs) w.1 (remove_pair w.0 pairs)

-- the pairs after writes, the oldest first
abbrev pub pairs_with : List KeyWrite → Pairs → Pairs
pairs_with [] pairs = pairs
pairs_with (w ∷ older) pairs = pairs_after w (pairs_with older pairs)

-- the pairs of a bucket as a session sees them that wrote so, from the committed ones
abbrev pub pairs_seen : ℕ → ℕ → List KeyWrite → Pairs → Pairs
pairs_seen units n writes pairs = pairs_with (writes_on units n writes) pairs

-- what is written for pairs: their bytes, or a delete where there is none
abbrev pub written : Pairs → Option (List ℕ)
written [] = None
written (p ∷ pairs) = Some (bucket_bytes (p ∷ pairs))

-- ---- sessions

-- A session's last write on a name, by its writes on keys. Where it has one, that is what is written
-- for the bucket's committed pairs with its writes there; else it wrote no key there.
abbrev pub FollowsWrites : ℕ → ℕ → List KeyWrite → Pairs → Option (Option (List ℕ)) → Type 0
FollowsWrites units n writes pairs None = writes_on units n writes ≡ []
FollowsWrites units n writes pairs (Some change) = (change ≡ written (pairs_seen units n writes pairs))
    × IsBucketOf units n (pairs_seen units n writes pairs)

-- The state has this key state: its records have the keys, the same sessions are open, and what each
-- wrote follows from its writes on keys.
pub record HasKeyState (units : ℕ) (state : State) (k : KeyState) : Type 0 where
  pub keys : HasKeys units state.map k.map
  pub opens : (s : ℕ) → is_some (get k.sessions s) ≡ is_open_session state s
  pub follows : (s n : ℕ) → FollowsWrites units n (key_writes_of k s) (keys.pairs n)
      (last_write (writes_of state s) n)
