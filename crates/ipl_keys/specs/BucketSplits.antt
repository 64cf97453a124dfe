-- The bytes of a bucket around a key.
use Rattle.std.specs.Prelude.{ℕ, ◌≡◌, ◌<◌, List, ◌∷◌, ◌++◌, take, drop, Some, None}
use Rattle.ipl_keys.specs.BucketPairs.{Pairs, value_at, set_pair, remove_pair}
use Rattle.ipl_keys.specs.Bucket.{bucket_bytes}
use Rattle.ipl_keys.specs.BucketReading.{first_value}

-- before `from` stand the pairs below the key, from `until` on those above it, and between them its own, where there is one
pub record Splits (bytes key : List ℕ) (pairs : Pairs) (from until : ℕ) : Type 0 where
  pub below : Pairs
  pub above : Pairs
  pub front : take from bytes ≡ bucket_bytes below
  pub back : drop until bytes ≡ bucket_bytes above
  pub set : (value : List ℕ) → set_pair key value pairs ≡ below ++ (key, value) ∷ above
  pub removed : remove_pair key pairs ≡ below ++ above
  pub absent : from ≡ until → value_at key pairs ≡ None
  pub present : from < until → value_at key pairs ≡ Some (first_value (drop from bytes))
