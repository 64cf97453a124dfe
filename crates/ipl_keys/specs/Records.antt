-- What records say of keys: each is a bucket, and a key has the value that its bucket has.
use Rattle.std.specs.Prelude.{ℕ, ◌≡◌, List, [], Option, unwrap_or}
use Rattle.std.specs.FinMap.{get}
use Rattle.ipl_model.specs.State.{Map}
use Rattle.ipl_keys.specs.BucketPairs.{Pairs, value_at}
use Rattle.ipl_keys.specs.Bucket.{IsBucket, bucket_bytes}
use Rattle.ipl_keys.specs.BucketHome.{bucket_of, HaveHome}
use Rattle.ipl_keys.specs.KeyState.{KeyMap}

-- the bytes of a record, none where there is no record
abbrev pub bytes_of : Option (List ℕ) → List ℕ
bytes_of found = unwrap_or found []

-- the pairs are a bucket, and their keys live in that of this name
pub record IsBucketOf (units n : ℕ) (pairs : Pairs) : Type 0 where
  pub bucket : IsBucket pairs
  pub home : HaveHome units n pairs

-- the record of a name has these pairs; none is that of no pairs
pub record HoldsPairs (units n : ℕ) (found : Option (List ℕ)) (pairs : Pairs) : Type 0 where
  pub is : IsBucketOf units n pairs
  pub text : bytes_of found ≡ bucket_bytes pairs

-- The records have keys: each record is a bucket of keys that live there, and these are all keys.
pub record HasKeys (units : ℕ) (m : Map) (keys : KeyMap) : Type 0 where
  pub pairs : ℕ → Pairs
  pub records : (n : ℕ) → HoldsPairs units n (get m n) (pairs n)
  pub values : (key : List ℕ) → get keys key ≡ value_at key (pairs (bucket_of units key))
