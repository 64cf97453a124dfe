-- The bytes of a bucket.
use Rattle.std.specs.Prelude.{ℕ, ◌≡◌, ◌≤◌, List, ◌∷◌, ◌++◌, length, All}
use Rattle.std.specs.List.{flat_map}
use Rattle.ipl_base.specs.declared.limits.TheConstants.{VALUE_LEN}
use Rattle.ipl_keys.specs.declared.bucket_limits.TheConstants.{KEY_LEN, KEY_VALUE_LEN}
use Rattle.ipl_keys.specs.BucketPairs.{Pairs, IsRising}

-- the key's length, the key, the value's length, the value
abbrev pub pair_bytes : List ℕ × List ℕ → List ℕ
pair_bytes p = length p.0 ∷ (p.0 ++ (length p.1 ∷ p.1))

-- the pairs, one after the other
abbrev pub bucket_bytes : Pairs → List ℕ
bucket_bytes pairs = flat_map pair_bytes pairs

-- a key has 1 to 16 bytes, a value at most 200
pub record IsPair (p : List ℕ × List ℕ) : Type 0 where
  pub some : 1 ≤ length p.0
  pub key : length p.0 ≤ KEY_LEN
  pub value : length p.1 ≤ KEY_VALUE_LEN

-- what has a spelling: pairs by rising keys, of at most 464 bytes in all
pub record IsBucket (pairs : Pairs) : Type 0 where
  pub each : All IsPair pairs
  pub rising : IsRising pairs
  pub short : length (bucket_bytes pairs) ≤ VALUE_LEN

-- the bytes spell these pairs
pub record SpellsBucket (bytes : List ℕ) (pairs : Pairs) : Type 0 where
  pub bucket : IsBucket pairs
  pub text : bytes ≡ bucket_bytes pairs

-- the bytes spell pairs
abbrev pub IsBucketText : List ℕ → Type 0
IsBucketText bytes = (pairs : Pairs) × SpellsBucket bytes pairs
