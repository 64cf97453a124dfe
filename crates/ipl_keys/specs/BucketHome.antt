-- Which bucket a key lives in.
use Rattle.std.specs.Prelude.{ℕ, ◌≡◌, ◌*◌, ◌%◌, List, All}
use Rattle.crc_sum.specs.Crc.{crc}
use Rattle.ipl_base.specs.declared.limits.TheConstants.{UNIT_NAMES}
use Rattle.ipl_keys.specs.BucketPairs.{Pairs}

-- the name of a key's bucket, in a store of so many units
unfoldable pub bucket_of : ℕ → List ℕ → ℕ
bucket_of units key = crc key % (UNIT_NAMES * units)

-- the pair's key lives in the bucket of this name
abbrev pub LivesAt : ℕ → ℕ → List ℕ × List ℕ → Type 0
LivesAt units name p = bucket_of units p.0 ≡ name

-- all keys do
abbrev pub HaveHome : ℕ → ℕ → Pairs → Type 0
HaveHome units name pairs = All (LivesAt units name) pairs
