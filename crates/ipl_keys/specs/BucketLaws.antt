-- Laws of buckets.
use Rattle.std.specs.Prelude.{ℕ, ◌≡◌, List, [], Some, None, if◌then◌else◌}
use Rattle.std.specs.Ordering.{eq_by_cmp}
use Rattle.std.specs.FinMap.{insert, remove, get}
use Rattle.ipl_keys.specs.BucketPairs.{Pairs, IsRising, by_bytes, value_at, set_pair, remove_pair, map_of}
use Rattle.ipl_keys.specs.Bucket.{SpellsBucket}
use Rattle.ipl_keys.specs.BucketHome.{bucket_of, HaveHome}

-- bytes spell one list of pairs
abbrev pub BucketsSpellOnce : Type 0
BucketsSpellOnce = (bytes : List ℕ) (a b : Pairs) → SpellsBucket bytes a → SpellsBucket bytes b → a ≡ b

-- no pair has no bytes
abbrev pub NoPairsNoBytes : Type 0
NoPairsNoBytes = SpellsBucket [] []

-- what is looked up after a set
abbrev pub SetIsFound : Type 0
SetIsFound = (key value other : List ℕ) (pairs : Pairs)
    → value_at other (set_pair key value pairs) ≡ (if eq_by_cmp by_bytes other key then Some value else value_at other pairs)

-- and after a removal
abbrev pub RemovedIsGone : Type 0
RemovedIsGone = (key other : List ℕ) (pairs : Pairs)
    → value_at other (remove_pair key pairs) ≡ (if eq_by_cmp by_bytes other key then None else value_at other pairs)

-- both keep the order
abbrev pub SetsKeepOrder : Type 0
SetsKeepOrder = (key value : List ℕ) (pairs : Pairs) → IsRising pairs → IsRising (set_pair key value pairs)

abbrev pub RemovalsKeepOrder : Type 0
RemovalsKeepOrder = (key : List ℕ) (pairs : Pairs) → IsRising pairs → IsRising (remove_pair key pairs)

-- what is looked up is what the map has
abbrev pub MapsHaveValues : Type 0
MapsHaveValues = (key : List ℕ) (pairs : Pairs) → IsRising pairs → get (map_of pairs) key ≡ value_at key pairs

-- the map after a set is the map with the key set
abbrev pub MapsAreSet : Type 0
MapsAreSet = (key value : List ℕ) (pairs : Pairs) → IsRising pairs → map_of (set_pair key value pairs) ≡ insert (map_of pairs) key value

-- the map after a removal is the map without the key
abbrev pub MapsAreRemoved : Type 0
MapsAreRemoved = (key : List ℕ) (pairs : Pairs) → IsRising pairs → map_of (remove_pair key pairs) ≡ remove (map_of pairs) key

-- pairs with the same values are the same
abbrev pub PairsByValues : Type 0
PairsByValues = (a b : Pairs) → IsRising a → IsRising b → ((key : List ℕ) → value_at key a ≡ value_at key b) → a ≡ b

-- keys that live in a bucket still do after a set of one that does, and after a removal
abbrev pub SetsKeepHome : Type 0
SetsKeepHome = (units name : ℕ) (key value : List ℕ) (pairs : Pairs) → bucket_of units key ≡ name → HaveHome units name pairs
    → HaveHome units name (set_pair key value pairs)

abbrev pub RemovalsKeepHome : Type 0
RemovalsKeepHome = (units name : ℕ) (key : List ℕ) (pairs : Pairs) → HaveHome units name pairs → HaveHome units name (remove_pair key pairs)
