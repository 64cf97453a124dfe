-- How a bucket is read, pair by pair.
use Rattle.std.specs.Prelude.{ℕ, ◌+◌, ◌&&◌, Bool, List, length, take, drop, slice_index, nat_le}
use Rattle.ipl_keys.specs.declared.bucket_limits.TheConstants.{KEY_LEN, KEY_VALUE_LEN}

-- the first byte is the length of a key
abbrev pub key_len : List ℕ → ℕ
key_len bytes = slice_index bytes 0

-- behind the key stands the length of its value
abbrev pub value_len : List ℕ → ℕ
value_len bytes = slice_index bytes (1 + key_len bytes)

-- the bytes of both, with their lengths
abbrev pub pair_len : List ℕ → ℕ
pair_len bytes = 2 + key_len bytes + value_len bytes

-- the bytes begin with a pair
abbrev pub has_pair : List ℕ → Bool
has_pair bytes = nat_le 1 (length bytes) && (nat_le 1 (key_len bytes) && (nat_le (key_len bytes) KEY_LEN
    && (nat_le (2 + key_len bytes) (length bytes) && (nat_le (value_len bytes) KEY_VALUE_LEN && nat_le (pair_len bytes) (length bytes)))))

-- its key
abbrev pub first_key : List ℕ → List ℕ
first_key bytes = take (key_len bytes) (drop 1 bytes)

-- its value
abbrev pub first_value : List ℕ → List ℕ
first_value bytes = take (value_len bytes) (drop (2 + key_len bytes) bytes)

-- the bytes after it
abbrev pub after_pair : List ℕ → List ℕ
after_pair bytes = drop (pair_len bytes) bytes
