-- The retired places that a status header lists, by computing.
use Rattle.std.specs.Prelude.{ℕ, zero, suc, ◌+◌, ◌*◌, ◌/◌, ◌==◌, ◌&&◌, nat_le, nat_lt, Bool, true, if◌then◌else◌, List, [], ◌∷◌, drop, length, slice_index}
use Rattle.ipl_base.specs.declared.limits.TheConstants.{RESERVED_PLACES, MOST_SPARES}
use Rattle.ipl_format.specs.Numbers.{word_at}

-- the first n numbers of four bytes
abbrev pub words_within : ℕ → List ℕ → List ℕ
words_within zero bytes = []
words_within (suc n) bytes = word_at 0 bytes ∷ words_within n (drop 4 bytes)

-- the bytes of the retired places in a status header's payload; before version 3 there are none
abbrev pub listed_bytes : ℕ → List ℕ → List ℕ
listed_bytes version payload = if nat_le 3 version then drop 9 payload else []

-- the places in such bytes
abbrev pub words_in : List ℕ → List ℕ
words_in bytes = words_within (length bytes / 4) bytes

-- the retired places in a status header's payload
abbrev pub retired_in : ℕ → List ℕ → List ℕ
retired_in version payload = words_in (listed_bytes version payload)

-- a status header's payload has as many bytes as it says; before version 3 it has 4
abbrev pub is_status_length : ℕ → List ℕ → Bool
is_status_length version payload =
    if nat_le 3 version then length payload == 9 + 4 * slice_index payload 8 else length payload == 4

-- the places rise, from this one on, and are the chip's
abbrev pub rise_within : ℕ → ℕ → List ℕ → Bool
rise_within places least [] = true
rise_within places least (p ∷ retired) =
    nat_le least p && (nat_lt p places && rise_within places (p + 1) retired)

-- a chip of so many places that keeps so many units may have retired these
abbrev pub may_be_retired : ℕ → ℕ → List ℕ → Bool
may_be_retired places units retired =
    rise_within places 0 retired
    && (nat_le (length retired) MOST_SPARES && nat_le (length retired + units + RESERVED_PLACES) places)
