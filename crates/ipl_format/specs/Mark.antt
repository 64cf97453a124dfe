-- The units that a mark says, the payload of a mark of a clean close (docs/FORMAT.md, "Mark payload").
use Rattle.std.specs.Prelude.{ℕ, ◌≡◌, ◌≤◌, ◌+◌, ◌/◌, ◌%◌, ◌^◌, ◌==◌, Bool, false, List, take, length, slice_index}
use Rattle.ipl_format.specs.Numbers.{IsBytes, word}

-- how many bytes have a bit for each of so many units
abbrev pub bits_length : ℕ → ℕ
bits_length units = (units + 7) / 8

-- the n-th bit of a byte, the least one first
abbrev pub bit_of : ℕ → ℕ → Bool
bit_of byte n = (byte / 2 ^ n) % 2 == 1

-- the payload has the unit: behind four bytes there is a bit for each
abbrev pub has_unit : List ℕ → ℕ → Bool
has_unit payload u = bit_of (slice_index payload (4 + u / 8)) (u % 8)

-- a mark says how many units there are, and some of these
pub record SpellsMark (units : ℕ) (payload : List ℕ) : Type 0 where
  pub bytes : IsBytes payload
  pub size : length payload ≡ 4 + bits_length units
  pub says : take 4 payload ≡ word units
  pub unused : (u : ℕ) → units ≤ u → has_unit payload u ≡ false
