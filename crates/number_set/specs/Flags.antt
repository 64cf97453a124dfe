-- Flags beside a list of numbers: which ranks have one, and how many.
use Rattle.std.specs.Prelude.{ℕ, ◌+◌, ◌/◌, ◌%◌, ◌^◌, ◌==◌, Bool, List, [], ◌∷◌, slice_index, if◌then◌else◌}

-- a bit for each rank, how many flags were made, how many there may be, and beside how many numbers
pub record Flags : Type 0 where
  pub bytes : List ℕ
  pub count : ℕ
  pub most : ℕ
  pub room : ℕ

-- the bit of a rank, eight to a byte, the least one first
abbrev pub has_flag : List ℕ → ℕ → Bool
has_flag bytes i = (slice_index bytes (i / 8) / 2 ^ (i % 8)) % 2 == 1

-- of the numbers from the k-th on those that have a flag
abbrev pub flagged_from : (ℕ → Bool) → ℕ → List ℕ → List ℕ
flagged_from at k [] = []
flagged_from at k (n ∷ numbers) =
    if at k then n ∷ flagged_from at (k + 1) numbers else flagged_from at (k + 1) numbers

-- the numbers that have a flag
abbrev pub flagged : Flags → List ℕ → List ℕ
flagged flags numbers = flagged_from (has_flag flags.bytes) 0 numbers
