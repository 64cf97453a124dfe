-- Whether a payload is that of a mark, by computing.
use Rattle.std.specs.Prelude.{ℕ, ◌+◌, ◌/◌, ◌%◌, ◌^◌, ◌==◌, ◌&&◌, nat_le, Bool, List, length, slice_index}
use Rattle.ipl_format.specs.Numbers.{word_at}
use Rattle.ipl_format.specs.Mark.{bits_length}

-- the last byte has no bit above that of the last unit
abbrev pub ends_in_time : ℕ → List ℕ → Bool
ends_in_time units payload = nat_le (slice_index payload (3 + bits_length units) / 2 ^ ((units + 7) % 8)) 1

-- the payload has as many bytes as a mark of so many units, says that number, and has no other unit
abbrev pub is_mark_payload : ℕ → List ℕ → Bool
is_mark_payload units payload =
    (length payload == 4 + bits_length units) && ((word_at 0 payload == units) && ends_in_time units payload)
