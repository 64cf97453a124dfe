-- Tails, which are summed apart from what stands before them.
use Rattle.std.proofs.Common.{◌≡◌, ◌<◌, ◌^◌, ◌/◌, ◌%◌, ◌++◌, ℕ, List, [], ◌∷◌, length, get_or, sym, ap, ◌∙◌}
use Rattle.std.proofs.lemmas.List.Sums.{fold-append}
use Rattle.crc_sum.proofs.ShiftLemmas.{◌⊕◌}
use Rattle.crc_sum.proofs.ChunkLemmas.{each_byte, apart}
use Rattle.crc_sum.specs.Crc.{with_byte, register, tail_sum, crc}
use Rattle.crc_sum.specs.Tables.{shifted_bytes}

-- the bytes of a register, each looked up for itself
pub tail_taken : (r : ℕ) (held : List ℕ)
    → held ≡ r % 256 ∷ r / 256 % 256 ∷ r / 65536 % 256 ∷ r / 16777216 % 256 ∷ [] → r < 2 ^ 32
    → ((shifted_bytes 477 (get_or held 3 0) ⊕ shifted_bytes 478 (get_or held 2 0))
    ⊕ shifted_bytes 479 (get_or held 1 0)) ⊕ shifted_bytes 480 (get_or held 0 0)
    ≡ shifted_bytes 480 r
tail_taken r held parts low = rw (parts) (each_byte 476 r low)

-- what stands before a tail is shifted, and the tail brings in the rest
pub joined_to_tail : (n : ℕ) (front tail : List ℕ) → length tail ≡ n
    → (shifted_bytes n (register front) ⊕ tail_sum tail) ⊕ 0xFFFFFFFF ≡ crc (front ++ tail)
unfolding crc
joined_to_tail n front tail long =
    ap (λ (r : ℕ). r ⊕ 0xFFFFFFFF) (
    sym (
    fold-append with_byte 0xFFFFFFFF front tail
    ∙ apart (register front) tail
    ∙ ap (λ (k : ℕ). shifted_bytes k (register front) ⊕ tail_sum tail) long
    )
    )
