-- Blocks of zeros, which are taken at once.
use Rattle.std.proofs.Common.{◌≡◌, ◌<◌, ◌^◌, ◌/◌, ◌%◌, ℕ, zero, suc, List, [], ◌∷◌, length, get_or, replicate, refl, sym, ap, ap₂, ◌∙◌, arith}
use Rattle.std.specs.Prelude.{bit_or, fold}
use Rattle.std.specs.Int.Bits.{xor_zero_r}
use Rattle.std.proofs.lemmas.Nat.{le_or_l, le_or_r}
use Rattle.crc_sum.proofs.ShiftLemmas.{◌⊕◌}
use Rattle.crc_sum.proofs.ChunkLemmas.{each_byte}
use Rattle.crc_sum.specs.Crc.{shifted_8, with_byte, register_after}
use Rattle.crc_sum.specs.Tables.{shifted_bytes}

-- after zeros the register is shifted, and nothing else
zeros_taken : (n r : ℕ) → register_after r (replicate n 0) ≡ shifted_bytes n r
unfolding shifted_bytes with_byte
zeros_taken zero r = refl
zeros_taken (suc n) r =
    zeros_taken n (with_byte r 0) ∙ ap (λ (x : ℕ). shifted_bytes n (shifted_8 x)) (xor_zero_r r)

-- the bytes of a register, each looked up for itself
pub block_taken : (r : ℕ) (held : List ℕ)
    → held ≡ r % 256 ∷ r / 256 % 256 ∷ r / 65536 % 256 ∷ r / 16777216 % 256 ∷ [] → r < 2 ^ 32
    → ((shifted_bytes 61 (get_or held 3 0) ⊕ shifted_bytes 62 (get_or held 2 0))
    ⊕ shifted_bytes 63 (get_or held 1 0)) ⊕ shifted_bytes 64 (get_or held 0 0)
    ≡ register_after r (replicate 64 0)
block_taken r held parts low = rw (parts) (each_byte 60 r low ∙ sym (zeros_taken 64 r))

-- what is joined to nothing was nothing
joined_none : (a : ℕ) (bytes : List ℕ) → fold bit_or a bytes ≡ 0
    → (a ≡ 0) × (bytes ≡ replicate (length bytes) 0)
joined_none a [] none = (none, refl)
joined_none a (x ∷ xs) none =
    let rest = joined_none (bit_or a x) xs none in (
      omega (arith, le_or_l a x, rest.0),
      ap₂ (λ (y : ℕ) (ys : List ℕ). y ∷ ys) (omega (arith, le_or_r a x, rest.0)) (rest.1),
    )

-- a block whose bytes are joined to nothing has zeros alone
pub zero_block : (r : ℕ) (block : List ℕ) → length block ≡ 64 → fold bit_or 0 block ≡ 0
    → register_after r (replicate 64 0) ≡ register_after r block
zero_block r block long none =
    ap (λ (n : ℕ). register_after r (replicate n 0)) (sym long)
    ∙ ap (λ (xs : List ℕ). register_after r xs) (sym (joined_none 0 block none).1)
