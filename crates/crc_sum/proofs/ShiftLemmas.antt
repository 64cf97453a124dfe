-- A shift of an exclusive or is the exclusive or of the shifts, so each byte of a register is
-- shifted for itself.
use Rattle.std.proofs.Common.{◌≡◌, ℕ, zero, suc, ◌+◌, ◌*◌, ◌/◌, ◌%◌, ◌<◌, Bool, true, false, cond, eqb, List, [], ◌∷◌, get_or, refl, sym, ap, ◌∙◌, arith}
use Rattle.std.specs.Prelude.{bit_xor}
use Rattle.std.specs.Int.Bits.{xor_assoc, xor_zero_r}
use Rattle.std.proofs.lemmas.Nat.{xor_comm, xor_shr, xor_mod, xor_block}
use Rattle.crc_sum.specs.Crc.{shifted, shifted_8, with_byte}
use Rattle.crc_sum.specs.Tables.{shifted_bytes}

infixl 60 ◌⊕◌
-- the exclusive or
abbrev pub ◌⊕◌ : ℕ → ℕ → ℕ
a ⊕ b = bit_xor a b

-- the parts of two exclusive ors, put together another way
middle : (a b c d : ℕ) → (a ⊕ b) ⊕ (c ⊕ d) ≡ (a ⊕ c) ⊕ (b ⊕ d)
middle a b c d =
    xor_assoc a b (c ⊕ d)
    ∙ ap (bit_xor a) (sym (xor_assoc b c d) ∙ ap (λ (x : ℕ). x ⊕ d) (xor_comm b c) ∙ xor_assoc c b d)
    ∙ sym (xor_assoc a c (b ⊕ d))

-- what changes the register where this bit is shifted out
abbrev change : ℕ → ℕ
change bit = cond (eqb bit 1) 0xEDB88320 0

-- the lowest bit alone decides what changes it
shifted_parts : (r : ℕ) → shifted r ≡ (r / 2) ⊕ change (r % 2)
unfolding shifted
shifted_parts r = by_case (eqb (r % 2) 1) (r / 2)
  where
    by_case : (b : Bool) (half : ℕ) → cond b (half ⊕ 0xEDB88320) half ≡ half ⊕ cond b 0xEDB88320 0
    by_case true half = refl
    by_case false half = sym (xor_zero_r half)

-- two bits change the register as each of them does
change_xor : (a b : ℕ) → a < 2 → b < 2 → change (a ⊕ b) ≡ change a ⊕ change b
change_xor zero b h l = refl
change_xor (suc zero) zero h l = refl
change_xor (suc zero) (suc zero) h l = refl
change_xor (suc zero) (suc (suc b)) h l = absurd (omega (arith, l))
change_xor (suc (suc a)) b h l = absurd (omega (arith, h))

-- a shift of an exclusive or is the exclusive or of the shifts
shifted_xor : (a b : ℕ) → shifted (a ⊕ b) ≡ shifted a ⊕ shifted b
shifted_xor a b =
    shifted_parts (a ⊕ b)
    ∙ ap (λ (x : ℕ). x ⊕ change ((a ⊕ b) % 2)) (xor_shr a b 1)
    ∙ ap (λ (x : ℕ). (a / 2) ⊕ (b / 2) ⊕ change x) (xor_mod a b 1)
    ∙ ap (bit_xor ((a / 2) ⊕ (b / 2))) (change_xor (a % 2) (b % 2) (omega arith) (omega arith))
    ∙ middle (a / 2) (b / 2) (change (a % 2)) (change (b % 2))
    ∙ sym (
    ap (λ (x : ℕ). x ⊕ shifted b) (shifted_parts a)
    ∙ ap (bit_xor ((a / 2) ⊕ change (a % 2))) (shifted_parts b)
    )

-- the same for a shift by a byte
pub shifted_8_xor : (a b : ℕ) → shifted_8 (a ⊕ b) ≡ shifted_8 a ⊕ shifted_8 b
unfolding shifted_8
shifted_8_xor a b =
    rw (shifted_xor a b, shifted_xor _ _, shifted_xor _ _, shifted_xor _ _, shifted_xor _ _, shifted_xor _ _, shifted_xor _ _, shifted_xor _ _)

-- an even number is shifted alone
halved : (m n : ℕ) → m ≡ n * 2 → shifted m ≡ n
halved m n even =
    let half : m / 2 ≡ n = omega (arith, even) in
    let none : m % 2 ≡ 0 = omega (arith, even) in
    shifted_parts m
    ∙ ap (λ (x : ℕ). x ⊕ change (m % 2)) half
    ∙ ap (λ (x : ℕ). n ⊕ change x) none
    ∙ xor_zero_r n

-- a number whose lowest byte is 0 is shifted alone
shifted_8_high : (n : ℕ) → shifted_8 (n * 256) ≡ n
unfolding shifted_8
shifted_8_high n =
    rw (
      halved (n * 256) (n * 128) (omega arith),
      halved (n * 128) (n * 64) (omega arith),
      halved (n * 64) (n * 32) (omega arith),
      halved (n * 32) (n * 16) (omega arith),
      halved (n * 16) (n * 8) (omega arith),
      halved (n * 8) (n * 4) (omega arith),
      halved (n * 4) (n * 2) (omega arith),
      halved (n * 2) n (omega arith),
    )

-- a number is its lowest byte and the rest
lowest_and_rest : (n : ℕ) → n ≡ (n % 256) ⊕ (n / 256 * 256)
lowest_and_rest n =
    let low : n % 256 ≡ 0 * 256 + n % 256 = omega arith in
    let high : n / 256 * 256 ≡ n / 256 * 256 + 0 = omega arith in
    let whole : n / 256 * 256 + n % 256 ≡ n = omega arith in
    sym (
    ap (λ (x : ℕ). x ⊕ (n / 256 * 256)) low
    ∙ ap (bit_xor (0 * 256 + n % 256)) high
    ∙ xor_block 8 0 (n / 256) (n % 256) 0 (omega arith) (omega arith)
    ∙ ap (λ (x : ℕ). n / 256 * 256 + x) (xor_zero_r (n % 256))
    ∙ whole
    )

-- of a shift by a byte, the lowest byte alone has to be looked up
pub shifted_8_split : (n : ℕ) → shifted_8 n ≡ shifted_8 (n % 256) ⊕ (n / 256)
shifted_8_split n =
    ap shifted_8 (lowest_and_rest n)
    ∙ shifted_8_xor (n % 256) (n / 256 * 256)
    ∙ ap (bit_xor (shifted_8 (n % 256))) (shifted_8_high (n / 256))

-- a number is added at once, or its lowest byte and then the rest
pub added : (r w : ℕ) → shifted_8 (r ⊕ w) ≡ with_byte r (w % 256) ⊕ (w / 256)
unfolding with_byte
added r w =
    ap (λ (x : ℕ). shifted_8 (r ⊕ x)) (lowest_and_rest w)
    ∙ ap shifted_8 (sym (xor_assoc r (w % 256) (w / 256 * 256)))
    ∙ shifted_8_xor (r ⊕ (w % 256)) (w / 256 * 256)
    ∙ ap (bit_xor (shifted_8 (r ⊕ (w % 256)))) (shifted_8_high (w / 256))

-- a byte is added to the lowest byte alone
first_byte : (r b : ℕ) → b < 256 → with_byte r b ≡ shifted_8 ((r % 256) ⊕ b) ⊕ (r / 256)
unfolding with_byte
first_byte r b h =
    let low : b % 256 ≡ b = omega (arith, h) in
    let none : b / 256 ≡ 0 = omega (arith, h) in
    shifted_8_split (r ⊕ b)
    ∙ ap (λ (x : ℕ). shifted_8 x ⊕ ((r ⊕ b) / 256)) (xor_mod r b 8 ∙ ap (bit_xor (r % 256)) low)
    ∙ ap (bit_xor (shifted_8 ((r % 256) ⊕ b)))
    (xor_shr r b 8 ∙ ap (bit_xor (r / 256)) none ∙ xor_zero_r (r / 256))

-- a byte, looked up by the register's lowest byte
pub one_byte : (r b x : ℕ) (low : List ℕ)
    → low ≡ r % 256 ∷ r / 256 % 256 ∷ r / 65536 % 256 ∷ r / 16777216 % 256 ∷ []
    → b < 256
    → x ≡ shifted_bytes 1 (get_or low 0 0 ⊕ b)
    → x ⊕ (r / 256) ≡ with_byte r b
unfolding shifted_bytes
one_byte r b x low parts h looked =
    ap (λ (y : ℕ). y ⊕ (r / 256))
    (looked ∙ ap (λ (ys : List ℕ). shifted_8 (get_or ys 0 0 ⊕ b)) parts)
    ∙ sym (first_byte r b h)
