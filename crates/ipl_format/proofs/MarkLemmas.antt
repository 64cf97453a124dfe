-- Marks: of these units there is one.
use Rattle.std.proofs.Common.{◌≡◌, ◌<◌, ◌+◌, ◌-◌, ◌*◌, ◌/◌, ◌%◌, ℕ, zero, suc, eqb, List, ◌∙◌, ap, ap₂, sym, refl, arith, get_or, inl, inr}
use Rattle.std.specs.Int.{bit_at}
use Rattle.std.proofs.lemmas.Bool.{cases_lt, false≢true}
use Rattle.std.proofs.lemmas.List.{get_or-take, ext_get_or}
use Rattle.std.proofs.lemmas.Nat.Bits.{bit_at-lt, same_from_bits_below}
use Rattle.ipl_format.specs.Mark.{SpellsMark, bit_of, has_unit}
use Rattle.ipl_format.specs.Laws.{MarksSpellOnce}

-- a bit is 0 or 1, and the test tells which
pub bit_once : (x y : ℕ) → x < 2 → y < 2 → eqb x 1 ≡ eqb y 1 → x ≡ y
bit_once zero zero low less same = refl
bit_once zero (suc zero) low less same = absurd (false≢true same)
bit_once (suc zero) zero low less same = absurd (false≢true (sym same))
bit_once (suc zero) (suc zero) low less same = refl
bit_once (suc (suc x)) y low less same = absurd (omega (arith, low))
bit_once zero (suc (suc y)) low less same = absurd (omega (arith, less))
bit_once (suc zero) (suc (suc y)) low less same = absurd (omega (arith, less))

-- a byte is made by its eight bits
pub byte_once : (x y : ℕ) → x < 256 → y < 256 → ((n : ℕ) → n < 8 → bit_of x n ≡ bit_of y n) → x ≡ y
byte_once x y low less same =
    same_from_bits_below 8 x y low less (λ n within. bit_once (bit_at x n) (bit_at y n) (bit_at-lt x n) (bit_at-lt y n) (same n within))

-- bit n of byte i behind the first four is that of unit 8 i + n
pub bit_of_unit : (payload : List ℕ) (i n : ℕ) → n < 8 → bit_of (get_or payload (4 + i) 0) n ≡ has_unit payload (8 * i + n)
bit_of_unit payload i n within =
    let byte : i ≡ (8 * i + n) / 8 = omega (arith, within) in
    let bit : n ≡ (8 * i + n) % 8 = omega (arith, within) in
    ap₂ (λ (j m : ℕ). bit_of (get_or payload (4 + j) 0) m) byte bit

module _ (units : ℕ) (a b : List ℕ) (p : SpellsMark units a) (q : SpellsMark units b) (same : (u : ℕ) → u < units → has_unit a u ≡ has_unit b u) where
  -- units that there aren't are in neither
  each_unit : (u : ℕ) → has_unit a u ≡ has_unit b u
  each_unit u = elim (cases_lt u units) [
    | inl there ↦ same u there
    | inr beyond ↦ p.unused u beyond ∙ sym (q.unused u beyond)
  ]

  -- the first four bytes say how many units there are
  first_bytes : (i : ℕ) → i < 4 → get_or a i 0 ≡ get_or b i 0
  first_bytes i low =
      sym (get_or-take 4 a i 0 low) ∙ (ap (λ (l : List ℕ). get_or l i 0) (p.says ∙ sym q.says) ∙ get_or-take 4 b i 0 low)

  each_byte : (i : ℕ) → get_or a i 0 ≡ get_or b i 0
  each_byte i = elim (cases_lt i 4) [
    | inl low ↦ first_bytes i low
    | inr high ↦
        let behind : 4 + (i - 4) ≡ i = omega (arith, high) in
        ap (λ (j : ℕ). get_or a j 0) (sym behind)
        ∙ (byte_once (get_or a (4 + (i - 4)) 0) (get_or b (4 + (i - 4)) 0) (p.bytes (4 + (i - 4))) (q.bytes (4 + (i - 4)))
        (λ n within. bit_of_unit a (i - 4) n within ∙ (each_unit (8 * (i - 4) + n) ∙ sym (bit_of_unit b (i - 4) n within)))
        ∙ ap (λ (j : ℕ). get_or b j 0) behind)
  ]

pub marks_spell_once : MarksSpellOnce
marks_spell_once units a b p q same =
    ext_get_or 0 a b (p.size ∙ sym q.size) (λ i inside. each_byte units a b p q same i)
