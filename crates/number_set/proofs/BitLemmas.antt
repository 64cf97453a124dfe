-- The bits of flags.
use Rattle.std.proofs.Common.{◌≡◌, ◌<◌, ◌*◌, ◌/◌, ◌%◌, ◌^◌, ℕ, Bool, true, false, eqb, List, length, ◌∙◌, ap, sym, arith, get_or, set, replicate, length-set, inl, inr, w8, bit_or}
use Rattle.std.specs.Prelude.{◌||◌, ◌==◌}
use Rattle.std.specs.List.{refill}
use Rattle.std.proofs.lemmas.Bool.{cases_lt, cases_eq, eq-eqb, ne_eqb}
use Rattle.std.proofs.lemmas.List.{get_or_past, get_or-replicate, get_or-set_same, get_or-set_other, length-replicate}
use Rattle.std.proofs.lemmas.Nat.Bits.{bit_at-zero, bit_at_set_same, bit_at_set_other}
use Rattle.bounded_vec.proofs.WriteLemmas.{refilled}
use Rattle.number_set.specs.Flags.{has_flag}

-- zeros have none
pub no_bits : (n i : ℕ) (bytes : List ℕ) → bytes ≡ replicate n 0 → has_flag bytes i ≡ false
no_bits n i bytes is =
    ap (λ (x : ℕ). eqb ((x / 2 ^ (i % 8)) % 2) 1) zero_there ∙ ap (λ (x : ℕ). eqb x 1) (bit_at-zero (i % 8))
  where
    zero_there : get_or bytes (i / 8) 0 ≡ 0
    zero_there = ap (λ (l : List ℕ). get_or l (i / 8) 0) is ∙ elim (cases_lt (i / 8) n) [
      | inl inside ↦ get_or-replicate n (i / 8) 0 0 inside
      | inr past ↦ get_or_past (replicate n 0) (i / 8) 0 (let z : ℕ = 0 in omega (arith, past, length-replicate n z))
    ]

abbrev with_bit : List ℕ → ℕ → ℕ
with_bit xs at = bit_or (get_or xs (at / 8) 0) (1 * 2 ^ (at % 8) % 256)

abbrev changed : List ℕ → ℕ → List ℕ
changed xs at = set xs (at / 8) (with_bit xs at)

module _ (xs : List ℕ) (at : ℕ) (inside : at / 8 < length xs) (i : ℕ) where
  abbrev byte : ℕ
  byte = get_or xs (at / 8) 0

  there : get_or (changed xs at) (at / 8) 0 ≡ with_bit xs at
  there = get_or-set_same xs (at / 8) (with_bit xs at) 0 inside

  own : has_flag (changed xs at) at ≡ true
  own = ap (λ (x : ℕ). eqb ((x / 2 ^ (at % 8)) % 2) 1) there
      ∙ ap (λ (x : ℕ). eqb x 1) (bit_at_set_same w8 byte (at % 8) (omega arith))

  other : (i ≡ at → ⊥) → has_flag (changed xs at) i ≡ has_flag xs i
  other differ = elim (cases_eq (i / 8) (at / 8)) [
    | inl one ↦
        ap (λ (j : ℕ). eqb ((get_or (changed xs at) j 0 / 2 ^ (i % 8)) % 2) 1) one
        ∙ (ap (λ (x : ℕ). eqb ((x / 2 ^ (i % 8)) % 2) 1) there
        ∙ (ap (λ (x : ℕ). eqb x 1) (bit_at_set_other w8 byte (at % 8) (omega arith) (i % 8) (λ same. differ (omega (arith, same, one))))
        ∙ ap (λ (j : ℕ). eqb ((get_or xs j 0 / 2 ^ (i % 8)) % 2) 1) (sym one)))
    | inr apart ↦
        ap (λ (x : ℕ). eqb ((x / 2 ^ (i % 8)) % 2) 1)
        (get_or-set_other xs (at / 8) (i / 8) (with_bit xs at) 0 (λ same. apart (omega (arith, same))))
  ]

  pub bit_set : has_flag (changed xs at) i ≡ ((i == at) || has_flag xs i)
  bit_set = elim (cases_eq i at) [
    | inl same ↦ ap (has_flag (changed xs at)) same ∙ (own ∙ sym (ap (λ (b : Bool). b || has_flag xs i) (eq-eqb i at same)))
    | inr differ ↦ other differ ∙ sym (ap (λ (b : Bool). b || has_flag xs i) (ne_eqb i at differ))
  ]

-- in bytes that were lent, and stand in their place then
module _ (was lent : List ℕ) (at : ℕ) (same : lent ≡ was) where
  put : refill (length was) was (changed lent at) ≡ changed lent at
  put = refilled was (changed lent at) (length-set lent (at / 8) (with_bit lent at) ∙ ap length same)

  pub size_put : length (refill (length was) was (changed lent at)) ≡ length was
  size_put = ap length put ∙ length-set lent (at / 8) (with_bit lent at) ∙ ap length same

  pub bit_put : at / 8 < length was → (i : ℕ)
      → has_flag (refill (length was) was (changed lent at)) i ≡ ((i == at) || has_flag was i)
  bit_put inside i =
      ap (λ (l : List ℕ). has_flag l i) put ∙ bit_set lent at (omega (arith, inside, ap length same)) i
      ∙ ap (λ (l : List ℕ). (i == at) || has_flag l i) same
