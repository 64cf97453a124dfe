-- Each entry of the tables is what its byte comes to, by computation.
use Rattle.std.proofs.Common.{◌≡◌, ℕ, zero, suc, ◌+◌, ◌<◌, List, [], ◌∷◌, map, drop, get_or, length, refl, ap, ◌∙◌, arith}
use Rattle.std.proofs.lemmas.List.{get_or-drop, get_or-map, length-map}
use Rattle.std.proofs.lemmas.List.FromFn.{get_or-range_with_len}
use Rattle.std.specs.List.{range_with_len}
use Rattle.crc_sum.specs.Crc.{shifted, shifted_8}
use Rattle.crc_sum.specs.Tables.{shifted_bytes}
use Rattle.crc_sum.specs.declared.tables.TheConstants.{TABLES}
use Rattle.crc_sum.specs.declared.zero_tables.TheConstants.{ZERO_TABLES}
use Rattle.crc_sum.specs.declared.tail_tables.TheConstants.{TAIL_TABLES}

-- so many tables, each of them the numbers before it, shifted by a byte
tables_from : ℕ → List ℕ → List (List ℕ)
tables_from zero xs = []
tables_from (suc n) xs = map shifted_8 xs ∷ tables_from n (map shifted_8 xs)

-- all entries, computed by the definition of the register
computed : TABLES ≡ tables_from 16 (range_with_len 0 256)
unfolding tables_from shifted_8 shifted
computed = refl

-- a table holds each number, shifted by a byte, and by one more for each table before it
held : (n k i d : ℕ) (xs none : List ℕ) → k < n → i < length xs
    → get_or (get_or (tables_from n xs) k none) i d ≡ shifted_bytes (suc k) (get_or xs i d)
unfolding tables_from shifted_bytes
held zero k i d xs none h l = absurd (omega (arith, h))
held (suc n) zero i d xs none h l = get_or-map shifted_8 xs i d d l
held (suc n) (suc k) i d xs none h l =
    held n k i d (map shifted_8 xs) none (omega (arith, h)) (omega (arith, length-map xs shifted_8, l))
    ∙ ap (shifted_bytes (suc k)) (get_or-map shifted_8 xs i d d l)

-- what is looked up
pub looked_up : (k i d : ℕ) (none : List ℕ) → k < 16 → i < 256
    → get_or (get_or TABLES k none) i d ≡ shifted_bytes (k + 1) i
looked_up k i d none h l =
    let byte : get_or (range_with_len 0 256) i d ≡ i = omega (arith, get_or-range_with_len 0 256 i d l) in
    let count : suc k ≡ k + 1 = omega arith in
    ap (λ (tables : List (List ℕ)). get_or (get_or tables k none) i d) computed
    ∙ held 16 k i d (range_with_len 0 256) none h l
    ∙ ap (shifted_bytes (suc k)) byte
    ∙ ap (λ (n : ℕ). shifted_bytes n i) count

-- the entries for blocks of zeros, computed by the definition of the register
computed_zeros : ZERO_TABLES ≡ drop 60 (tables_from 64 (range_with_len 0 256))
unfolding tables_from shifted_8 shifted
computed_zeros = refl

-- what is looked up there
pub zeros_looked_up : (k i d : ℕ) (none : List ℕ) → k < 4 → i < 256
    → get_or (get_or ZERO_TABLES k none) i d ≡ shifted_bytes (k + 61) i
zeros_looked_up k i d none h l =
    let byte : get_or (range_with_len 0 256) i d ≡ i = omega (arith, get_or-range_with_len 0 256 i d l) in
    let count : suc (60 + k) ≡ k + 61 = omega arith in
    ap (λ (tables : List (List ℕ)). get_or (get_or tables k none) i d) computed_zeros
    ∙ ap (λ (table : List ℕ). get_or table i d) (get_or-drop 60 (tables_from 64 (range_with_len 0 256)) k none)
    ∙ held 64 (60 + k) i d (range_with_len 0 256) none (omega (arith, h)) l
    ∙ ap (shifted_bytes (suc (60 + k))) byte
    ∙ ap (λ (n : ℕ). shifted_bytes n i) count

-- the entries for tails of zeros, computed by the definition of the register
computed_tail : TAIL_TABLES ≡ drop 476 (tables_from 480 (range_with_len 0 256))
unfolding tables_from shifted_8 shifted
computed_tail = refl

-- what is looked up there
pub tail_looked_up : (k i d : ℕ) (none : List ℕ) → k < 4 → i < 256
    → get_or (get_or TAIL_TABLES k none) i d ≡ shifted_bytes (k + 477) i
tail_looked_up k i d none h l =
    let byte : get_or (range_with_len 0 256) i d ≡ i = omega (arith, get_or-range_with_len 0 256 i d l) in
    let count : suc (476 + k) ≡ k + 477 = omega arith in
    ap (λ (tables : List (List ℕ)). get_or (get_or tables k none) i d) computed_tail
    ∙ ap (λ (table : List ℕ). get_or table i d) (get_or-drop 476 (tables_from 480 (range_with_len 0 256)) k none)
    ∙ held 480 (476 + k) i d (range_with_len 0 256) none (omega (arith, h)) l
    ∙ ap (shifted_bytes (suc (476 + k))) byte
    ∙ ap (λ (n : ℕ). shifted_bytes n i) count
