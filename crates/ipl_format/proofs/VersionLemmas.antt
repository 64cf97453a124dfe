-- Lengths in each version: how many bytes, and how they are read back.
use Rattle.std.proofs.Common.{◌≡◌, ◌≤◌, ◌<◌, ◌^◌, ℕ, ◌==◌, false, List, [], ◌∷◌, ◌++◌, ◌∙◌, ap, sym, refl, inl, inr, arith, length}
use Rattle.std.specs.Int.{w16, from_be_bytes}
use Rattle.std.proofs.lemmas.Bool.{cases_Bool}
use Rattle.std.proofs.lemmas.Nat.{from_be_bytes-to_be_bytes_2}
use Rattle.ipl_base.specs.declared.limits.TheConstants.{SHORT_LEN, VALUE_LEN}
use Rattle.ipl_format.specs.Numbers.{half}
use Rattle.ipl_format.specs.Version.{most_len, len_bytes, len_size, len_in}
use Rattle.ipl_format.proofs.ListLemmas.{parts_once}
use Rattle.ipl_format.proofs.NumberLemmas.{length-half, half_again}

pub half_once : (a b : ℕ) → a < 2 ^ 16 → b < 2 ^ 16 → half a ≡ half b → a ≡ b
unfolding half
half_once a b low less same = sym (from_be_bytes-to_be_bytes_2 a low) ∙ ap (from_be_bytes w16) same
    ∙ from_be_bytes-to_be_bytes_2 b less

-- two bytes hold the length of each value
pub most_len-fits : (version : ℕ) → most_len version < 2 ^ 16
most_len-fits version = elim (cases_Bool (version == 1)) [
  | inl first ↦ rw first (omega arith)
  | inr later ↦ rw later (omega arith)
]

-- a value of each version has room in the one that is written
pub most_len-le : (version : ℕ) → most_len version ≤ VALUE_LEN
most_len-le version = elim (cases_Bool (version == 1)) [
  | inl first ↦ rw first (omega arith)
  | inr later ↦ rw later (omega arith)
]

-- a value of version 1 has room in each version
pub most_len-ge : (version : ℕ) → SHORT_LEN ≤ most_len version
most_len-ge version = elim (cases_Bool (version == 1)) [
  | inl first ↦ rw first (omega arith)
  | inr later ↦ rw later (omega arith)
]

pub len_size-le : (version : ℕ) → len_size version ≤ 2
len_size-le version = elim (cases_Bool (version == 1)) [
  | inl first ↦ rw first (omega arith)
  | inr later ↦ rw later (omega arith)
]

-- all versions but the first are alike
pub most_alike : (v w : ℕ) → (v == 1) ≡ false → (w == 1) ≡ false → most_len v ≡ most_len w
most_alike v w p q = rw (p, q) refl

pub len_alike : (v w len : ℕ) → (v == 1) ≡ false → (w == 1) ≡ false
    → len_bytes v len ≡ len_bytes w len
len_alike v w len p q = rw (p, q) refl

pub length-len : (version len : ℕ) → length (len_bytes version len) ≡ len_size version
length-len version len = elim (cases_Bool (version == 1)) [
  | inl first ↦ rw first refl
  | inr later ↦ rw later (length-half len)
]

one_once : (a b : ℕ) → ◌≡◌ {A = List ℕ} (a ∷ []) (b ∷ []) → a ≡ b
one_once a b same = cc same

pub len_once : (version a b : ℕ) → a ≤ most_len version → b ≤ most_len version
    → len_bytes version a ≡ len_bytes version b → a ≡ b
len_once version a b low less same = elim (cases_Bool (version == 1)) [
  | inl first ↦ one_once a b (rw first at same)
  | inr later ↦ half_once a b (omega (arith, low, most_len-fits version))
      (omega (arith, less, most_len-fits version)) (rw later at same)
]

-- what is behind a length, too
pub len_parts : (version a b : ℕ) (x y : List ℕ) → a ≤ most_len version → b ≤ most_len version
    → len_bytes version a ++ x ≡ len_bytes version b ++ y → (a ≡ b) × (x ≡ y)
len_parts version a b x y low less same =
    let sizes = length-len version a ∙ sym (length-len version b) in
    let (fronts, rest) =
    parts_once (len_bytes version a) (len_bytes version b) x y sizes same in
    (len_once version a b low less fronts, rest)

pub len_again : (version len : ℕ) (rest : List ℕ) → len ≤ most_len version
    → len_in version (len_bytes version len ++ rest) ≡ len
len_again version len rest low = elim (cases_Bool (version == 1)) [
  | inl first ↦ rw first refl
  | inr later ↦ rw later (half_again len rest (omega (arith, low, most_len-fits version)))
]
