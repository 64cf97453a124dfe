-- What the text of a page says of its slots.
use Rattle.std.proofs.Common.{◌≡◌, ◌≤◌, ◌<◌, ◌+◌, ℕ, zero, suc, List, [], ◌∷◌, ◌++◌, ◌∙◌, ap, ap₂, refl, arith, length, get_or, take, drop, All, Option, Some, None, length-append, append_assoc}
use Rattle.std.proofs.Common.{◌==◌, false}
use Rattle.std.proofs.lemmas.Bool.{eq-eqb, ne_eqb}
use Rattle.std.proofs.Math.Seq.{drop-append_seam, take-append_seam}
use Rattle.ipl_format.specs.Version.{most_len, len_bytes, len_size, len_in}
use Rattle.ipl_format.specs.Page.{Slots, IsShort, text_from}
use Rattle.ipl_format.proofs.VersionLemmas.{length-len, len_again}
use Rattle.page_text.specs.Reading.{size_at}
use Rattle.page_ops.specs.Rebuilt.{value_at, TextsSayValues}

-- ---- the first record

module _ (version k : ℕ) (v rest : List ℕ) (short : length v ≤ most_len version) where
  size_there : size_at version (k ∷ ((len_bytes version (length v) ++ v) ++ rest)) ≡ length v
  size_there =
      ap (len_in version) (append_assoc (len_bytes version (length v)) v rest)
      ∙ len_again version (length v) (v ++ rest) short

  head_size : 1 + len_size version ≡ length (k ∷ len_bytes version (length v))
  head_size = omega (arith, length-len version (length v))

  -- its value
  value_there : take (size_at version (k ∷ ((len_bytes version (length v) ++ v) ++ rest)))
      (drop (1 + len_size version) (k ∷ ((len_bytes version (length v) ++ v) ++ rest))) ≡ v
  value_there =
      ap₂ (λ (n : ℕ) (t : List ℕ). take n t) size_there
      (ap₂ (λ (n : ℕ) (t : List ℕ). drop n (k ∷ t)) head_size
      (append_assoc (len_bytes version (length v)) v rest)
      ∙ drop-append_seam (k ∷ len_bytes version (length v)) (v ++ rest))
      ∙ take-append_seam v rest

  whole_size : 1 + len_size version
      + size_at version (k ∷ ((len_bytes version (length v) ++ v) ++ rest))
      ≡ length (k ∷ (len_bytes version (length v) ++ v))
  whole_size =
      omega (
        arith,
        size_there,
        length-len version (length v),
        length-append (len_bytes version (length v)) v,
      )

  -- and what is behind it
  behind_there : drop (1 + len_size version
      + size_at version (k ∷ ((len_bytes version (length v) ++ v) ++ rest)))
      (k ∷ ((len_bytes version (length v) ++ v) ++ rest)) ≡ rest
  behind_there =
      ap (λ (n : ℕ). drop n (k ∷ ((len_bytes version (length v) ++ v) ++ rest))) whole_size
      ∙ drop-append_seam (k ∷ (len_bytes version (length v) ++ v)) rest

-- ---- all of them

later_short : (version : ℕ) (x : Option (List ℕ)) (xs : Slots) → All (IsShort version) (x ∷ xs)
    → All (IsShort version) xs
later_short version x xs each = λ i d within. each (suc i) d (omega (arith, within))

-- of a slot that isn't the first one named, the rest says what the text says
past_first : (version n k slot : ℕ) (v rest : List ℕ) → length v ≤ most_len version
    → (k == slot) ≡ false
    → value_at version (suc n) (k ∷ ((len_bytes version (length v) ++ v) ++ rest)) slot
    ≡ value_at version n rest slot
unfolding value_at
past_first version n k slot v rest short other =
    rw other (ap (λ (t : List ℕ). value_at version n t slot) (behind_there version k v rest short))

-- no slot below the first one is named
none_below : (version n k slot : ℕ) (xs : Slots) → All (IsShort version) xs → slot < k
    → value_at version n (text_from version k xs) slot ≡ None
unfolding value_at text_from
none_below version zero k slot xs each low = refl
none_below version (suc n) k slot [] each low = refl
none_below version (suc n) k slot (None ∷ xs) each low =
    none_below version (suc n) (suc k) slot xs (later_short version None xs each)
    (omega (arith, low))
none_below version (suc n) k slot (Some v ∷ xs) each low =
    past_first version n k slot v (text_from version (suc k) xs) (each 0 None (omega arith))
    (ne_eqb k slot (λ same. omega (arith, same, low)))
    ∙ none_below version n (suc k) slot xs (later_short version (Some v) xs each)
    (omega (arith, low))

-- the i-th slot from the first one on has what the text says
named : (version n k slot i : ℕ) (xs : Slots) → All (IsShort version) xs → slot ≡ k + i
    → i < length xs → length (text_from version k xs) ≤ n
    → value_at version n (text_from version k xs) slot ≡ get_or xs i None
unfolding value_at text_from
named version n k slot i [] each is within most = absurd (omega (arith, within))
named version n k slot zero (None ∷ xs) each is within most =
    none_below version n (suc k) slot xs (later_short version None xs each) (omega (arith, is))
named version n k slot (suc i) (None ∷ xs) each is within most =
    named version n (suc k) slot i xs (later_short version None xs each) (omega (arith, is))
    (omega (arith, within)) most
named version zero k slot i (Some v ∷ xs) each is within most = absurd (omega (arith, most))
named version (suc n) k slot zero (Some v ∷ xs) each is within most =
    rw (eq-eqb k slot (omega (arith, is)))
    (ap (λ (t : List ℕ). Some t)
    (value_there version k v (text_from version (suc k) xs) (each 0 None (omega arith))))
named version (suc n) k slot (suc i) (Some v ∷ xs) each is within most =
    let rest = text_from version (suc k) xs in
    past_first version n k slot v rest (each 0 None (omega arith))
    (ne_eqb k slot (λ same. omega (arith, same, is)))
    ∙ named version n (suc k) slot i xs (later_short version (Some v) xs each)
    (omega (arith, is)) (omega (arith, within))
    (omega (arith, most, length-append (len_bytes version (length v) ++ v) rest))

pub texts_say_values : TextsSayValues
texts_say_values version text page is slot low =
    ap (λ (t : List ℕ). value_at version (length t) t slot) is.text
    ∙ named version (length (text_from version 0 page)) 0 slot slot page is.slots.short
    (omega arith) (omega (arith, low, is.slots.slots)) (omega arith)
