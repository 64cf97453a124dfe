-- The first four bytes of a record, in each version: what is spelled is read, and the other way.
use Rattle.std.proofs.Common.{◌≡◌, ◌≤◌, ◌<◌, ℕ, ◌+◌, List, [], ◌∷◌, ◌++◌, ◌∙◌, ap₂, refl, inl, inr, arith, length, take, get_or, length-drop, ◌*◌, ◌/◌, ◌%◌, ◌==◌}
use Rattle.std.specs.Prelude.{slice_index}
use Rattle.std.proofs.lemmas.Bool.{cases_Bool}
use Rattle.std.proofs.lemmas.Nat.{from_be_bytes-to_be_bytes_2}
use Rattle.std.proofs.Math.Seq.{take-add}
use Rattle.ipl_format.specs.Numbers.{IsBytes, half, half_at, long}
use Rattle.ipl_format.specs.Version.{most_len}
use Rattle.ipl_format.specs.Record.{record_head, kind_in, slot_in, size_in}
use Rattle.ipl_format.proofs.VersionLemmas.{most_len-fits}
use Rattle.ipl_format.proofs.ListLemmas.{bytes-drop}
use Rattle.ipl_format.proofs.NumberLemmas.{half_rebuilt}

-- what the bytes of a head say
pub record HeadSays (version page kind slot len : ℕ) (bytes : List ℕ) : Type 0 where
  pub page_is : slice_index bytes 0 ≡ page
  pub kind_is : kind_in version bytes ≡ kind
  pub slot_is : slot_in version bytes ≡ slot
  pub len_is : size_in version bytes ≡ len

pub head_again : (version page kind slot len : ℕ) (rest : List ℕ) → slot < 64 → len ≤ most_len version
    → HeadSays version page kind slot len (record_head version page kind slot len ++ rest)
unfolding record_head half half_at
head_again version page kind slot len rest low short = elim (cases_Bool (version == 1)) [
  | inl first ↦ rw first (record {
    page_is = refl;
    kind_is = rw first refl;
    slot_is = rw first refl;
    len_is = rw first refl;
  })
  | inr later ↦ rw later (record {
    page_is = refl;
    kind_is = rw later (omega (arith, low));
    slot_is = rw later (omega (arith, low));
    len_is =
        rw later (from_be_bytes-to_be_bytes_2 len (omega (arith, short, most_len-fits version)));
  })
]

four_at : (xs : List ℕ) (a b c d : ℕ) → 4 ≤ length xs → get_or xs 0 0 ≡ a → get_or xs 1 0 ≡ b
    → get_or xs 2 0 ≡ c → get_or xs 3 0 ≡ d
    → take 4 xs ≡ a ∷ b ∷ c ∷ d ∷ []
four_at [] a b c d long e f g h = absurd (omega arith)
four_at (x ∷ []) a b c d long e f g h = absurd (omega arith)
four_at (x ∷ y ∷ []) a b c d long e f g h = absurd (omega arith)
four_at (x ∷ y ∷ z ∷ []) a b c d long e f g h = absurd (omega arith)
four_at (x ∷ y ∷ z ∷ u ∷ xs) a b c d long e f g h =
    ap₂ (λ (p q : List ℕ). p ++ q) (ap₂ (λ (p q : ℕ). p ∷ q ∷ []) e f)
    (ap₂ (λ (p q : ℕ). p ∷ q ∷ []) g h)

two_at : (xs : List ℕ) (a b : ℕ) → 2 ≤ length xs → get_or xs 0 0 ≡ a → get_or xs 1 0 ≡ b
    → take 2 xs ≡ a ∷ b ∷ []
two_at [] a b long e f = absurd (omega arith)
two_at (x ∷ []) a b long e f = absurd (omega arith)
two_at (x ∷ y ∷ xs) a b long e f = ap₂ (λ (p q : ℕ). p ∷ q ∷ []) e f

-- four bytes are the head that they say
pub head_rebuilt : (version : ℕ) (bytes : List ℕ) → 4 ≤ length bytes → IsBytes bytes
    → take 4 bytes ≡ record_head version (slice_index bytes 0) (kind_in version bytes)
    (slot_in version bytes) (size_in version bytes)
unfolding record_head
head_rebuilt version bytes enough all = elim (cases_Bool (version == 1)) [
  | inl first ↦ rw first (four_at bytes _ _ _ _ enough refl refl refl refl)
  | inr later ↦
      let second : slice_index bytes 1
      ≡ 64 * (slice_index bytes 1 / 64) + slice_index bytes 1 % 64 = omega arith in
      rw later (take-add 2 2 bytes
      ∙ ap₂ (λ (xs ys : List ℕ). xs ++ ys)
      (two_at bytes (slice_index bytes 0) _ (omega (arith, enough)) refl second)
      (half_rebuilt 2 bytes (omega (arith, enough, length-drop 2 bytes)) (bytes-drop 2 bytes all)))
]
