-- How many bytes records have, and a text around one of them.
use Rattle.std.proofs.Common.{◌≡◌, ◌≤◌, ◌<◌, ◌+◌, ℕ, zero, suc, List, [], ◌∷◌, ◌++◌, ◌∙◌, ap, sym, refl, arith, length, get_or, set, take, drop, Option, Some, None, append_assoc, length-append}
use Rattle.ipl_base.specs.declared.limits.TheConstants.{VERSION}
use Rattle.ipl_format.specs.Numbers.{half}
use Rattle.ipl_format.specs.Page.{Slots, slot_bytes, text_from}
use Rattle.ipl_format.proofs.NumberLemmas.{length-half}
use Rattle.page_text.specs.Texts.{size_of, size_below}

-- a record has its bytes
pub record_size : (k : ℕ) (o : Option (List ℕ)) → length (slot_bytes VERSION k o) ≡ size_of o
record_size k None = refl
record_size k (Some v) = omega (arith, length-append (half (length v)) v, length-half (length v))

-- ---- sizes

more_below : (n : ℕ) (xs : Slots) → n < length xs
    → size_below (suc n) xs ≡ size_below n xs + size_of (get_or xs n None)
unfolding size_below
more_below n [] h = absurd (omega arith)
more_below zero (x ∷ xs) h = omega arith
more_below (suc n) (x ∷ xs) h = let more = more_below n xs (omega arith) in omega (arith, more)

pub below_more : (n : ℕ) (xs : Slots) → n < length xs
    → size_below (n + 1) xs ≡ size_below n xs + size_of (get_or xs n None)
below_more n xs h = ap (λ (m : ℕ). size_below m xs) (omega arith) ∙ more_below n xs h

pub below_rise : (i j : ℕ) (xs : Slots) → i ≤ j → size_below i xs ≤ size_below j xs
unfolding size_below
below_rise zero j xs h = omega arith
below_rise (suc i) zero xs h = absurd (omega arith)
below_rise (suc i) (suc j) [] h = omega arith
below_rise (suc i) (suc j) (x ∷ xs) h = let more = below_rise i j xs (omega arith) in
    omega (arith, more)

-- one slot changed
pub below_set : (n i : ℕ) (xs : Slots) (o : Option (List ℕ)) → n < length xs → n < i
    → size_below i (set xs n o) + size_of (get_or xs n None) ≡ size_below i xs + size_of o
unfolding size_below
below_set n zero xs o h p = absurd (omega arith)
below_set n (suc i) [] o h p = absurd (omega arith)
below_set zero (suc i) (x ∷ xs) o h p = omega arith
below_set (suc n) (suc i) (x ∷ xs) o h p = let more =
    below_set n i xs o (omega arith) (omega arith) in omega (arith, more)

pub below_same : (n i : ℕ) (xs : Slots) (o : Option (List ℕ)) → i ≤ n
    → size_below i (set xs n o) ≡ size_below i xs
unfolding size_below
below_same n zero xs o p = refl
below_same n (suc i) [] o p = refl
below_same zero (suc i) (x ∷ xs) o p = absurd (omega arith)
below_same (suc n) (suc i) (x ∷ xs) o p = let more = below_same n i xs o (omega arith) in
    omega (arith, more)

-- ---- texts

pub text_size : (k n : ℕ) (xs : Slots) → n ≤ length xs
    → length (text_from VERSION k (take n xs)) ≡ size_below n xs
unfolding text_from size_below
text_size k zero xs h = refl
text_size k (suc n) [] h = absurd (omega arith)
text_size k (suc n) (x ∷ xs) h =
    let more = text_size (suc k) n xs (omega arith) in
    omega (
      arith,
      more,
      record_size k x,
      length-append (slot_bytes VERSION k x)
          (text_from VERSION (suc k) (take n xs)),
    )

-- the text around the record of a slot
pub text_split : (k n m : ℕ) (xs : Slots) → m ≡ k + n → n < length xs
    → text_from VERSION k xs ≡ text_from VERSION k (take n xs)
    ++ (slot_bytes VERSION m (get_or xs n None) ++ text_from VERSION
    (suc m) (drop (suc n) xs))
unfolding text_from
text_split k n m [] e h = absurd (omega arith)
text_split k zero m (x ∷ xs) e h =
    ap (λ (i : ℕ). slot_bytes VERSION i x ++ text_from VERSION (suc i) xs)
    (omega (arith, e))
text_split k (suc n) m (x ∷ xs) e h =
    ap (λ (t : List ℕ). slot_bytes VERSION k x ++ t) (text_split (suc k) n m xs (omega (arith, e))
    (omega arith))
    ∙ sym (append_assoc (slot_bytes VERSION k x) (text_from VERSION (suc k) (take n xs))
    (slot_bytes VERSION m (get_or xs n None) ++ text_from VERSION (suc m) (drop (suc n) xs)))

-- another record in its place
pub text_set : (k n m : ℕ) (xs : Slots) (o : Option (List ℕ)) → m ≡ k + n → n < length xs
    → text_from VERSION k (set xs n o) ≡ text_from VERSION k (take n xs)
    ++ (slot_bytes VERSION m o ++ text_from VERSION (suc m) (drop (suc n) xs))
unfolding text_from
text_set k n m [] o e h = absurd (omega arith)
text_set k zero m (x ∷ xs) o e h =
    ap (λ (i : ℕ). slot_bytes VERSION i o ++ text_from VERSION (suc i) xs)
    (omega (arith, e))
text_set k (suc n) m (x ∷ xs) o e h =
    ap (λ (t : List ℕ). slot_bytes VERSION k x ++ t) (text_set (suc k) n m xs o (omega (arith, e))
    (omega arith))
    ∙ sym (append_assoc (slot_bytes VERSION k x) (text_from VERSION (suc k) (take n xs))
    (slot_bytes VERSION m o ++ text_from VERSION (suc m) (drop (suc n) xs)))
