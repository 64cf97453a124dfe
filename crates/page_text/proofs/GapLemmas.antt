-- Texts of pages whose last slots are empty.
use Rattle.std.proofs.Common.{◌≡◌, ◌≤◌, ◌+◌, ℕ, zero, suc, List, [], ◌∷◌, ◌++◌, ◌∙◌, ap, sym, refl, arith, length, get_or, take, drop, Option, Some, None, append_assoc, length-append}
use Rattle.std.specs.List.{All}
use Rattle.ipl_format.specs.Version.{len_bytes}
use Rattle.ipl_format.specs.Page.{Slots, IsShort, slot_bytes, text_from}
use Rattle.ipl_format.proofs.PageLemmas.{first_from, same_parts}
use Rattle.page_text.proofs.SlotLemmas.{others_short}

-- ---- slots that hold nothing have no text

pub gap_text : (version k : ℕ) (xs : Slots) (n : ℕ) → ((i : ℕ) → n ≤ i → get_or xs i None ≡ None)
    → text_from version k xs ≡ text_from version k (take n xs)
unfolding text_from
gap_text version k [] zero h = refl
gap_text version k [] (suc n) h = refl
gap_text version k (x ∷ xs) zero h =
    ap (λ (o : Option (List ℕ)). slot_bytes version k o ++ text_from version (suc k) xs)
    (h 0 (omega arith))
    ∙ gap_text version (suc k) xs zero (λ i p. h (suc i) (omega arith))
gap_text version k (x ∷ xs) (suc n) h =
    ap (λ (t : List ℕ). slot_bytes version k x ++ t)
    (gap_text version (suc k) xs n (λ i p. h (suc i) (omega arith)))

-- ---- a front that ends with a value

abbrev pub IsValue : Option (List ℕ) → Type 0
IsValue None = ⊥
IsValue (Some v) = Unit {0}

abbrev pub EndsSome : Slots → Type 0
EndsSome [] = Unit {0}
EndsSome (o ∷ []) = IsValue o
EndsSome (o ∷ x ∷ xs) = EndsSome (x ∷ xs)

pub ends_push : (xs : Slots) (v : List ℕ) → EndsSome (xs ++ Some v ∷ [])
ends_push [] v = tt
ends_push (x ∷ []) v = tt
ends_push (x ∷ y ∷ xs) v = ends_push (y ∷ xs) v

-- and isn't empty where it ends with a value
pub record Starts (k : ℕ) (t : List ℕ) : Type 0 where
  pub first : ℕ
  pub tail : List ℕ
  pub from : k ≤ first
  pub parts : t ≡ first ∷ tail

starts : (version k : ℕ) (x : Option (List ℕ)) (xs : Slots) → EndsSome (x ∷ xs)
    → Starts k (text_from version k (x ∷ xs))
unfolding text_from
starts version k (Some v) xs h =
    record {
      first = k;
      tail = (len_bytes version (length v) ++ v) ++ text_from version (suc k) xs;
      from = omega arith;
      parts = refl;
    }
starts version k None [] h = absurd h
starts version k None (x ∷ xs) h = let s = starts version (suc k) x xs h in
    record { first = s.first; tail = s.tail; from = omega (arith, s.from); parts = s.parts }

ends_tail : (o : Option (List ℕ)) (xs : Slots) → EndsSome (o ∷ xs) → EndsSome xs
ends_tail o [] h = tt
ends_tail o (x ∷ xs) h = h

-- where a front that ends with a value is followed by a rest, the rest is the text of the other
-- slots
pub goes_on : (version k : ℕ) (front page : Slots) (rest : List ℕ) → All (IsShort version) front
    → All (IsShort version) page → EndsSome front → length front ≤ length page
    → text_from version k front ++ rest ≡ text_from version k page
    → rest ≡ text_from version (k + length front) (drop (length front) page)
unfolding text_from
goes_on version k [] page rest f g h fits e =
    e ∙ ap (λ (n : ℕ). text_from version n page) (omega arith)
goes_on version k (o ∷ front) [] rest f g h fits e = absurd (omega arith)
goes_on version k (Some v ∷ front) (Some w ∷ page) rest f g h fits e =
    let part = len_bytes version (length v) ++ v in
    let joined : ◌≡◌ {A = List ℕ} (k ∷ (part ++ (text_from version (suc k) front ++ rest)))
    (k ∷ ((len_bytes version (length w) ++ w) ++ text_from version (suc k) page)) =
    ap (λ (l : List ℕ). k ∷ l) (sym (append_assoc part (text_from version (suc k) front) rest))
    ∙ e in
    goes_on version (suc k) front page rest (others_short version (Some v) front f)
    (others_short version (Some w) page g) (ends_tail (Some v) front h) (omega (arith, fits))
    (same_parts version k v w (text_from version (suc k) front ++ rest)
    (text_from version (suc k) page) (f 0 None (omega arith)) (g 0 None (omega arith)) joined).1
    ∙ ap (λ (n : ℕ). text_from version n (drop (length front) page)) (omega arith)
goes_on version k (Some v ∷ front) (None ∷ page) rest f g h fits e =
    let late =
    first_from version (suc k) page k
    (((len_bytes version (length v) ++ v) ++ text_from version (suc k) front) ++ rest)
    (sym e) in absurd (omega (arith, late))
goes_on version k (None ∷ []) (p ∷ page) rest f g h fits e = absurd h
goes_on version k (None ∷ x ∷ front) (None ∷ page) rest f g h fits e =
    goes_on version (suc k) (x ∷ front) page rest (others_short version None (x ∷ front) f)
    (others_short version None page g) h (omega (arith, fits)) e
    ∙ ap (λ (n : ℕ). text_from version n (drop (suc (length front)) page)) (omega arith)
goes_on version k (None ∷ x ∷ front) (Some w ∷ page) rest f g h fits e =
    let s = starts version (suc k) x front h in
    let late = s.from in
    let same : s.first ≡ k =
    ap (λ (l : List ℕ). get_or l 0 0) (sym (ap (λ (l : List ℕ). l ++ rest) s.parts) ∙ e) in
    absurd (omega (arith, late, same))

-- a front is no longer than the whole
pub front_shorter : (version k : ℕ) (xs : Slots) (n : ℕ)
    → length (text_from version k (take n xs)) ≤ length (text_from version k xs)
unfolding text_from
front_shorter version k xs zero = omega arith
front_shorter version k [] (suc n) = omega arith
front_shorter version k (x ∷ xs) (suc n) =
    let rest = front_shorter version (suc k) xs n in
    omega (
      arith,
      rest,
      length-append (slot_bytes version k x) (text_from version (suc k) (take n xs)),
      length-append (slot_bytes version k x) (text_from version (suc k) xs),
    )
