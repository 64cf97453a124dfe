-- One record of a text: where it stands, and what is behind it.
use Rattle.std.proofs.Common.{◌≡◌, ◌≤◌, ◌<◌, ◌+◌, ◌-◌, ◌*◌, ◌^◌, ℕ, zero, suc, Bool, true, false, List, [], ◌∷◌, ◌++◌, ◌∙◌, ap, ap₂, sym, refl, arith, length, get_or, take, drop, Option, Some, None, append_assoc, length-append, length-drop}
use Rattle.std.specs.Prelude.{slice_index, ◌&&◌}
use Rattle.std.specs.Int.{w16, from_be_bytes}
use Rattle.std.proofs.lemmas.Bool.{false≢true, leb-true, le-leb}
use Rattle.std.proofs.lemmas.List.{drop-drop, take-append-drop, length-take-le, get_or-drop, get_or-take}
use Rattle.ipl_format.specs.Page.{Slots, IsShort, slot_bytes, text_from}
use Rattle.ipl_format.proofs.ListLemmas.{and_true, bytes-drop, bytes-take}
use Rattle.ipl_format.specs.Numbers.{IsBytes, half, half_at}
use Rattle.ipl_format.proofs.NumberLemmas.{length-half, half_again, half_rebuilt}
use Rattle.ipl_format.proofs.PageLemmas.{first_from, same_parts}
use Rattle.page_text.specs.Texts.{BeginsWith, has_record}
use Rattle.ipl_base.specs.declared.limits.TheConstants.{VALUE_LEN, VERSION}

-- ---- what is left of a text

-- what is left is a record of the slot and what is behind it, or begins with no record of it
pub same_rest : (k : ℕ) (o : Option (List ℕ)) (others : Slots) (rest : List ℕ)
    → rest ≡ text_from VERSION k (o ∷ others) → (0 < length rest → get_or rest 0 0 ≡ k → ⊥)
    → rest ≡ text_from VERSION (suc k) others
unfolding text_from
same_rest k None others rest e none = e
same_rest k (Some w) others rest e none = absurd
    (none (omega (arith, ap length e)) (ap (λ (l : List ℕ). get_or l 0 0) e))

pub behind_record : (k : ℕ) (o : Option (List ℕ)) (others : Slots) (v after : List ℕ)
    → length v ≤ VALUE_LEN → IsShort VERSION o
    → slot_bytes VERSION k (Some v) ++ after ≡ text_from VERSION k (o ∷ others)
    → after ≡ text_from VERSION (suc k) others
unfolding text_from
behind_record k None others v after low less e =
    let late = first_from VERSION (suc k) others k ((half (length v) ++ v) ++ after) (sym e) in
    absurd (omega (arith, late))
behind_record k (Some w) others v after low less e =
    (same_parts VERSION k v w after (text_from VERSION (suc k) others) low less e).1

-- the length that stands behind a slot
half_behind : (k n : ℕ) (w t : List ℕ) → n < 2 ^ 16 → half_at 1 (k ∷ ((half n ++ w) ++ t)) ≡ n
unfolding half_at
half_behind k n w t low =
    ap (from_be_bytes w16) (append_assoc (half n) w t) ∙ half_again n (w ++ t) low

-- a record that is one has a length that fits
pub fits_whole : (k : ℕ) (o : Option (List ℕ)) (others : Slots) (rest : List ℕ) → IsShort VERSION o
    → rest ≡ text_from VERSION k (o ∷ others) → 0 < length rest → get_or rest 0 0 ≡ k
    → (3 ≤ length rest) × (half_at 1 rest ≤ VALUE_LEN) × (3 + half_at 1 rest ≤ length rest)
unfolding text_from
fits_whole k None others [] short e some first = absurd (omega (arith, some))
fits_whole k None others (a ∷ t) short e some first =
    let late = first_from VERSION (suc k) others a t (sym e) in absurd (omega (arith, late, first))
fits_whole k (Some w) others rest short e some first =
    let n = length w in
    let after = text_from VERSION (suc k) others in
    let said : half_at 1 rest ≡ n =
    ap (half_at 1) e ∙ half_behind k n w after (omega (arith, short)) in
    let size : length rest ≡ 3 + n + length after =
    omega (
      arith,
      ap length e,
      length-append (half n ++ w) after,
      length-append (half n) w,
      length-half n,
    ) in
    (omega (arith, size), omega (arith, said, short), omega (arith, said, size))

pub slot_and_more : (k : ℕ) (page : Slots) → k < length page
    → drop k page ≡ get_or page k None ∷ drop (suc k) page
slot_and_more k [] h = absurd (omega arith)
slot_and_more zero (x ∷ xs) h = refl
slot_and_more (suc k) (x ∷ xs) h = slot_and_more k xs (omega arith)

-- the bytes of what is left
pub first_byte : (bytes : List ℕ) (until at i : ℕ) → at + i < until
    → slice_index bytes (at + i) ≡ get_or (drop at (take until bytes)) i 0
first_byte bytes until at i h = sym (get_or-drop at (take until bytes) i 0
    ∙ get_or-take until bytes (at + i) 0 h)

pub left_size : (bytes : List ℕ) (until at : ℕ) → until ≤ length bytes
    → length (drop at (take until bytes)) ≡ until - at
left_size bytes until at fits = length-drop at (take until bytes)
    ∙ ap (λ (n : ℕ). n - at) (length-take-le until bytes fits)

-- ---- a record in bytes

-- two bytes that stand in both say one number
half_same : (i j : ℕ) (xs ys : List ℕ) → get_or xs i 0 ≡ get_or ys j 0
    → get_or xs (i + 1) 0 ≡ get_or ys (j + 1) 0 → half_at i xs ≡ half_at j ys
unfolding half_at
half_same i j xs ys high low =
    ap₂ (λ (a b : ℕ). a * 256 + b) (at_drop i xs 0
    ∙ (ap (λ (k : ℕ). get_or xs k 0) (omega arith)
    ∙ (high ∙ (ap (λ (k : ℕ). get_or ys k 0) (omega arith) ∙ sym (at_drop j ys 0)))))
    (at_drop i xs 1 ∙ (low ∙ sym (at_drop j ys 1)))
  where
    at_drop : (n : ℕ) (l : List ℕ) (k : ℕ) → get_or (drop n l) k 0 ≡ get_or l (n + k) 0
    at_drop n l k = get_or-drop n l k 0

first_half : (bytes : List ℕ) (until at : ℕ) → at + 3 ≤ until
    → half_at (at + 1) bytes ≡ half_at 1 (drop at (take until bytes))
first_half bytes until at h =
    half_same (at + 1) 1 bytes (drop at (take until bytes))
    (first_byte bytes until at 1 (omega (arith, h)))
    (ap (λ (k : ℕ). get_or bytes k 0) (let e : at + 1 + 1 ≡ at + 2 = omega arith in e)
    ∙ first_byte bytes until at 2 (omega (arith, h)))

-- a byte, two bytes and the rest
three_first : (rest : List ℕ) → 3 ≤ length rest
    → rest ≡ get_or rest 0 0 ∷ (take 2 (drop 1 rest) ++ drop 3 rest)
three_first [] h = absurd (omega arith)
three_first (a ∷ []) h = absurd (omega arith)
three_first (a ∷ b ∷ []) h = absurd (omega arith)
three_first (a ∷ b ∷ d ∷ rest) h = refl

-- the parts of a test
pub record HasRecord (bytes : List ℕ) (at until : ℕ) : Type 0 where
  pub long : at + 3 ≤ until
  pub short : half_at (at + 1) bytes ≤ VALUE_LEN
  pub whole : at + 3 + half_at (at + 1) bytes ≤ until

both : (a b : Bool) → (a && b) ≡ true → (a ≡ true) × (b ≡ true)
both true b e = (refl, e)
both false b e = absurd (false≢true e)

pub has_facts : (bytes : List ℕ) (at until : ℕ) → has_record bytes at until ≡ true
    → HasRecord bytes at until
has_facts bytes at until e =
    let a = both _ _ e in
    let b = both _ _ a.1 in
    record { long = leb-true _ _ a.0; short = leb-true _ _ b.0; whole = leb-true _ _ b.1 }

pub has_so : (bytes : List ℕ) (at until : ℕ) → HasRecord bytes at until
    → has_record bytes at until ≡ true
has_so bytes at until h = and_true (le-leb _ _ h.long)
    (and_true (le-leb _ _ h.short) (le-leb _ _ h.whole))

-- what the value of a record that stands here has
pub value_size : (bytes : List ℕ) (at until : ℕ) → until ≤ length bytes → HasRecord bytes at until
    → length (take (half_at (at + 1) bytes) (drop (at + 3) (take until bytes)))
    ≡ half_at (at + 1) bytes
value_size bytes at until fits facts =
    length-take-le (half_at (at + 1) bytes) (drop (at + 3) (take until bytes))
    (let left = left_size bytes until (at + 3) fits in omega (arith, left, facts.whole))

-- what is left, where a record stands
pub record_there : (bytes : List ℕ) (until at slot next : ℕ) → IsBytes bytes → until ≤ length bytes
    → BeginsWith bytes at until slot → HasRecord bytes at until
    → next ≡ at + 3 + half_at (at + 1) bytes
    → drop at (take until bytes) ≡ slot_bytes VERSION slot
    (Some (take (half_at (at + 1) bytes) (drop (at + 3) (take until bytes))))
    ++ drop next (take until bytes)
record_there bytes until at slot next small fits begins facts next_is =
    let text = take until bytes in
    let rest = drop at text in
    let len = half_at (at + 1) bytes in
    let value = take len (drop (at + 3) text) in
    let left = left_size bytes until at fits in
    let long : 3 ≤ length rest = omega (arith, left, facts.long) in
    let first : get_or rest 0 0 ≡ slot =
    sym (ap (λ (i : ℕ). slice_index bytes i) (let e : at ≡ at + 0 = omega arith in e)
    ∙ first_byte bytes until at 0 (omega (arith, facts.long))) ∙ begins.1 in
    let size : length value ≡ len = value_size bytes at until fits facts in
    let said : take 2 (drop 1 rest) ≡ half (length value) =
    half_rebuilt 1 rest (omega (arith, long, length-drop 1 rest))
    (bytes-drop 1 rest (bytes-drop at text (bytes-take until bytes small)))
    ∙ ap half (sym (first_half bytes until at facts.long) ∙ sym size) in
    let tail : drop 3 rest ≡ value ++ drop next text =
    drop-drop 3 at text ∙ (sym (take-append-drop len (drop (at + 3) text))
    ∙ ap (λ (t : List ℕ). value ++ t) (drop-drop len (at + 3) text
    ∙ ap (λ (n : ℕ). drop n text) (sym next_is))) in
    three_first rest long
    ∙ (ap₂ (λ (a : ℕ) (h : List ℕ). a ∷ (h ++ drop 3 rest)) first said
    ∙ (ap (λ (t : List ℕ). slot ∷ (half (length value) ++ t)) tail
    ∙ ap (λ (t : List ℕ). slot ∷ t)
    (sym (append_assoc (half (length value)) value (drop next text)))))

-- a record that should be here has the length that is read
pub said_here : (bytes : List ℕ) (until at : ℕ) → at + 3 ≤ until
    → half_at 1 (drop at (take until bytes)) ≤ VALUE_LEN
    → at + 3 + half_at 1 (drop at (take until bytes)) ≤ until → HasRecord bytes at until
said_here bytes until at long short whole =
    let same = first_half bytes until at long in record {
      long = long;
      short = omega (arith, same, short);
      whole = omega (arith, same, whole);
    }
