-- The first record of a text, and what the test of it says.
use Rattle.std.proofs.Common.{◌≡◌, ◌≤◌, ◌<◌, ◌+◌, ℕ, zero, suc, Bool, true, false, List, [], ◌∷◌, ◌++◌, ◌∙◌, ap, refl, arith, length, replicate, get_or, take, drop, All, Option, Some, None, append_assoc, length-append}
use Rattle.std.specs.Prelude.{◌&&◌}
use Rattle.std.proofs.lemmas.Bool.{le-leb, lt-ltb, false≢true}
use Rattle.std.proofs.lemmas.List.Elements.{All-nil, All-cons}
use Rattle.ipl_format.specs.Page.{Slots, IsShort, text_from}
use Rattle.ipl_format.specs.Version.{most_len, len_bytes, len_size, len_in}
use Rattle.ipl_format.proofs.VersionLemmas.{length-len, len_again}
use Rattle.page_text.specs.Reading.{has_slot, size_at}
use Rattle.page_text.proofs.SlotLemmas.{others_short}

pub record First (version k n : ℕ) (t : List ℕ) : Type 0 where
  pub slot : ℕ
  pub value : List ℕ
  pub after : List ℕ
  pub from : k ≤ slot
  pub below : slot < n
  pub short : length value ≤ most_len version
  pub parts : t ≡ slot ∷ ((len_bytes version (length value) ++ value) ++ after)

pub first_of : (version k : ℕ) (xs : Slots) → All (IsShort version) xs
    → 0 < length (text_from version k xs) → First version k (k + length xs) (text_from version k xs)
unfolding text_from
first_of version k [] h some = absurd (omega (arith, some))
first_of version k (Some v ∷ xs) h some =
    record {
      slot = k;
      value = v;
      after = text_from version (suc k) xs;
      from = omega arith;
      below = omega arith;
      short = h 0 None (omega arith);
      parts = refl;
    }
first_of version k (None ∷ xs) h some =
    let f = first_of version (suc k) xs (others_short version None xs h) some in
    record {
      slot = f.slot;
      value = f.value;
      after = f.after;
      from = omega (arith, f.from);
      below = omega (arith, f.below);
      short = f.short;
      parts = f.parts;
    }

and_true : {a b : Bool} → a ≡ true → b ≡ true → (a && b) ≡ true
and_true {a} {b} p q = rw (p, q) refl

pub both : (a b : Bool) → (a && b) ≡ true → (a ≡ true) × (b ≡ true)
both true b e = (refl, e)
both false b e = absurd (false≢true e)

begins : (version least slot : ℕ) (value after : List ℕ) → least ≤ slot → slot < 64
    → length value ≤ most_len version
    → has_slot version least (slot ∷ ((len_bytes version (length value) ++ value) ++ after)) ≡ true
begins version least slot value after from below short =
    let whole : List ℕ = slot ∷ ((len_bytes version (length value) ++ value) ++ after) in
    let size : length whole ≡ 1 + len_size version + length value + length after =
    omega (
      arith,
      length-append (len_bytes version (length value) ++ value) after,
      length-append (len_bytes version (length value)) value,
      length-len version (length value),
    )
    in
    let at : size_at version whole ≡ length value =
    ap (len_in version) (append_assoc (len_bytes version (length value)) value after)
    ∙ len_again version (length value) (value ++ after) short in
    and_true (le-leb (1 + len_size version) (length whole) (omega (arith, size)))
    (and_true (le-leb least slot from) (and_true (lt-ltb slot 64 below)
    (and_true (le-leb (size_at version whole) (most_len version) (omega (arith, at, short)))
    (le-leb (1 + len_size version + size_at version whole) (length whole)
    (omega (arith, size, at))))))

pub begins_so : (version least slot : ℕ) (rest value after : List ℕ)
    → rest ≡ slot ∷ ((len_bytes version (length value) ++ value) ++ after) → least ≤ slot
    → slot < 64
    → length value ≤ most_len version → has_slot version least rest ≡ true
begins_so version least slot rest value after parts from below short =
    ap (has_slot version least) parts ∙ begins version least slot value after from below short

pub short_drop : (version n : ℕ) (xs : Slots) → All (IsShort version) xs
    → All (IsShort version) (drop n xs)
short_drop version zero xs h = h
short_drop version (suc n) [] h = h
short_drop version (suc n) (x ∷ xs) h = short_drop version n xs (others_short version x xs h)

pub short_take : (version n : ℕ) (xs : Slots) → All (IsShort version) xs
    → All (IsShort version) (take n xs)
short_take version zero xs h = All-nil (IsShort version)
short_take version (suc n) [] h = All-nil (IsShort version)
short_take version (suc n) (x ∷ xs) h =
    All-cons (IsShort version) x (take n xs) (h 0 None (omega arith))
    (short_take version n xs (others_short version x xs h))

pub none_at : (n i : ℕ) → get_or (replicate {A = Option (List ℕ)} n None) i None ≡ None
none_at zero i = refl
none_at (suc n) zero = refl
none_at (suc n) (suc i) = none_at n i
