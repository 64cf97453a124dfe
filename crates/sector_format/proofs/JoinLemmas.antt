-- Bytes joined by an or are 0 where each of them is.
use Rattle.std.proofs.Common.{◌≡◌, ◌<◌, ℕ, zero, suc, Bool, true, false, List, [], ◌∷◌, refl, sym, ap, ◌∙◌, arith}
use Rattle.std.specs.Prelude.{bit_or, fold, ◌&&◌}
use Rattle.std.specs.List.{list_all}
use Rattle.std.proofs.lemmas.Nat.{le_or_l}
use Rattle.std.proofs.lemmas.Bool.{ne_eqb}
use Rattle.ipl_format.specs.Sector.{is_zero}

-- what is more than 0 isn't 0
positive : (n : ℕ) → 0 < n → is_zero n ≡ false
positive n h = ne_eqb n 0 (λ e. omega (arith, h, e))

-- an or is 0 where both numbers are
or_is_zero : (a b : ℕ) → is_zero (bit_or a b) ≡ (is_zero a && is_zero b)
or_is_zero zero b = refl
or_is_zero (suc a) b =
    positive (bit_or (suc a) b) (omega (arith, le_or_l (suc a) b))
    ∙ ap (λ (x : Bool). x && is_zero b) (sym (positive (suc a) (omega arith)))

-- the parts of an and, put together another way
and_assoc : (a b c : Bool) → ((a && b) && c) ≡ (a && (b && c))
and_assoc true b c = refl
and_assoc false b c = refl

and_true : (a : Bool) → a ≡ (a && true)
and_true true = refl
and_true false = refl

-- the same, where some were joined before
joined_from : (a : ℕ) (bytes : List ℕ)
    → is_zero (fold bit_or a bytes) ≡ (is_zero a && list_all is_zero bytes)
joined_from a [] = and_true (is_zero a)
joined_from a (x ∷ xs) =
    joined_from (bit_or a x) xs
    ∙ ap (λ (b : Bool). b && list_all is_zero xs) (or_is_zero a x)
    ∙ and_assoc (is_zero a) (is_zero x) (list_all is_zero xs)

pub joined-zero : (bytes : List ℕ) → is_zero (fold bit_or 0 bytes) ≡ list_all is_zero bytes
joined-zero bytes = joined_from 0 bytes
