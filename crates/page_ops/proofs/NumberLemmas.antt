-- Numbers that may be none, place by place.
use Rattle.std.proofs.Common.{◌≡◌, ℕ, zero, suc, ◌<◌, Bool, true, false, List, [], ◌∷◌, length, get_or, set, replicate, Some, None, refl, ◌∙◌, ap, arith}
use Rattle.std.specs.Prelude.{if◌then◌else◌}
use Rattle.page_ops.specs.Numbers.{numbers_in}

-- a place whose flag is set has the number there
pub number_there : (flags : List Bool) (numbers : List ℕ) (i : ℕ)
    → i < length flags → i < length numbers → get_or flags i false ≡ true
    → get_or (numbers_in flags numbers) i None ≡ Some (get_or numbers i 0)
unfolding numbers_in
number_there [] numbers i low within is = absurd (omega arith)
number_there (b ∷ flags) [] i low within is = absurd (omega arith)
number_there (b ∷ flags) (n ∷ numbers) zero low within is =
    ap (λ (given : Bool). if given then Some n else None) is
number_there (b ∷ flags) (m ∷ numbers) (suc i) low within is =
    number_there flags numbers i (omega arith) (omega arith) is

-- a place whose flag isn't set has none
pub none_there : (flags : List Bool) (numbers : List ℕ) (i : ℕ) → get_or flags i false ≡ false
    → get_or (numbers_in flags numbers) i None ≡ None
unfolding numbers_in
none_there [] numbers i is = refl
none_there (b ∷ flags) [] zero is = refl
none_there (b ∷ flags) [] (suc i) is = none_there flags [] i is
none_there (b ∷ flags) (n ∷ numbers) zero is =
    ap (λ (given : Bool). if given then Some n else None) is
none_there (b ∷ flags) (m ∷ numbers) (suc i) is = none_there flags numbers i is

-- a number is given
pub given_there : (flags : List Bool) (numbers : List ℕ) (i n : ℕ)
    → i < length flags → i < length numbers
    → numbers_in (set flags i true) (set numbers i n) ≡ set (numbers_in flags numbers) i (Some n)
unfolding numbers_in
given_there [] numbers i n low within = absurd (omega arith)
given_there (b ∷ flags) [] i n low within = absurd (omega arith)
given_there (b ∷ flags) (m ∷ numbers) zero n low within = refl
given_there (b ∷ flags) (m ∷ numbers) (suc i) n low within =
    ap (λ l. (if b then Some m else None) ∷ l)
    (given_there flags numbers i n (omega arith) (omega arith))

-- a number is taken away
pub taken_there : (flags : List Bool) (numbers : List ℕ) (i : ℕ)
    → numbers_in (set flags i false) numbers ≡ set (numbers_in flags numbers) i None
unfolding numbers_in
taken_there [] numbers i = refl
taken_there (b ∷ flags) [] zero = refl
taken_there (b ∷ flags) [] (suc i) = ap (λ l. None ∷ l) (taken_there flags [] i)
taken_there (b ∷ flags) (m ∷ numbers) zero = refl
taken_there (b ∷ flags) (m ∷ numbers) (suc i) =
    ap (λ l. (if b then Some m else None) ∷ l) (taken_there flags numbers i)

none_of : (k : ℕ) (numbers : List ℕ) → numbers_in (replicate k false) numbers ≡ replicate k None
unfolding numbers_in
none_of zero numbers = refl
none_of (suc k) [] = ap (λ l. None ∷ l) (none_of k [])
none_of (suc k) (n ∷ numbers) = ap (λ l. None ∷ l) (none_of k numbers)

-- no flag is set
pub none_given : (k : ℕ) (flags : List Bool) (numbers : List ℕ) → flags ≡ replicate k false
    → numbers_in flags numbers ≡ replicate k None
none_given k flags numbers is = ap (λ l. numbers_in l numbers) is ∙ none_of k numbers
