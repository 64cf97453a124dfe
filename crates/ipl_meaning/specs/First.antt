-- The first of a list, and all, the greatest and how many, of several by rising number.
use Rattle.std.specs.Prelude.{ℕ, zero, suc, List, [], ◌∷◌, ◌++◌, Option, Some, None, Bool, false, ◌+◌, if◌then◌else◌, max, slice_index_or}
use Rattle.std.specs.Option.{option_or}

-- the first that is there
abbrev pub first_of : {A : Type 0} → List (Option A) → Option A
first_of [] = None
first_of (o ∷ os) = option_or o (first_of os)

-- a list, and one more element where there is one
abbrev pub with_one : {A : Type 0} → List A → Option A → List A
with_one xs None = xs
with_one xs (Some x) = xs ++ x ∷ []

-- those that are there, of f 0, f 1, .. below n
abbrev pub all_below : {A : Type 0} → (ℕ → Option A) → ℕ → List A
all_below f zero = []
all_below f (suc n) = with_one (all_below f n) (f n)

-- the lists f 0, f 1, .. below n, joined
abbrev pub joined_below : {A : Type 0} → (ℕ → List A) → ℕ → List A
joined_below f zero = []
joined_below f (suc n) = joined_below f n ++ f n

-- the greatest of f 0, f 1, .. below n, and at least this
abbrev pub greatest_below : ℕ → (ℕ → ℕ) → ℕ → ℕ
greatest_below least f zero = least
greatest_below least f (suc n) = max (greatest_below least f n) (f n)

-- the greatest of a list, and at least this
abbrev pub greatest_of : ℕ → List ℕ → ℕ
greatest_of least [] = least
greatest_of least (n ∷ numbers) = greatest_of (max least n) numbers

-- it is there, and passes the test
abbrev pub passes : {A : Type 0} → (A → Bool) → Option A → Bool
passes test None = false
passes test (Some a) = test a

-- how many of 0, 1, .. below n pass the test
abbrev pub count_below : (ℕ → Bool) → ℕ → ℕ
count_below test zero = 0
count_below test (suc n) = count_below test n + (if test n then 1 else 0)

-- a table as a function: past its end nothing is there
abbrev pub at : {A : Type 0} → List (Option A) → ℕ → Option A
at xs i = slice_index_or xs i None
