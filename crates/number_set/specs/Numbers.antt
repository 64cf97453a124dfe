-- Numbers in rising order, and the bound on how many there are.
use Rattle.std.specs.Prelude.{ℕ, ◌<◌, ◌==◌, ◌||◌, Bool, nat_lt, List, [], ◌∷◌, if◌then◌else◌, AllPairs}
use Rattle.std.specs.List.{list_any}

-- the numbers, and how many there may be
pub record Numbers : Type 0 where
  pub list : List ℕ
  pub most : ℕ

-- none, of so many
abbrev pub empty_numbers : ℕ → Numbers
empty_numbers most = record { list = []; most = most }

-- other numbers, of as many
abbrev pub with_list : Numbers → List ℕ → Numbers
with_list it numbers = record it { list = numbers }

-- the number is one of these
abbrev pub among : List ℕ → ℕ → Bool
among numbers n = list_any (λ k. k == n) numbers

-- it passes the test, or is one of these
abbrev pub also : (ℕ → Bool) → List ℕ → ℕ → Bool
also passes numbers n = passes n || among numbers n

-- the numbers with one more, put before the first that is greater, unless it is one of them
abbrev pub with_number : ℕ → List ℕ → List ℕ
with_number n [] = n ∷ []
with_number n (k ∷ numbers) =
    if nat_lt n k then n ∷ k ∷ numbers
    else if n == k then k ∷ numbers
    else k ∷ with_number n numbers

-- with several, one after the other
abbrev pub with_numbers : List ℕ → List ℕ → List ℕ
with_numbers [] numbers = numbers
with_numbers (n ∷ more) numbers = with_numbers more (with_number n numbers)

-- each is below all later ones
abbrev pub IsLess : ℕ → ℕ → Type 0
IsLess a b = a < b

abbrev pub AreRising : List ℕ → Type 0
AreRising numbers = AllPairs IsLess numbers
