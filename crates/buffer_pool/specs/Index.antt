-- Which buffer has which page: the pages' numbers in rising order, each with a key.
use Rattle.std.specs.Prelude.{ℕ, ◌≡◌, ◌<◌, ◌≤◌, ◌+◌, ◌*◌, ◌==◌, List, [], ◌∷◌, length, map, slice_index_or, Option, Some, None, if◌then◌else◌}
use Rattle.ipl_base.specs.declared.limits.TheConstants.{PAGES}

-- the number of a page among all pages of a chip
abbrev pub page_number : ℕ → ℕ → ℕ
page_number unit page = PAGES * unit + page

-- the key of the number, if it is listed
abbrev pub key_of : List (ℕ × ℕ) → ℕ → Option ℕ
key_of [] n = None
key_of ((number, key) ∷ rest) n = if number == n then Some key else key_of rest n

-- the numbers, in their order
abbrev pub numbers_of : List (ℕ × ℕ) → List ℕ
numbers_of l = map (λ e. e.0) l

-- the number has this key now, or none
abbrev pub with_key : (ℕ → Option ℕ) → ℕ → Option ℕ → ℕ → Option ℕ
with_key keys number o n = if number == n then o else keys n

-- all numbers are above this one
abbrev pub AreNumbersAbove : ℕ → List (ℕ × ℕ) → Type 0
AreNumbersAbove low [] = Unit {0}
AreNumbersAbove low ((number, key) ∷ rest) = (low < number) × AreNumbersAbove low rest

-- the numbers rise
abbrev pub NumbersRise : List (ℕ × ℕ) → Type 0
NumbersRise [] = Unit {0}
NumbersRise ((number, key) ∷ rest) = AreNumbersAbove number rest × NumbersRise rest

-- each is above the one before
abbrev pub EachIsAboveTheLast : List ℕ → Type 0
EachIsAboveTheLast l = (i j : ℕ) → i < j → j < length l → slice_index_or l i 0 < slice_index_or l j 0

-- ---- a search among them

-- the number at place i
abbrev pub number_at : List (ℕ × ℕ) → ℕ → ℕ
number_at l i = (slice_index_or l i (0, 0)).0

-- the page at place i has the number
pub record HasNumberAt (l : List (ℕ × ℕ)) (number i : ℕ) : Type 0 where
  pub within : i < length l
  pub number_is : number_at l i ≡ number

-- the number would go to place i: those before it are below it, and those from there on above
pub record IsGapFor (l : List (ℕ × ℕ)) (number i : ℕ) : Type 0 where
  pub within : i ≤ length l
  pub below : (k : ℕ) → k < i → number_at l k < number
  pub above : (k : ℕ) → i ≤ k → k < length l → number < number_at l k
