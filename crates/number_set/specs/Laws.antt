-- Laws of numbers in rising order.
use Rattle.std.specs.Prelude.{ℕ, ◌≡◌, ◌⊎◌, ◌↔◌, ◌≤◌, ◌+◌, Bool, IsTrue, List, length, Contains}
use Rattle.number_set.specs.Numbers.{with_number, with_numbers, among, also, AreRising}

-- numbers that were added are there then, and so are those of before, and no others are
abbrev pub NumbersAreAUnion : Type 0
NumbersAreAUnion = (more numbers : List ℕ) (n : ℕ) →
    Contains (with_numbers more numbers) n ↔ (Contains more n ⊎ Contains numbers n)

-- to add a number that is there changes nothing
abbrev pub NumbersThereChangeNothing : Type 0
NumbersThereChangeNothing = (numbers : List ℕ) (n : ℕ)
    → AreRising numbers → Contains numbers n → with_number n numbers ≡ numbers

-- they rise still when some are added
abbrev pub NumbersStayRising : Type 0
NumbersStayRising = (more numbers : List ℕ)
    → AreRising numbers → AreRising (with_numbers more numbers)

-- and are no more than both together, and no fewer than before
abbrev pub NumbersAreFew : Type 0
NumbersAreFew = (more numbers : List ℕ)
    → (length (with_numbers more numbers) ≤ length numbers + length more)
    × (length numbers ≤ length (with_numbers more numbers))

-- rising lists of the same numbers are the same
abbrev pub RisingListsAreOne : Type 0
RisingListsAreOne = (a b : List ℕ)
    → AreRising a → AreRising b → ((n : ℕ) → Contains a n ↔ Contains b n) → a ≡ b

-- the test tells which numbers are there
abbrev pub AmongIsContains : Type 0
AmongIsContains = (numbers : List ℕ) (n : ℕ) → IsTrue (among numbers n) ↔ Contains numbers n

-- the test with these numbers besides passes what passed before, and these; where it was a test of
-- numbers, it is that of all of them
pub record AddsToTest (more numbers : List ℕ) (passes : ℕ → Bool) (n : ℕ) : Type 0 where
  pub either : IsTrue (also passes more n) ↔ (IsTrue (passes n) ⊎ Contains more n)
  pub numbers_too : also (among numbers) more n ≡ among (with_numbers more numbers) n

abbrev pub AlsoIsAUnion : Type 0
AlsoIsAUnion = (more numbers : List ℕ) (passes : ℕ → Bool) (n : ℕ)
    → AddsToTest more numbers passes n
