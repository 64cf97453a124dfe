-- What it means to be the first fault of several.
use Rattle.std.specs.Prelude.{ℕ, ◌≡◌, ◌<◌, Option, Some, None}
use Rattle.ipl_base.specs.declared.fault.ImageFault.{ImageFault}
use Rattle.ipl_base.specs.First.{first_below}

-- it is at a number below n, and at no lower one is any
pub record IsFirst (f : ℕ → Option ImageFault) (n : ℕ) (fault : ImageFault) : Type 0 where
  pub number : ℕ
  pub within : number < n
  pub here : f number ≡ Some fault
  pub earlier : (k : ℕ) → k < number → f k ≡ None

-- what is found is the first
abbrev pub FirstIsFirst : Type 0
FirstIsFirst =
    (f : ℕ → Option ImageFault) (n : ℕ) (fault : ImageFault) → first_below f n ≡ Some fault → IsFirst f n fault

-- the first is found
abbrev pub FirstIsFound : Type 0
FirstIsFound =
    (f : ℕ → Option ImageFault) (n : ℕ) (fault : ImageFault) → IsFirst f n fault → first_below f n ≡ Some fault

-- where there is none, none is found
abbrev pub NoneIsFound : Type 0
NoneIsFound = (f : ℕ → Option ImageFault) (n : ℕ) → ((k : ℕ) → k < n → f k ≡ None) → first_below f n ≡ None

-- where none is found, there is none
abbrev pub NoneIsThere : Type 0
NoneIsThere = (f : ℕ → Option ImageFault) (n : ℕ) → first_below f n ≡ None → (k : ℕ) → k < n → f k ≡ None
