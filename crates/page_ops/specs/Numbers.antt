-- Numbers that may be none, kept as flags and numbers.
use Rattle.std.specs.Prelude.{ℕ, Bool, List, [], ◌∷◌, Option, Some, None}
use Rattle.std.specs.Prelude.{if◌then◌else◌}

-- place by place: the number, where its flag is set
unfoldable pub numbers_in : List Bool → List ℕ → List (Option ℕ)
numbers_in [] numbers = []
numbers_in (given ∷ flags) [] = None ∷ numbers_in flags []
numbers_in (given ∷ flags) (n ∷ numbers) = (if given then Some n else None) ∷ numbers_in flags
    numbers
