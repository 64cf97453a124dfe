-- Lists of tests.
use Rattle.std.proofs.Common.{◌≡◌, Bool, true, false, cond, List, [], ◌∷◌, ◌++◌, Some, refl}
use Rattle.std.specs.Option.{option_or}
use Rattle.ipl_model.specs.Refusals.{Test, first_of}

-- the tests of a list, and then those of another
pub first_of-append : (tests more : List Test) → first_of (tests ++ more) ≡ option_or (first_of tests) (first_of more)
first_of-append [] more = refl
first_of-append (t ∷ tests) more = by_test t.0 (first_of-append tests more)
  where
    by_test : (b : Bool) → first_of (tests ++ more) ≡ option_or (first_of tests) (first_of more)
        → cond b (Some t.1) (first_of (tests ++ more)) ≡ option_or (cond b (Some t.1) (first_of tests)) (first_of more)
    by_test true rest = refl
    by_test false rest = rest
