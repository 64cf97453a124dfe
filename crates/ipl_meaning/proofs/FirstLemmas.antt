-- The first, all, the greatest and how many of several.
use Rattle.std.proofs.Common.{ℕ, zero, suc, ◌≡◌, ◌+◌, List, ◌++◌, Option, Some, None, refl, ◌∙◌, arith, add-one, max, Bool, cond}
use Rattle.std.specs.Option.{option_or}
use Rattle.ipl_base.specs.declared.fault.ImageFault.{ImageFault}
use Rattle.ipl_base.specs.First.{first_below}
use Rattle.ipl_base.proofs.FirstLemmas.{first_found, first_none, none_before}
use Rattle.ipl_meaning.specs.First.{all_below, joined_below, with_one, count_below, greatest_below}
use Rattle.ipl_meaning.specs.FirstLaws.{IsFirst, FirstIsFirst, FirstIsFound, NoneIsFound, NoneIsThere}

-- ---- one step on

pub all_step : {A : Type 0} (f : ℕ → Option A) (n : ℕ) → all_below f (n + 1) ≡ with_one (all_below f n) (f n)
all_step f n = rw add-one refl

pub joined_step : {A : Type 0} (f : ℕ → List A) (n : ℕ) → joined_below f (n + 1) ≡ joined_below f n ++ f n
joined_step f n = rw add-one refl

pub greatest_step : (least : ℕ) (f : ℕ → ℕ) (n : ℕ) → greatest_below least f (n + 1) ≡ max (greatest_below least f n) (f n)
greatest_step least f n = rw add-one refl

pub count_step : (test : ℕ → Bool) (n : ℕ) → count_below test (n + 1) ≡ count_below test n + cond (test n) 1 0
count_step test n = rw add-one refl

-- ---- the first

first_is : (f : ℕ → Option ImageFault) (n : ℕ) (a : ImageFault) (x : Option ImageFault) → first_below f n ≡ x → option_or x (f n) ≡ Some a
    → (first_below f n ≡ Some a → IsFirst f n a) → IsFirst f (suc n) a
first_is f n a None before e below = record { number = n; within = omega arith; here = e; earlier = none_before f n before }
first_is f n a (Some z) before e below =
    let it : IsFirst f n a = below (before ∙ e) in
    record { number = it.number; within = omega (arith, it.within); here = it.here; earlier = it.earlier }

pub first_is_first : FirstIsFirst
first_is_first f zero a found = cc
first_is_first f (suc n) a found = first_is f n a (first_below f n) refl found (first_is_first f n a)

pub first_is_found : FirstIsFound
first_is_found f n fault it = first_found f it.number n fault it.within (first_none f it.number it.earlier) it.here

pub none_is_found : NoneIsFound
none_is_found f n each = first_none f n each

pub none_is_there : NoneIsThere
none_is_there f n none k below = none_before f n none k below
