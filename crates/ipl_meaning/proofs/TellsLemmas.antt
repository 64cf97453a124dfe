-- The first fault, at the exits of a function.
use Rattle.std.proofs.Common.{◌≡◌, inl, inr, ℕ, ◌<◌, true, false, Option, Some, None, Result, Ok, Err, sym, ◌∙◌, ap}
use Rattle.std.specs.Result.{IsErrAnd}
use Rattle.std.specs.Option.{option_or}
use Rattle.std.proofs.lemmas.Bool.{cases_Bool}
use Rattle.ipl_base.specs.declared.fault.ImageFault.{ImageFault}
use Rattle.ipl_base.specs.First.{first_below}
use Rattle.ipl_meaning.specs.Faults.{TellsImageFault, is_image}
use Rattle.ipl_base.proofs.FirstLemmas.{first_found}

-- what a callee said of its fault, at the exit of a `?`
pub tells_exit : {T : Type 0} (r : Result T ImageFault) (fault : Option ImageFault) (e : ImageFault) → IsErrAnd r (λ y. y ≡ e)
    → (is_image e ≡ true → fault ≡ Some e) → TellsImageFault fault r
tells_exit (Ok x) fault e exit says = absurd exit
tells_exit (Err y) fault e exit says = λ image. says (ap is_image (sym exit) ∙ image) ∙ ap Some (sym exit)

-- the same, out of a loop over f
pub tells_found : {T : Type 0} (r : Result T ImageFault) (f : ℕ → Option ImageFault) (k n : ℕ) (e : ImageFault) → IsErrAnd r (λ y. y ≡ e)
    → k < n → first_below f k ≡ None → (is_image e ≡ true → f k ≡ Some e) → TellsImageFault (first_below f n) r
tells_found r f k n e exit below none says = tells_exit r (first_below f n) e exit (λ image. first_found f k n e below none (says image))

-- a test that passed is passed over
pub tells_past : {T : Type 0} (a b : Option ImageFault) (r : Result T ImageFault) → a ≡ None → TellsImageFault b r → TellsImageFault (option_or a b) r
tells_past a b r none tells = rw none tells

-- a test that failed is told, whatever comes after it
pub tells_here : {T : Type 0} (a b : Option ImageFault) (r : Result T ImageFault) (e : ImageFault) → IsErrAnd r (λ y. y ≡ e)
    → (is_image e ≡ true → a ≡ Some e) → TellsImageFault (option_or a b) r
tells_here a b r e exit says = tells_exit r (option_or a b) e exit (λ image. ap (λ (o : Option ImageFault). option_or o b) (says image))

-- what a call told is told again
pub tells_again : {S T : Type 0} (r : Result T ImageFault) (q : Result S ImageFault) (fault : Option ImageFault) (e : ImageFault) → q ≡ Err e
    → IsErrAnd r (λ y. y ≡ e) → TellsImageFault fault q → TellsImageFault fault r
tells_again r q fault e was exit tells = tells_exit r fault e exit (rw was at tells)

-- where there is no fault, an error is one of a call
pub not_image : (fault : Option ImageFault) (e : ImageFault) → fault ≡ None → (is_image e ≡ true → fault ≡ Some e) → is_image e ≡ false
not_image fault e none says = elim (cases_Bool (is_image e)) [
  | inl image ↦ let is = says image in cc
  | inr other ↦ other
]
