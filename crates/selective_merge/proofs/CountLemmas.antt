-- As many places as are in use are named or retired, so that one may be taken.
use Rattle.std.proofs.Common.{◌≡◌, ◌⊎◌, ◌<◌, ◌≤◌, ◌+◌, ◌==◌, ℕ, zero, suc, Bool, true, false, cond, not, List, [], ◌∷◌, ◌++◌, length, get_or, inl, inr, refl, sym, ◌∙◌, ap, subst, arith, length-append}
use Rattle.std.specs.List.{Contains, count_by, filter}
use Rattle.std.proofs.lemmas.Bool.{cases_Bool, eq-eqb, ne_eqb}
use Rattle.std.proofs.lemmas.List.{length-map}
use Rattle.std.proofs.lemmas.List.Elements.{Contains-append_left, Contains-append_right}
use Rattle.std.proofs.lemmas.List.Sums.{length-filter, count_by-le-length, sum_by-cons}
use Rattle.ipl_meaning.specs.Tables.{Tables, overflow_places, place_of}
use Rattle.selective_merge.specs.KnownLaws.{KnownPlacesAreReady}

passes_here : {X : Type 0} (p : X → Bool) (xs : List X) (x : X) → Contains xs x → p x ≡ true
    → Contains (filter p xs) x
passes_here p [] x (i, within, is) pass = absurd (omega (arith, within))
passes_here p (y ∷ xs) x (zero, within, is) pass =
    rw (ap p is ∙ pass) (0, omega arith, is)
passes_here p (y ∷ xs) x (suc i, within, is) pass =
    let (j, low, same) = passes_here p xs x (i, omega (arith, within), is) pass in
    elim (cases_Bool (p y)) [
      | inl passes ↦ rw passes (suc j, omega (arith, low), same)
      | inr fails ↦ rw fails (j, low, same)
    ]

abbrev count_if : Bool → ℕ
count_if b = cond b 1 0

fewer_pass : (p : ℕ → Bool) (xs : List ℕ) (x : ℕ) → Contains xs x → p x ≡ false
    → count_by p xs < length xs
fewer_pass p [] x (i, within, is) fails = absurd (omega (arith, within))
fewer_pass p (y ∷ xs) x (zero, within, is) fails =
    let one = sum_by-cons (λ z. count_if (p z)) y xs in
    let none : count_if (p y) ≡ 0 = ap count_if (ap p is ∙ fails) in
    omega (arith, one, none, count_by-le-length p xs)
fewer_pass p (y ∷ xs) x (suc i, within, is) fails =
    let one = sum_by-cons (λ z. count_if (p z)) y xs in
    let rest = fewer_pass p xs x (i, omega (arith, within), is) fails in
    elim (cases_Bool (p y)) [
      | inl passes ↦ let some : count_if (p y) ≡ 1 = ap count_if passes in
          omega (arith, one, some, rest)
      | inr none_passes ↦ let none : count_if (p y) ≡ 0 = ap count_if none_passes in
          omega (arith, one, none, rest)
    ]

used_are_few : (in_use : List Bool) (xs : List ℕ) (k : ℕ)
    → ((i : ℕ) → i < length in_use → get_or in_use i true ≡ true → Contains xs (k + i))
    → length in_use ≤ count_by not in_use + length xs
used_are_few [] xs k each = omega arith
used_are_few (false ∷ in_use) xs k each =
    let rest = used_are_few in_use xs (k + 1) (λ i low is.
    subst (Contains xs) (omega arith) (each (suc i) (omega (arith, low)) is)) in
    omega (arith, rest, sum_by-cons (λ b. count_if (not b)) false in_use)
used_are_few (true ∷ in_use) xs k each =
    let others : ℕ → Bool = λ n. not (n == k) in
    let itself : others k ≡ false = rw (eq-eqb k k refl) refl in
    let fewer = fewer_pass others xs k
    (subst (Contains xs) (omega arith) (each 0 (omega arith) refl)) itself in
    let rest = used_are_few in_use (filter others xs) (k + 1) (λ i low is.
    passes_here others xs (k + 1 + i)
    (subst (Contains xs) (omega arith) (each (suc i) (omega (arith, low)) is))
    (rw (ne_eqb (k + 1 + i) k (λ same. omega (arith, same))) refl)) in
    omega (
      arith,
      rest,
      fewer,
      length-filter others xs,
      sum_by-cons (λ b. count_if (not b)) true in_use,
    )

abbrev known_places : Tables → List ℕ
known_places t =
    t.places.current ++ t.status.place ∷ (overflow_places t ++ t.places.retired)

known_is_there : (t : Tables) (p : ℕ)
    → Contains t.places.current p ⊎ (p ≡ t.status.place) ⊎ Contains (overflow_places t) p
    ⊎ Contains t.places.retired p → Contains (known_places t) p
known_is_there t p (inl home) =
    Contains-append_left t.places.current
    (t.status.place ∷ (overflow_places t ++ t.places.retired)) p home
known_is_there t p (inr (inl is)) =
    Contains-append_right t.places.current
    (t.status.place ∷ (overflow_places t ++ t.places.retired)) p (0, omega arith, sym is)
known_is_there t p (inr (inr (inl over))) =
    let (i, within, is) =
    Contains-append_left (overflow_places t) t.places.retired p over in
    Contains-append_right t.places.current
    (t.status.place ∷ (overflow_places t ++ t.places.retired)) p (suc i, omega (arith, within), is)
known_is_there t p (inr (inr (inr retired))) =
    let (i, within, is) =
    Contains-append_right (overflow_places t) t.places.retired p retired in
    Contains-append_right t.places.current
    (t.status.place ∷ (overflow_places t ++ t.places.retired)) p (suc i, omega (arith, within), is)

pub known_places_are_ready : KnownPlacesAreReady
known_places_are_ready places t known = record {
  enough =
      let few = used_are_few t.places.in_use (known_places t) 0 (λ i low is.
      subst (Contains (known_places t)) (omega arith)
      (known_is_there t i (known.none_lost i (omega (arith, low, known.suits.all))
      (λ free. let e : true ≡ false = sym is ∙ free in cc)))) in
      omega (
        arith,
        few,
        known.suits.all,
        known.suits.units.1,
        known.two,
        length-map t.overflow.in_use place_of,
        length-append t.places.current (t.status.place ∷ (overflow_places t ++ t.places.retired)),
        length-append (overflow_places t) t.places.retired,
      );
  apart = λ p has. (known.retired_apart p has).1;
}
