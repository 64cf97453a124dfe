-- Lists of those that are there, by rising number.
use Rattle.std.proofs.Common.{ℕ, zero, suc, ◌≡◌, ◌≢◌, ◌+◌, ◌<◌, Bool, true, cond, List, [], ◌∷◌, length, map, get_or, Option, Some, None, refl, ◌∙◌, ap, arith}
use Rattle.std.specs.Option.{option_map}
use Rattle.std.specs.List.{Contains, AllPairs}
use Rattle.std.proofs.lemmas.List.{map-append, length_push, get_or_default}
use Rattle.std.proofs.lemmas.List.Quantifiers.{all_pairs_push}
use Rattle.ipl_meaning.specs.Mirrors.{AreApart}
use Rattle.ipl_meaning.specs.First.{passes, with_one, all_below, count_below}
use Rattle.ipl_meaning.proofs.BelowLemmas.{all_from}

-- it is there
abbrev pub any : {A : Type 0} → A → Bool
any a = true

with_one_apart : {A : Type 0} (xs : List A) (o : Option A) → AllPairs AreApart xs
    → ((a : A) → o ≡ Some a → (k : ℕ) (d : A) → k < length xs → get_or xs k d ≢ a)
    → AllPairs AreApart (with_one xs o)
with_one_apart xs None apart other = apart
with_one_apart xs (Some x) apart other = all_pairs_push AreApart xs x apart (other x refl)

-- where each number has its own, they are apart
pub all_apart : {A : Type 0} (f : ℕ → Option A) (n : ℕ)
    → ((j k : ℕ) (a : A) → j < k → k < n → f j ≡ Some a → f k ≡ Some a → ⊥)
    → AllPairs AreApart (all_below f n)
all_apart f zero own = λ i j d before within. absurd (omega (arith, within))
all_apart {A} f (suc n) own =
    with_one_apart (all_below f n) (f n)
    (all_apart f n (λ j k a before low. own j k a before (omega arith)))
    (λ a here k d low same.
    let has : Contains (all_below f n) a = (k, low, get_or_default (all_below f n) k a d low ∙ same) in
    let from = all_from f n a has in
    own from.0 n a from.1 (omega arith) from.2 here)

with_one_length : {A : Type 0} (xs : List A) (o : Option A)
    → length (with_one xs o) ≡ length xs + cond (passes any o) 1 0
with_one_length xs None = omega arith
with_one_length xs (Some x) = length_push xs x

-- they are as many as are there
pub all_length : {A : Type 0} (f : ℕ → Option A) (n : ℕ)
    → length (all_below f n) ≡ count_below (λ k. passes any (f k)) n
all_length f zero = refl
all_length f (suc n) =
    with_one_length (all_below f n) (f n)
    ∙ ap (λ (m : ℕ). m + cond (passes any (f n)) 1 0) (all_length f n)

map_one : {A B : Type 0} (g : A → B) (xs : List A) (o : Option A)
    → map g (with_one xs o) ≡ with_one (map g xs) (option_map g o)
map_one g xs None = refl
map_one g xs (Some x) = map-append g xs (x ∷ [])

-- mapped, they are those mapped
pub map_all : {A B : Type 0} (g : A → B) (f : ℕ → Option A) (n : ℕ)
    → map g (all_below f n) ≡ all_below (λ k. option_map g (f k)) n
map_all g f zero = refl
map_all {A} {B} g f (suc n) =
    map_one g (all_below f n) (f n)
    ∙ ap (λ (xs : List B). with_one xs (option_map g (f n))) (map_all g f n)

-- as many pass tests that say the same
pub count_alike : (f g : ℕ → Bool) (n : ℕ) → ((k : ℕ) → k < n → f k ≡ g k)
    → count_below f n ≡ count_below g n
count_alike f g zero same = refl
count_alike f g (suc n) same =
    rw (count_alike f g n (λ k low. same k (omega arith)), same n (omega arith)) refl
