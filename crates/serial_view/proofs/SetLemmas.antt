-- Tables in which the sizes of some names are set.
use Rattle.std.proofs.Common.{◌≡◌, ◌≢◌, ◌⊎◌, inl, inr, ℕ, ◌+◌, ◌<◌, ◌==◌, Bool, true, false, cond, ◌||◌, List, [], length, take, get_or, refl, sym, ◌∙◌, ap, arith, get_or-set_same, get_or-set_other}
use Rattle.std.specs.Prelude.{slice_index, slice_set}
use Rattle.std.proofs.lemmas.Bool.{cases_eq, eq-eqb, ne_eqb, or_right}
use Rattle.std.proofs.lemmas.List.{length-set}
use Rattle.std.proofs.lemmas.List.Folds.{list_any_more}
use Rattle.record_locks.specs.Held.{is_among}
use Rattle.serial_view.specs.Running.{Sets}

pub sets_none : (value : ℕ → ℕ) (old : List ℕ) → Sets [] value old old
sets_none value old = record { long = refl; sizes = λ n low. refl }

or_false : (b : Bool) → (b || false) ≡ b
or_false true = refl
or_false false = refl

-- one name more
pub sets_more : (names : List ℕ) (value : ℕ → ℕ) (old now : List ℕ) (i k : ℕ) → i < length names
    → get_or names i 0 ≡ k → Sets (take i names) value old now
    → Sets (take (i + 1) names) value old (slice_set now k (value k))
sets_more names value old now i k within is sets = record {
  long = length-set now k (value k) ∙ sets.long;
  sizes = λ n low. at n low (cases_eq k n);
}
  where
    among : (n : ℕ) (b : Bool) → (k == n) ≡ b → is_among n (take (i + 1) names) ≡ (is_among n (take i names) || b)
    among n b e =
        list_any_more (λ j. j == n) names i 0 within
        ∙ ap (λ (j : ℕ). is_among n (take i names) || (j == n)) is ∙ ap (λ (t : Bool). is_among n (take i names) || t) e

    at : (n : ℕ) → n < length old → (k ≡ n) ⊎ (k ≢ n)
        → slice_index (slice_set now k (value k)) n
        ≡ cond (is_among n (take (i + 1) names)) (value n) (slice_index old n)
    at n low (inl same) =
        ap (λ (j : ℕ). slice_index (slice_set now j (value j)) n) same
        ∙ get_or-set_same now n (value n) 0 (omega (arith, low, sets.long))
        ∙ sym (ap (λ (b : Bool). cond b (value n) (slice_index old n))
        (among n true (eq-eqb k n same) ∙ or_right (is_among n (take i names)) true refl))
    at n low (inr other) =
        get_or-set_other now k n (value k) 0 (λ e. other (sym e)) ∙ sets.sizes n low
        ∙ sym (ap (λ (b : Bool). cond b (value n) (slice_index old n))
        (among n false (ne_eqb k n other) ∙ or_false (is_among n (take i names))))
