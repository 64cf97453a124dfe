-- Quarters of a page, one after another.
use Rattle.std.proofs.Common.{◌≡◌, ℕ, ◌+◌, ◌<◌, List, [], get_or, set, length, Some, Result, Ok, Err, IsOk, OnOk, inl, inr, sym, ◌∙◌, ap, arith, get_or-set_same, get_or-set_other}
use Rattle.std.proofs.lemmas.Bool.{cases_eq}
use Rattle.std.proofs.lemmas.Option.{same_Some}
use Rattle.chip_trait.specs.Story.{Contents}

-- what is read into a page so far, with one quarter more
pub one_quarter_more : (page : List (List ℕ)) (n : ℕ) (bytes : List ℕ) (x : ℕ → List ℕ) → n < length page
    → ((q : ℕ) → q < n → get_or page q [] ≡ x q) → bytes ≡ x n → (q : ℕ) → q < n + 1 → get_or (set page n bytes) q [] ≡ x q
one_quarter_more page n bytes x within so_far here q below = elim (cases_eq n q) [
  | inl same ↦ rw (← same) (get_or-set_same page n bytes [] within ∙ here)
  | inr other ↦ get_or-set_other page n q bytes [] (λ e. other (sym e)) ∙ so_far q (omega arith)
]

-- a read that is done read what is held
pub read_there : {T E : Type 0} (r : Result T E) (bytes : List ℕ) (p s : ℕ) (x y : Contents) → IsOk r → OnOk r (bytes ≡ x p s) → Some x ≡ Some y → bytes ≡ y p s
read_there (Ok t) bytes p s x y ok here same = here ∙ ap (λ (z : Contents). z p s) (same_Some x y same)
read_there (Err e) bytes p s x y ok here same = cc
