-- The numbers of the sessions below a place.
use Rattle.std.proofs.Common.{◌≡◌, ℕ, ◌≤◌, ◌<◌, ◌+◌, List, [], ◌∷◌, ◌++◌, length, take, Option, Some, None, refl, sym, ◌∙◌, ap, arith}
use Rattle.std.specs.Option.{option_map}
use Rattle.std.proofs.lemmas.List.{take_more, take_all, length-take-le}
use Rattle.record_locks.specs.Held.{Held, SessionSlots, held_at, number_of, numbers_in}

numbers_append : (a b : SessionSlots) → numbers_in (a ++ b) ≡ numbers_in a ++ numbers_in b
numbers_append [] b = refl
numbers_append (None ∷ a) b = numbers_append a b
numbers_append (Some h ∷ a) b = ap (λ (l : List ℕ). h.number ∷ l) (numbers_append a b)

-- one session more, which has a number, or none
numbers_some : (o : Option Held) (tid : ℕ) → option_map (λ h. h.number) o ≡ Some tid
    → numbers_in (o ∷ []) ≡ tid ∷ []
numbers_some None tid is = absurd (cc is)
numbers_some (Some h) tid is = cc is

numbers_none : (o : Option Held) → option_map (λ h. h.number) o ≡ None → numbers_in (o ∷ []) ≡ []
numbers_none None is = refl
numbers_none (Some h) is = absurd (cc is)

numbers_last : (slots : SessionSlots) (s : ℕ) → s < length slots
    → numbers_in (take (s + 1) slots) ≡ numbers_in (take s slots) ++ numbers_in (held_at slots s ∷ [])
numbers_last slots s within =
    ap numbers_in (take_more slots s None within)
    ∙ numbers_append (take s slots) (held_at slots s ∷ [])

module _ (slots : SessionSlots) (s : ℕ) (active : List ℕ) (low : s < length slots)
    (so_far : active ≡ numbers_in (take s slots)) where
  pub number_joins : (tid : ℕ) → number_of slots s ≡ Some tid
      → active ++ tid ∷ [] ≡ numbers_in (take (s + 1) slots)
  number_joins tid mine =
      ap (λ (l : List ℕ). l ++ tid ∷ []) so_far
      ∙ ap (λ (l : List ℕ). numbers_in (take s slots) ++ l)
      (sym (numbers_some (held_at slots s) tid mine))
      ∙ sym (numbers_last slots s low)

  pub no_number_joins : number_of slots s ≡ None → active ≡ numbers_in (take (s + 1) slots)
  no_number_joins none =
      so_far ∙ sym (append_none (numbers_in (take s slots)))
      ∙ ap (λ (l : List ℕ). numbers_in (take s slots) ++ l)
      (sym (numbers_none (held_at slots s) none))
      ∙ sym (numbers_last slots s low)
    where
      append_none : (l : List ℕ) → l ++ [] ≡ l
      append_none [] = refl
      append_none (n ∷ l) = ap (λ (k : List ℕ). n ∷ k) (append_none l)

pub all_numbers : (slots : SessionSlots) (s : ℕ) → length slots ≤ s
    → numbers_in (take s slots) ≡ numbers_in slots
all_numbers slots s past = ap numbers_in (take_all s slots past)

-- there are no more numbers than sessions
few_numbers : (slots : SessionSlots) → length (numbers_in slots) ≤ length slots
few_numbers [] = omega arith
few_numbers (None ∷ slots) = omega (arith, few_numbers slots)
few_numbers (Some h ∷ slots) = omega (arith, few_numbers slots)

pub few_below : (slots : SessionSlots) (s : ℕ) (active : List ℕ) → length slots ≤ 32 → s < length slots
    → active ≡ numbers_in (take s slots) → length active < 32
few_below slots s active few low so_far =
    omega (
      arith,
      few,
      low,
      few_numbers (take s slots),
      length-take-le s slots (omega (arith, low)),
      ap length so_far,
    )
