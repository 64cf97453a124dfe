-- How many events calls add that read.
use Rattle.std.proofs.Common.{ℕ, ◌≤◌, ◌+◌, [], ◌∷◌, ◌++◌, length-append, inl, inr, ◌∙◌, ap, arith}
use Rattle.std.specs.Option.{option_map}
use Rattle.chip_trait.specs.declared.event.Event.TheVariants.{Read}
use Rattle.chip_trait.specs.Told.{Told, Appends, Misses, adds_all}
use Rattle.unit_io.proofs.ReadsAtLemmas.{none_added, history_then}
use Rattle.unit_log.specs.Paged.{AddsAtMost}

pub most_none : (t : Told) → AddsAtMost 0 t t
most_none t = ([], omega arith, none_added t.history)

pub most_then : (m n : ℕ) (old mid new : Told) → AddsAtMost m old mid → AddsAtMost n mid new → AddsAtMost (m + n) old new
most_then m n old mid new (first, few, was) (second, more, is) = (
  second ++ first,
  omega (arith, length-append second first, few, more),
  is ∙ ap (option_map (adds_all second)) was ∙ history_then second first old.history,
)

pub most_wider : (m n : ℕ) (old new : Told) → m ≤ n → AddsAtMost m old new → AddsAtMost n old new
most_wider m n old new less (added, few, is) = (added, omega (arith, few, less), is)

-- one read, done or not
pub most_read : (p s : ℕ) (old new : Told) → Appends (Read p s) old new → AddsAtMost 1 old new
most_read p s old new did = (Read p s ∷ [], omega arith, did.history)

pub most_missed : (p s : ℕ) (old new : Told) → Misses (Read p s) old new → AddsAtMost 1 old new
most_missed p s old new did = elim did.history [
  | inl some ↦ (Read p s ∷ [], omega arith, some)
  | inr none ↦ ([], omega arith, none ∙ none_added old.history)
]
