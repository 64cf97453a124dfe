-- How often places count as erased, and which one is taken next, event by event.
use Rattle.std.specs.Prelude.{ℕ, ◌≡◌, ◌≢◌, ◌⊎◌, List, [], ◌∷◌}
use Rattle.chip_trait.specs.declared.event.Event.TheVariants.{Read, Program, Erase, Worn, Barrier, Said}
use Rattle.chip_trait.specs.Story.{Story}
use Rattle.ipl_meaning.specs.Tables.{Places, IsFree, with_erased}
use Rattle.unit_directory.specs.Free.{IsNextFree}

-- each place counts as it did, and each that was free is free still
pub record KeepsCounts (before after : Places) : Type 0 where
  pub counts : after.erases ≡ before.erases
  pub free : (p : ℕ) → IsFree before p → IsFree after p

-- the place was the next free one; these are the counts then, and each other place that was free is free still
pub record TakesNext (before : Places) (p : ℕ) (counts : List ℕ) (after : Places) : Type 0 where
  pub next : IsNextFree before p
  pub counts_are : after.erases ≡ counts
  pub others : (q : ℕ) → q ≢ p → IsFree before q → IsFree after q

-- the next free place was erased: it counts one more; or all counts are as they were, and it is free still
abbrev pub ErasesNextFree : Places → ℕ → Places → Type 0
ErasesNextFree before p after =
    TakesNext before p (with_erased before p).erases after
    ⊎ (IsNextFree before p × KeepsCounts before after)

-- What these events make of places. What is erased or found worn is the next free place then: of all that are free,
-- one that counts the fewest erases, the lowest on a tie. An erase counts for its place, or that is free still. No
-- count changes else, and no place that is free is taken else.
abbrev pub Counted : Story → Places → Places → Type 0
Counted [] before after = KeepsCounts before after
Counted (Read p s ∷ older) before after = Counted older before after
Counted (Program p s bytes ∷ older) before after = Counted older before after
Counted (Erase p ∷ older) before after =
    (then : Places) × Counted older before then × ErasesNextFree then p after
Counted (Barrier ∷ older) before after = Counted older before after
Counted (Worn p ∷ older) before after =
    (then : Places) × Counted older before then × TakesNext then p then.erases after
Counted (Said piece ∷ older) before after = Counted older before after
