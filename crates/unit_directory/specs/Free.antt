-- Which place is the next to be taken, how many are free, and which are set aside.
use Rattle.std.specs.Prelude.{ℕ, ◌≡◌, ◌⊎◌, ◌<◌, ◌≤◌, ◌+◌, true, Bool, not, List, [], ◌∷◌, count_by, length, slice_index, Contains}
use Rattle.ipl_base.specs.Places.{spares_on}
use Rattle.ipl_meaning.specs.Tables.{Places, IsFree, with_use, with_retired}

-- how many places aren't in use
abbrev pub free_count : List Bool → ℕ
free_count in_use = count_by not in_use

-- the least worn of the free places, and the lowest of these: each that is free was erased more
-- often, or as often and doesn't stand below it
pub record IsNextFree (it : Places) (p : ℕ) : Type 0 where
  pub free : IsFree it p
  pub within : p < length it.in_use
  pub least : (q : ℕ) → IsFree it q
      → (slice_index it.erases p < slice_index it.erases q)
      ⊎ ((slice_index it.erases p ≡ slice_index it.erases q) × (p ≤ q))

-- ---- places that are found worn

-- how many places are kept for those that wear out
abbrev pub spares_of : Places → ℕ
spares_of it = spares_on (length it.in_use) (length it.current)

-- the place is in use and retired
abbrev pub put_aside : Places → ℕ → Places
put_aside it p = with_retired (with_use it p true) p

-- each of these places is, one after the other
abbrev pub aside : Places → List ℕ → Places
aside it [] = it
aside it (p ∷ places) = aside (put_aside it p) places

-- each of these places is the next free one, once those before it are set aside
abbrev pub AreNext : Places → List ℕ → Type 0
AreNext it [] = Unit {0}
AreNext it (p ∷ places) = IsNextFree it p × AreNext (put_aside it p) places

-- A place may be taken, however many of the spare ones are worn: one more is free or retired than are
-- spare, and none is both.
pub record IsReadyToTake (it : Places) : Type 0 where
  pub enough : 1 + spares_of it ≤ free_count it.in_use + length it.retired
  pub apart : (p : ℕ) → Contains it.retired p → ¬ IsFree it p
