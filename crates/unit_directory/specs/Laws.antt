-- Which places are free after each change, and how many.
use Rattle.std.specs.Prelude.{ℕ, ◌≡◌, ◌≢◌, ◌⊎◌, ◌↔◌, ◌<◌, ◌≤◌, ◌+◌, true, false, List, length, slice_index, Contains}
use Rattle.ipl_meaning.specs.Tables.{Places, IsFree, with_use}
use Rattle.unit_directory.specs.Free.{free_count, IsNextFree, spares_of, put_aside, aside, AreNext, IsReadyToTake}
use Rattle.unit_directory.specs.Directory.{empty_places, after_adopt, after_replace}

-- the place isn't free any more, and each other is as it was; where it was free, one is free less
pub record PlaceIsTaken (it after : Places) (p : ℕ) : Type 0 where
  pub free : (q : ℕ) → IsFree after q ↔ (IsFree it q × (q ≢ p))
  pub count : IsFree it p → free_count after.in_use + 1 ≡ free_count it.in_use

-- the place is free, and each other is as it was; where it was in use, one is free more
pub record GivesBack (it after : Places) (p : ℕ) : Type 0 where
  pub free : (q : ℕ) → IsFree after q ↔ (IsFree it q ⊎ (q ≡ p))
  pub count : ¬ IsFree it p → free_count after.in_use ≡ free_count it.in_use + 1

-- a place that is free is counted, so that one may be taken
abbrev pub FreePlacesCount : Type 0
FreePlacesCount = (it : Places) (p : ℕ) → IsFree it p → 0 < free_count it.in_use

-- one place alone is the next to be taken
abbrev pub OneIsNext : Type 0
OneIsNext = (it : Places) (p q : ℕ) → IsNextFree it p → IsNextFree it q → p ≡ q

-- at first each place of the chip is free
abbrev pub AllAreFreeAtFirst : Type 0
AllAreFreeAtFirst = (places units : ℕ) → (free_count (empty_places places units).in_use ≡ places)
    × ((q : ℕ) → IsFree (empty_places places units) q ↔ (q < places))

-- a place that is used is taken
abbrev pub UsesTake : Type 0
UsesTake = (it : Places) (p : ℕ) → PlaceIsTaken it (with_use it p true) p

-- a place that isn't used any more is given back
abbrev pub DisusesGiveBack : Type 0
DisusesGiveBack = (it : Places) (p : ℕ) → p < length it.in_use → GivesBack it (with_use it p false) p

-- a place that a unit adopts is taken
abbrev pub AdoptsTake : Type 0
AdoptsTake = (it : Places) (u p generation : ℕ) → PlaceIsTaken it (after_adopt it u p generation) p

-- a unit whose place is replaced gives its old one back
abbrev pub ReplacesGiveBack : Type 0
ReplacesGiveBack = (it : Places) (u p generation : ℕ) → slice_index it.current u < length it.in_use
    → GivesBack it (after_replace it u p generation) (slice_index it.current u)

-- ---- places that are found worn

-- where places are ready to be taken, and no more are retired than are spare, one is free
abbrev pub ReadyPlacesLeaveOne : Type 0
ReadyPlacesLeaveOne = (it : Places) → IsReadyToTake it → length it.retired ≤ spares_of it
    → 0 < free_count it.in_use

-- places are ready once a free one is set aside, and one more is retired then
pub record SetsAside (it : Places) (p : ℕ) : Type 0 where
  pub ready : IsReadyToTake (put_aside it p)
  pub more : length (put_aside it p).retired ≡ length it.retired + 1

abbrev pub ReadyPlacesStay : Type 0
ReadyPlacesStay = (it : Places) (p : ℕ) → IsReadyToTake it → IsFree it p → SetsAside it p

-- these places are free no more but retired, each other is as it was, and so is all else
pub record AreAside (it : Places) (worn : List ℕ) : Type 0 where
  pub was_free : (q : ℕ) → Contains worn q → IsFree it q
  pub free : (q : ℕ) → IsFree (aside it worn) q ↔ (IsFree it q × ¬ Contains worn q)
  pub retired : (q : ℕ) → Contains (aside it worn).retired q
      ↔ (Contains it.retired q ⊎ Contains worn q)
  pub current : (aside it worn).current ≡ it.current
  pub all : length (aside it worn).in_use ≡ length it.in_use
  pub erases : (aside it worn).erases ≡ it.erases
  pub written : (aside it worn).written ≡ it.written
  pub generations : (aside it worn).generations ≡ it.generations
  pub masks : (aside it worn).masks ≡ it.masks

-- so it is where each is the next free one in its turn
abbrev pub NextPlacesAreAside : Type 0
NextPlacesAreAside = (it : Places) (worn : List ℕ) → AreNext it worn → AreAside it worn

-- and where places were ready to be taken, they are so still, so many fewer are free and so many more retired
pub record LeavesReady (it : Places) (worn : List ℕ) : Type 0 where
  pub ready : IsReadyToTake (aside it worn)
  pub fewer : free_count (aside it worn).in_use + length worn ≡ free_count it.in_use
  pub more : length (aside it worn).retired ≡ length it.retired + length worn

abbrev pub NextPlacesLeaveReady : Type 0
NextPlacesLeaveReady = (it : Places) (worn : List ℕ) → IsReadyToTake it → AreNext it worn
    → LeavesReady it worn
