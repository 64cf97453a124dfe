-- What is written to a place once it was taken.
use Rattle.std.specs.Prelude.{ℕ, ◌≡◌, ◌≤◌, [], ◌∷◌}
use Rattle.chip_trait.specs.declared.event.Event.TheVariants.{Read, Program, Erase, Worn, Barrier, Said}
use Rattle.chip_trait.specs.Story.{Story}
use Rattle.unit_io.specs.Costs.{barriers}

-- each program is of this place, and no erase is tried
abbrev pub AreOf : ℕ → Story → Type 0
AreOf place [] = Unit {0}
AreOf place (Read p s ∷ older) = AreOf place older
AreOf place (Program p s bytes ∷ older) = (p ≡ place) × AreOf place older
AreOf place (Erase p ∷ older) = ⊥
AreOf place (Barrier ∷ older) = AreOf place older
AreOf place (Worn q ∷ older) = ⊥
AreOf place (Said piece ∷ older) = AreOf place older

-- What is programmed is programmed at this place, there are at most so many barriers, and no erase
-- is tried.
pub record FillsAt (place most_barriers : ℕ) (added : Story) : Type 0 where
  pub only : AreOf place added
  pub barred : barriers added ≤ most_barriers
