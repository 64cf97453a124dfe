-- Which sectors a chip has, and which of them a call programs or erases, and in what order.
use Rattle.std.specs.Prelude.{Bool, true, ℕ, ◌≡◌, ◌≢◌, ◌<◌, ◌≤◌, ◌+◌, ◌*◌, List, [], ◌∷◌, ◌++◌, Some}
use Rattle.ipl_base.specs.declared.limits.TheConstants.{PAGE_SECTORS}
use Rattle.chip_trait.specs.Story.{Story, pieces}
use Rattle.chip_trait.specs.Told.{Told}
use Rattle.chip_trait.specs.declared.event.Event.TheVariants.{Program, Barrier}
use Rattle.chip_trait.specs.Lawful.{Clean, age, IsLawful}
use Rattle.ipl_format.specs.Sector.{Sector, sector_in}

-- the chip has this place, and a place this sector
pub record IsOnChip (told : Told) (p s : ℕ) : Type 0 where
  pub place : p < told.places
  pub sector : s < 256

-- the chip has this place, and a place this page
pub record IsPageOnChip (told : Told) (p i : ℕ) : Type 0 where
  pub place : p < told.places
  pub page : i < 15

-- and a page so many pieces
pub record ArePiecesOnChip (told : Told) (p i n : ℕ) : Type 0 where
  pub place : p < told.places
  pub page : i < 15
  pub pieces : n ≤ PAGE_SECTORS

-- The events program sectors of this place that stand at these spots, each once, and say nothing. They are lawful after any
-- lawful events that leave these spots clean; and what was clean elsewhere is so after them.
pub record Programs (p : ℕ) (Spot : ℕ → Type 0) (done : Bool) (added : Story) : Type 0 where
  pub silent : pieces added ≡ []
  pub lawful : (base : Story) → IsLawful base → ((s : ℕ) → Spot s → age base p s ≡ Clean) → IsLawful (added ++ base)
  pub others : (base : Story) (q s : ℕ) → (q ≡ p → Spot s → ⊥) → age base q s ≡ Clean → age (added ++ base) q s ≡ Clean

-- the events are the program of this sector, at this spot, and a barrier
pub record AddsSector (p s : ℕ) (sector : Sector) (added : Story) : Type 0 where
  pub bytes : List ℕ
  pub spelled : sector_in bytes ≡ Some sector
  pub events : added ≡ Barrier ∷ Program p s bytes ∷ []

-- The events erase this place and say nothing. They are lawful after any lawful events, and what was clean elsewhere is so
-- after them; and where all is done, each sector of the place is clean.
pub record Clears (p : ℕ) (done : Bool) (added : Story) : Type 0 where
  pub silent : pieces added ≡ []
  pub lawful : (base : Story) → IsLawful base → IsLawful (added ++ base)
  pub others : (base : Story) (q s : ℕ) → q ≢ p → age base q s ≡ Clean → age (added ++ base) q s ≡ Clean
  pub fresh : done ≡ true → (base : Story) (s : ℕ) → age (added ++ base) p s ≡ Clean

-- The events erase this place, and then program sectors of it, each once, and say nothing. They are
-- lawful after any lawful events, and what was clean elsewhere is so after them; and where all is
-- done, the sectors from this one on are clean.
pub record Rewrites (p from : ℕ) (done : Bool) (added : Story) : Type 0 where
  pub silent : pieces added ≡ []
  pub lawful : (base : Story) → IsLawful base → IsLawful (added ++ base)
  pub others : (base : Story) (q s : ℕ) → q ≢ p → age base q s ≡ Clean → age (added ++ base) q s ≡ Clean
  pub fresh : done ≡ true → (base : Story) (s : ℕ) → from ≤ s → age (added ++ base) p s ≡ Clean

-- the spots of the first n pieces of a page
abbrev pub IsPieceSpot : ℕ → ℕ → ℕ → Type 0
IsPieceSpot page n s = (1 + page * PAGE_SECTORS ≤ s) × (s < 1 + page * PAGE_SECTORS + n)

-- one spot
abbrev pub IsSpot : ℕ → ℕ → Type 0
IsSpot at s = s ≡ at
