-- The events that a chip in memory keeps, the oldest first.
use Rattle.std.specs.Prelude.{◌≡◌, ℕ, Bool, true, List, reverse, nat_lt, ◌&&◌}
use Rattle.ipl_base.specs.declared.limits.TheConstants.{SECTORS}
use Rattle.chip_trait.specs.declared.event.Event.{Event}
use Rattle.chip_trait.specs.declared.event.Event.TheVariants.{Read, Program, Erase, Worn, Barrier, Said}
use Rattle.chip_trait.specs.Story.{Story, held}
use Rattle.chip_trait.specs.Image.{is_open, is_sound, is_worn}
use Rattle.chip_mem.specs.Sectors.{contents_of}

-- what the event writes is a sector or a place of a chip of so many places
abbrev pub is_inside : ℕ → Event → Bool
is_inside places (Read q t) = true
is_inside places (Program q t bytes) = nat_lt q places && nat_lt t SECTORS
is_inside places (Erase q) = nat_lt q places
is_inside places (Worn q) = nat_lt q places
is_inside places Barrier = true
is_inside places (Said piece) = true

-- the sectors are what the events make of those at the start
abbrev pub IsReplayed : List (List ℕ) → List Event → List (List ℕ) → Type 0
IsReplayed start events sectors = (p s : ℕ) → contents_of sectors p s ≡ held (contents_of start) (reverse events) p s

-- whether after a story a sector is open, the last erase of its place was done, and its place is worn
pub record IsLasting (open_there sound worn : Bool) (story : Story) (p s : ℕ) : Type 0 where
  pub touched : open_there ≡ is_open story p s
  pub done : sound ≡ is_sound story p
  pub worn_there : worn ≡ is_worn story p
