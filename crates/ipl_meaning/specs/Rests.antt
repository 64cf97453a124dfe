-- When a chip rests on a map.
use Rattle.std.specs.Prelude.{ℕ, ◌≡◌, ◌⊎◌, true, false, Some}
use Rattle.chip_trait.specs.Story.{Story, blank, held}
use Rattle.chip_trait.specs.Image.{IsQuiet, is_open, is_worn}
use Rattle.chip_trait.specs.Chart.{EachMeans}
use Rattle.chip_trait.specs.Told.{History, Told}
use Rattle.ipl_meaning.specs.Legible.{Legible}
use Rattle.ipl_format.specs.Sector.{sector_in}
use Rattle.ipl_meaning.specs.Chart.{Chart, chart_of}
use Rattle.ipl_meaning.specs.Layout.{Layout, Laid}
use Rattle.ipl_meaning.specs.Stands.{StandsIn}
use Rattle.ipl_meaning.specs.Steps.{IsIdle}

-- what a chip with this history holds
abbrev pub now : History → Chart
now h = chart_of (held h.start h.story)

-- the sector is blank, and was neither programmed nor erased since the last barrier, and its place isn't worn
abbrev pub IsUntouched : History → ℕ → ℕ → Type 0
IsUntouched h p s = (held h.start h.story p s ≡ blank) × (is_open h.story p s ≡ false) × (is_worn h.story p ≡ false)

-- whatever a power cut leaves, but by chance, stands for the map, laid out in so many units
abbrev pub EachStandsIn : ℕ → ℕ → Legible → History → Type 0
EachStandsIn places units m h = EachMeans sector_in (λ c. StandsIn places units c m) h.start h.story

-- in as many units as all else that a power cut leaves then
abbrev pub EachStands : ℕ → Legible → History → Type 0
EachStands places m h = (units : ℕ) × EachStandsIn places units m h

-- it stands for the one map or for the other
abbrev pub EachStandsEitherIn : ℕ → ℕ → Legible → Legible → History → Type 0
EachStandsEitherIn places units m n h =
    EachMeans sector_in (λ c. StandsIn places units c m ⊎ StandsIn places units c n) h.start h.story

abbrev pub EachStandsEither : ℕ → Legible → Legible → History → Type 0
EachStandsEither places m n h = (units : ℕ) × EachStandsEitherIn places units m n h

-- nothing that counts stands at a place that the story found worn
abbrev pub WornAreIdle : ℕ → Story → Chart → Type 0
WornAreIdle places story c = (it : Layout) → Laid places c it → (p : ℕ) → is_worn story p ≡ true → IsIdle places c it p

-- the story rests on the map: whatever a power cut leaves, but by chance, stands for it; since the last barrier only
-- blank sectors were programmed, each once, and no header; and worn places are idle
pub record StoryRests (places : ℕ) (m : Legible) (h : History) : Type 0 where
  pub quiet : IsQuiet h.start h.story
  pub each : EachStands places m h
  pub worn : WornAreIdle places h.story (now h)

-- the chip rests on the map: no write has failed, and its story rests on it
pub record Rests (m : Legible) (t : Told) : Type 0 where
  pub settled : t.settled ≡ true
  pub history : History
  pub told : t.history ≡ Some history
  pub story : StoryRests t.places m history
