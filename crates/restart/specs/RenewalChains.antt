-- What a power cut leaves is a start from which the next run goes on.
use Rattle.std.specs.Prelude.{ℕ, ◌≡◌, ◌⊎◌, [], ◌++◌}
use Rattle.chip_trait.specs.Chart.{says}
use Rattle.chip_trait.specs.Image.{IsNoChanceImage}
use Rattle.chip_trait.specs.Moment.{AtEachMoment}
use Rattle.chip_trait.specs.Story.{Story, Contents}
use Rattle.chip_trait.specs.Told.{History, adds_all}
use Rattle.ipl_format.specs.Sector.{sector_in}
use Rattle.ipl_meaning.specs.Legible.{Legible}
use Rattle.ipl_meaning.specs.Chart.{chart_of}
use Rattle.ipl_meaning.specs.Rests.{EachStands, EachStandsEither, StoryRests}
use Rattle.ipl_meaning.specs.Stands.{Stands}

-- contents as a start, with nothing done yet
abbrev pub starts_at : Contents → History
starts_at x = record { start = x; story = [] }

-- contents that stand for a map are a start that rests on it
abbrev pub ImagesRest : Type 0
ImagesRest = (places : ℕ) (m : Legible) (x : Contents)
    → Stands places (chart_of x) m → StoryRests places m (starts_at x)

-- so is all that a power cut leaves at some moment of a call that keeps the map
abbrev pub CutsMayBeOpened : Type 0
CutsMayBeOpened =
    (places : ℕ) (m : Legible) (h : History) (added later e : Story) (x : Contents)
    → AtEachMoment (λ f. EachStands places m (adds_all f h)) added → later ++ e ≡ added
    → IsNoChanceImage (says sector_in) h.start (e ++ h.story) x
    → StoryRests places m (starts_at x)

-- or of one that leads from the one map to the other
abbrev pub CutsOfEitherMayBeOpened : Type 0
CutsOfEitherMayBeOpened =
    (places : ℕ) (m n : Legible) (h : History) (added later e : Story) (x : Contents)
    → AtEachMoment (λ f. EachStandsEither places m n (adds_all f h)) added → later ++ e ≡ added
    → IsNoChanceImage (says sector_in) h.start (e ++ h.story) x
    → StoryRests places m (starts_at x) ⊎ StoryRests places n (starts_at x)
