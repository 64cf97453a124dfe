-- How many units a power cut leaves.
use Rattle.std.proofs.Common.{ℕ, sym, subst}
use Rattle.chip_trait.specs.Story.{Story}
use Rattle.chip_trait.specs.Moment.{AtEachMoment}
use Rattle.chip_trait.specs.Told.{History, adds_all}
use Rattle.ipl_meaning.specs.Legible.{Legible}
use Rattle.ipl_meaning.specs.Rests.{now, EachStands, EachStandsIn, StoryRests}
use Rattle.ipl_meaning.proofs.StoryLemmas.{held_stands, moments_of_one}
use Rattle.ipl_meaning.specs.Chosen.{units_at}
use Rattle.ipl_meaning.proofs.LaidLemmas.{laid_says_its_units}

-- at each moment of what keeps a map, as many as the status header said before it
pub moments_as_said : (places : ℕ) (m : Legible) (h : History) (added : Story) → StoryRests places m h
    → AtEachMoment (λ e. EachStands places m (adds_all e h)) added
    → AtEachMoment (λ e. EachStandsIn places (units_at (now h) places) m (adds_all e h)) added
moments_as_said places m h added rests each =
    let stands = held_stands places m h rests.each in
    subst (λ (units : ℕ). AtEachMoment (λ e. EachStandsIn places units m (adds_all e h)) added)
    (sym (laid_says_its_units (now h) places stands.layout stands.laid))
    (moments_of_one places m h stands.layout added stands.laid each)
