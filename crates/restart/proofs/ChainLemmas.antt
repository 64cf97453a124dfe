-- What a power cut leaves is a start from which the next run goes on.
use Rattle.std.proofs.Common.{inl, inr, refl}
use Rattle.std.proofs.lemmas.Bool.{false≢true}
use Rattle.ipl_meaning.proofs.StoryLemmas.{closed_rests}
use Rattle.restart.specs.RenewalChains.{starts_at, ImagesRest, CutsMayBeOpened, CutsOfEitherMayBeOpened}

pub images_rest : ImagesRest
images_rest places m x stands =
    closed_rests places m (starts_at x) (λ p s. refl) stands
    (λ it laid p worn. absurd (false≢true worn))

pub cuts_may_be_opened : CutsMayBeOpened
cuts_may_be_opened places m h added later e x each split image =
    images_rest places m x ((each later e split).1 x image).stands

pub cuts_of_either_may_be_opened : CutsOfEitherMayBeOpened
cuts_of_either_may_be_opened places m n h added later e x each split image =
    elim ((each later e split).1 x image) [
      | inl before ↦ inl (images_rest places m x before.stands)
      | inr after ↦ inr (images_rest places n x after.stands)
    ]
