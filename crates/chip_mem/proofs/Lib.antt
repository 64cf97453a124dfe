mod SectorLemmas
mod StoryLemmas
mod NewLemmas
mod PickLemmas
mod ChanceLemmas
