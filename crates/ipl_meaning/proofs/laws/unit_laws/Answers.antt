use Rattle.ipl_meaning.proofs.StoryLemmas.{moments_keep_units}
use Rattle.ipl_meaning.proofs.laws.unit_laws.Goals as goal

pub returns : goal.returns
returns c = moments_keep_units
