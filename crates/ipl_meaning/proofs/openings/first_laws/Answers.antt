use Rattle.ipl_meaning.proofs.FirstLemmas.{first_is_first, first_is_found, none_is_found, none_is_there}
use Rattle.ipl_meaning.proofs.openings.first_laws.Goals as goal

pub returns : goal.returns
returns c = record { first = first_is_first; found = first_is_found; none = none_is_found; none_there = none_is_there }
