use Rattle.ipl_meaning.proofs.NumberLemmas.{greatest_is_above, greatest_is_found}
use Rattle.ipl_meaning.proofs.openings.number_laws.Goals as goal

pub returns : goal.returns
returns c = record { above = greatest_is_above; found = greatest_is_found }
