use Rattle.unit_io.specs.ReadsAt.{Anywhere}
use Rattle.place_taking.proofs.WearLemmas.{failures_wear, nothing_wears, programs_wear_nothing, reads_wear_at, spared_places_wear, wears_are_joined}
use Rattle.place_taking.proofs.laws.wear_laws.Goals as goal

pub returns-clause-none : goal.returns-clause-none
returns-clause-none c = nothing_wears

pub returns-clause-reads : goal.returns-clause-reads
returns-clause-reads c = reads_wear_at Anywhere

pub returns-clause-programs : goal.returns-clause-programs
returns-clause-programs c = programs_wear_nothing

pub returns-clause-spared : goal.returns-clause-spared
returns-clause-spared c = spared_places_wear

pub returns-clause-both : goal.returns-clause-both
returns-clause-both c = wears_are_joined

pub returns-clause-failed : goal.returns-clause-failed
returns-clause-failed c = failures_wear
