use Rattle.chip_trait.proofs.AgeLemmas.{clean_blank, clean_closed, clean_lasting}
use Rattle.chip_trait.proofs.LawfulLemmas.{lawful-append, lawful-part}
use Rattle.chip_trait.proofs.laws.lawful_laws.Goals as goal

pub returns-clause-clean : goal.returns-clause-clean
returns-clause-clean c = λ start story p s clean. (clean_blank start story p s clean, clean_closed story p s clean, clean_lasting story p s clean)

pub returns-clause-joins : goal.returns-clause-joins
returns-clause-joins c = lawful-append

pub returns-clause-parts : goal.returns-clause-parts
returns-clause-parts c = lawful-part
