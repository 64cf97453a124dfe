use Rattle.chip_trait.proofs.SaidLemmas.{said-append}
use Rattle.chip_trait.proofs.laws.said_laws.Goals as goal

pub returns : goal.returns
returns c = said-append
