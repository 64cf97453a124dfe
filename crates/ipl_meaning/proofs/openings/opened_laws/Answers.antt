use Rattle.ipl_meaning.proofs.OpenedLemmas.{opened_tables_mirror}
use Rattle.ipl_meaning.proofs.openings.opened_laws.Goals as goal

pub returns : goal.returns
returns c = opened_tables_mirror
