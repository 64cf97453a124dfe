use Rattle.ipl_meaning.proofs.FormattedLemmas.{formatted_chips_are_empty}
use Rattle.ipl_meaning.proofs.FirstTableLemmas.{first_tables_mirror}
use Rattle.ipl_meaning.proofs.laws.format_laws.Goals as goal

pub returns : goal.returns
returns c = record { empty = formatted_chips_are_empty; tables = first_tables_mirror }
