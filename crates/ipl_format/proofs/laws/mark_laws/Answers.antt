use Rattle.ipl_format.proofs.MarkLemmas.{marks_spell_once}
use Rattle.ipl_format.proofs.laws.mark_laws.Goals as goal

pub returns : goal.returns
returns c = marks_spell_once
