use Rattle.unit_layout.proofs.MarkLemmas.{marks_are_told}
use Rattle.unit_layout.proofs.laws.mark_laws.Goals as goal

pub returns : goal.returns
returns c = marks_are_told
