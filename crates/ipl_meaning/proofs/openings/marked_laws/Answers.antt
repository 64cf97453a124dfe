use Rattle.ipl_meaning.proofs.MarkedLemmas.{last_marks_are_told, marked_units_are_told}
use Rattle.ipl_meaning.proofs.openings.marked_laws.Goals as goal

pub returns : goal.returns
returns c = record { last = last_marks_are_told; units = marked_units_are_told }
