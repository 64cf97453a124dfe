use Rattle.std.proofs.Common.{◌≡◌}
use Rattle.ipl_meaning.specs.Tables.{unmarked_written}
use Rattle.unit_directory.proofs.MarkedLemmas.{changed}
use Rattle.unit_directory.proofs.marked.end_all_marks.Given as goal

-- so many are changed
abbrev pub invariant-loop-i : goal.invariant-loop-i
invariant-loop-i l = l.all ≡ changed unmarked_written l.i l.fn.all
