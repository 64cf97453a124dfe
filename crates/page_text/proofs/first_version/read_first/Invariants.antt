use Rattle.std.proofs.Common.{length}
use Rattle.page_text.proofs.ReadLemmas.{Reading}
use Rattle.page_text.proofs.first_version.read_first.Given as goal

abbrev pub invariant-loop-rest : goal.invariant-loop-rest
invariant-loop-rest l = Reading 1 l.bytes l.rest l.map l.next

abbrev pub decreases-loop-rest : goal.decreases-loop-rest
decreases-loop-rest l = length l.rest
