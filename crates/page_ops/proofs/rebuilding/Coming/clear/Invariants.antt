use Rattle.page_ops.proofs.ClearLemmas.{AreCleared}
use Rattle.page_ops.proofs.rebuilding.Coming.clear.Given as goal

abbrev pub invariant-loop-slot : goal.invariant-loop-slot
invariant-loop-slot l = AreCleared l.self-inside.counts l.slot l.fn.map l.map
