use Rattle.page_ops.proofs.SlotLemmas.{AreApplied}
use Rattle.page_ops.proofs.frame.Frame.apply_tid.Given as goal

abbrev pub invariant-loop-slot : goal.invariant-loop-slot
invariant-loop-slot l = AreApplied l.tid l.slot l.fn.self l.self
