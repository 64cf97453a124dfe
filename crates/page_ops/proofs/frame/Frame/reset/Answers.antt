use Rattle.page_ops.proofs.FrameLemmas.{fresh}
use Rattle.page_ops.proofs.SlotLemmas.{all_none}
use Rattle.page_ops.proofs.frame.Frame.reset.Goals as goal

pub invariant_of-self : goal.invariant_of-self
invariant_of-self c = fresh c.reset.new.self c.reset-3.new.self c.reset-2.new.self c.reset-2.ensures
    c.reset-3.ensures

pub returns : goal.returns
returns c = all_none c.reset.new.self c.reset-3.new.self c.reset-2.new.self
    c.reset.ensures c.reset-3.ensures
