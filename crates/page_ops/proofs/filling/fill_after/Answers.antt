use Rattle.std.proofs.Common.{◌+◌, ℕ, ap, arith}
use Rattle.page_ops.proofs.FillLemmas.{fill_first, fill_more, fill_few, fill_done}
use Rattle.page_ops.proofs.filling.fill_after.Goals as goal

pub loop-k-init : goal.loop-k-init
loop-k-init c = fill_first _ _

pub overflow_add-fill : goal.overflow_add-fill
overflow_add-fill c =
    let few = fill_few _ _ c.loop-k.k c.loop-k.fill c.slot_size.result c.coming_size.result
    c.loop-k.invariant c.loop-k-test.true c.slot_size.ensures.few c.coming_size.ensures.few in
    omega (arith, few, c.max-fill.ensures)

pub loop-k-preserved : goal.loop-k-preserved
loop-k-preserved c =
    fill_more _ _ c.loop-k.k c.loop-k.fill c.slot_size.result c.coming_size.result c.max-fill.result
    c.loop-k.invariant c.slot_size.ensures.size c.slot_size.ensures.few
    (ap (λ (n : ℕ). 1 + n) c.coming_size.ensures.size) c.coming_size.ensures.few c.max-fill.ensures

pub returns : goal.returns
returns c = fill_done _ _ c.loop-k.k c.loop-k.fill (omega (arith, c.loop-k.auto.k-end, c.loop-k-test.false)) c.loop-k.invariant
