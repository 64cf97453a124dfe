use Rattle.std.proofs.Common.{◌∙◌, sym, ap, ap₂, Option, None, get_or, ℕ}
use Rattle.page_ops.specs.Frames.{FrameView, pending_in, pending_of}
use Rattle.page_ops.proofs.SlotLemmas.{pending_slot}
use Rattle.page_ops.proofs.frame.Frame.pending.Goals as goal

pub returns-in-Some-clause-pending : goal.returns-in-Some-clause-pending
returns-in-Some-clause-pending c =
    let p = c.self.inside in
    ap₂ pending_of (sym c.in-Some.is ∙ c.get.ensures) c.get-value.ensures.value
    ∙ (sym (pending_slot p.numbers p.values c.args.slot)
    ∙ ap (λ (f : FrameView). pending_in f c.args.slot) c.self.view_is)

pub returns-in-None-clause-pending : goal.returns-in-None-clause-pending
returns-in-None-clause-pending c =
    let p = c.self.inside in
    ap (λ (n : Option ℕ). pending_of n (get_or p.values c.args.slot None))
    (sym c.in-None.is ∙ c.get.ensures)
    ∙ (sym (pending_slot p.numbers p.values c.args.slot)
    ∙ ap (λ (f : FrameView). pending_in f c.args.slot) c.self.view_is)
