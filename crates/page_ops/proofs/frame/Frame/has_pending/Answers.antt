use Rattle.std.proofs.Common.{◌∙◌, sym, ap}
use Rattle.std.specs.Prelude.{is_some}
use Rattle.page_ops.specs.Frames.{FrameView, pending_in}
use Rattle.page_ops.proofs.SlotLemmas.{pending_some}
use Rattle.page_ops.proofs.frame.Frame.has_pending.Goals as goal

pub returns : goal.returns
returns c =
    let p = c.self.inside in
    c.is_some.ensures ∙ ap is_some c.get.ensures ∙ (sym (pending_some p.numbers p.values c.args.slot)
    ∙ ap (λ (f : FrameView). is_some (pending_in f c.args.slot)) c.self.view_is)
