use Rattle.std.proofs.Common.{◌<◌, ◌∙◌, sym, length, ap, arith}
use Rattle.page_ops.specs.Pending.{without_pending}
use Rattle.page_ops.specs.Frames.{FrameView, pending_in}
use Rattle.page_ops.proofs.FrameLemmas.{dropped_frame}
use Rattle.page_ops.proofs.SlotLemmas.{gone, changed_others, stays}
use Rattle.page_ops.proofs.frame.Frame.drop_at.Goals as goal

pub invariant_of-self : goal.invariant_of-self
invariant_of-self c =
    let p = c.self.inside in
    let within : c.args.slot < length c.clear.new.self =
    omega (arith, c.clear.ensures.page.slots, c.requires) in
    dropped_frame p.page p.numbers c.take.new.self p.values c.clear.new.self c.args.slot
    c.self.invariant c.requires within c.take.ensures c.clear.ensures.cleared

pub returns-then-is_of-clause-here : goal.returns-then-is_of-clause-here
returns-then-is_of-clause-here c =
    let p = c.self.inside in
    let low : c.args.slot < length p.numbers = omega (arith, c.self.invariant.own.count, c.requires) in
    let within : c.args.slot < length c.clear.new.self =
    omega (arith, c.clear.ensures.page.slots, c.requires) in
    gone p.numbers p.values c.args.slot c.args.tid c.get.result c.get.ensures c.take.new.self
    c.clear.new.self low within c.take.ensures c.clear.ensures.cleared (sym c.if-is_of.ensures)
    ∙ ap (λ (f : FrameView). without_pending c.args.tid (pending_in f c.args.slot)) c.self.view_is

pub returns-then-is_of-clause-others : goal.returns-then-is_of-clause-others
returns-then-is_of-clause-others c = λ k other.
    let p = c.self.inside in
    changed_others p.numbers c.take.new.self p.values c.clear.new.self c.args.slot _ _
    c.take.ensures c.clear.ensures.cleared k other
    ∙ ap (λ (f : FrameView). pending_in f k) c.self.view_is

pub returns-else-is_of-clause-here : goal.returns-else-is_of-clause-here
returns-else-is_of-clause-here c =
    let p = c.self.inside in
    sym (ap (λ (f : FrameView). without_pending c.args.tid (pending_in f c.args.slot))
    (sym c.self.view_is)
    ∙ (stays p.numbers p.values c.args.slot c.args.tid c.get.result c.get.ensures
    (sym c.if-is_of.ensures)
    ∙ ap (λ (f : FrameView). pending_in f c.args.slot) c.self.view_is))
