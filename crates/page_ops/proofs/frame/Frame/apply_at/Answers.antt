use Rattle.std.proofs.Common.{◌<◌, ◌∙◌, refl, sym, length, ap, arith}
use Rattle.page_ops.specs.Pending.{seen_by, without_pending}
use Rattle.page_ops.specs.Frames.{FrameView, pending_in, values_in}
use Rattle.page_ops.proofs.FrameLemmas.{dropped_frame, room_to_apply, applied_frame}
use Rattle.page_ops.proofs.SlotLemmas.{becomes, changed_others, gone, not_seen, stays}
use Rattle.page_ops.proofs.frame.Frame.apply_at.Goals as goal

pub copy_slot-requires-clause-room : goal.copy_slot-requires-clause-room
copy_slot-requires-clause-room c =
    let p = c.self.inside in
    room_to_apply p.page _ p.numbers p.values c.args.slot c.self.invariant refl
    c.text.ensures.text.slots

pub invariant_of-self : goal.invariant_of-self
invariant_of-self c =
    let p = c.self.inside in
    let within : c.args.slot < length c.clear.new.self =
    omega (arith, c.clear.ensures.page.slots, c.requires) in
    let applied = applied_frame p.page c.copy_slot.new.to p.numbers p.values c.args.slot
    c.self.invariant c.copy_slot.ensures.copied c.text.ensures.text.slots in
    dropped_frame c.copy_slot.new.to p.numbers c.take.new.self p.values c.clear.new.self
    c.args.slot applied c.requires within c.take.ensures c.clear.ensures.cleared

pub returns-then-is_of-clause-value : goal.returns-then-is_of-clause-value
returns-then-is_of-clause-value c =
    let p = c.self.inside in
    let value = values_in c.args.self.now c.args.slot in
    let within : c.args.slot < length c.copy_slot.new.to =
    omega (arith, c.copy_slot.ensures.page.slots, c.requires) in
    becomes p.numbers p.values c.args.slot c.args.tid c.get.result c.get.ensures p.page
    c.copy_slot.new.to value within c.copy_slot.ensures.copied (sym c.if-is_of.ensures)
    ∙ ap (λ (f : FrameView). seen_by c.args.tid value (pending_in f c.args.slot)) c.self.view_is

pub returns-then-is_of-clause-pending : goal.returns-then-is_of-clause-pending
returns-then-is_of-clause-pending c =
    let p = c.self.inside in
    let low : c.args.slot < length p.numbers = omega (arith, c.self.invariant.own.count, c.requires) in
    let within : c.args.slot < length c.clear.new.self =
    omega (arith, c.clear.ensures.page.slots, c.requires) in
    gone p.numbers p.values c.args.slot c.args.tid c.get.result c.get.ensures c.take.new.self
    c.clear.new.self low within c.take.ensures c.clear.ensures.cleared (sym c.if-is_of.ensures)
    ∙ ap (λ (f : FrameView). without_pending c.args.tid (pending_in f c.args.slot)) c.self.view_is

pub returns-then-is_of-clause-others : goal.returns-then-is_of-clause-others
returns-then-is_of-clause-others c = λ k other.
    let p = c.self.inside in
    changed_others p.numbers c.take.new.self p.values c.clear.new.self c.args.slot _ _
    c.take.ensures c.clear.ensures.cleared k other
    ∙ ap (λ (f : FrameView). pending_in f k) c.self.view_is

pub returns-else-is_of-clause-value : goal.returns-else-is_of-clause-value
returns-else-is_of-clause-value c =
    let p = c.self.inside in
    let value = values_in c.args.self.now c.args.slot in
    sym (ap (λ (f : FrameView). seen_by c.args.tid value (pending_in f c.args.slot))
    (sym c.self.view_is)
    ∙ not_seen p.numbers p.values c.args.slot c.args.tid c.get.result c.get.ensures value
    (sym c.if-is_of.ensures))

pub returns-else-is_of-clause-pending : goal.returns-else-is_of-clause-pending
returns-else-is_of-clause-pending c =
    let p = c.self.inside in
    sym (ap (λ (f : FrameView). without_pending c.args.tid (pending_in f c.args.slot))
    (sym c.self.view_is)
    ∙ (stays p.numbers p.values c.args.slot c.args.tid c.get.result c.get.ensures
    (sym c.if-is_of.ensures)
    ∙ ap (λ (f : FrameView). pending_in f c.args.slot) c.self.view_is))
