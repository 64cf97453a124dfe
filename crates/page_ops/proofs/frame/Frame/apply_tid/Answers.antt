use Rattle.std.proofs.Common.{◌+◌, ◌∙◌, sym, subst}
use Rattle.page_ops.specs.Frames.{FrameView}
use Rattle.page_ops.proofs.SlotLemmas.{AreApplied, applied_more, applied_past}
use Rattle.page_ops.proofs.frame.Frame.apply_tid.Goals as goal
use Rattle.page_ops.proofs.frame.Frame.apply_tid.Goals.{then-has_pending, else-has_pending}

pub loop-slot-preserved : goal.loop-slot-preserved
loop-slot-preserved c =
    let slot = c.loop-slot.slot in
    let old = c.args.self.now in
    elim c.if-has_pending.branch [
      | then-has_pending w ↦
          let at = w.apply_at.ensures in
          subst (λ (f : FrameView). AreApplied c.args.tid (slot + 1) old f) (sym w.self-is)
          (applied_more c.args.tid slot old c.loop-slot.self w.apply_at.new.self
          c.loop-slot.invariant at.value at.pending at.other_values at.others)
      | else-has_pending w ↦
          subst (λ (f : FrameView). AreApplied c.args.tid (slot + 1) old f) (sym w.self-is)
          (applied_past c.args.tid slot old c.loop-slot.self c.loop-slot.invariant
          (sym c.has_pending.ensures ∙ w.if-has_pending.false))
    ]
