use Rattle.std.proofs.Common.{◌≤◌, subst}
use Rattle.ipl_base.specs.declared.limits.TheConstants.{PAGE_LEN}
use Rattle.page_ops.specs.Frames.{FrameView, frame_fill}
use Rattle.page_ops.proofs.frame.Frame.committed.Goals as goal

pub returns-clause-room : goal.returns-clause-room
returns-clause-room c =
    subst (λ (f : FrameView). frame_fill f ≤ PAGE_LEN) c.self.view_is
    (c.self.invariant.room c.text.ensures.text.slots)
