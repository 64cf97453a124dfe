use Rattle.std.proofs.Common.{◌∙◌, ap}
use Rattle.page_ops.specs.Frames.{FrameView, pending_in, pendings_of}
use Rattle.page_ops.proofs.FrameLemmas.{idle_roomy}
use Rattle.page_ops.proofs.frame.Frame.committed_mut.Goals as goal

pub invariant_of-self-lent : goal.invariant_of-self-lent
invariant_of-self-lent c w =
    let p = c.self.inside in record {
      own = c.self.invariant.own;
      room = idle_roomy (record { page = w; pending = pendings_of p.numbers p.values })
          (λ slot low. ap (λ (f : FrameView). pending_in f slot) c.self.view_is ∙ c.requires slot low);
    }
