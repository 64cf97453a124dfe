use Rattle.std.proofs.Common.{◌∙◌, ap}
use Rattle.record_locks.specs.Held.{SessionSlots}
use Rattle.record_locks.specs.Locks.{holder_of}
use Rattle.record_locks.proofs.CallLemmas.{holder_at}
use Rattle.record_locks.proofs.sessions.Sessions.holder.Goals as goal

pub returns : goal.returns
returns c =
    c.find_holder.ensures ∙ holder_at c.deref.result.now c.args.s c.args.name.0 c.args.for_write
    ∙ ap (λ (slots : SessionSlots). holder_of slots c.args.s c.args.name.0 c.args.for_write) (c.deref.ensures.0 ∙ c.self.view_is)
