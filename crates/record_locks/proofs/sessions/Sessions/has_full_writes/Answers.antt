use Rattle.std.proofs.Common.{nat_le, length, sym, ◌∙◌, ap, subst}
use Rattle.std.proofs.lemmas.List.{length-map}
use Rattle.record_locks.specs.Locks.{AreSoundSlots}
use Rattle.record_locks.proofs.TotalLemmas.{names_counted}
use Rattle.record_locks.proofs.sessions.Sessions.has_full_writes.Goals as goal

pub returns : goal.returns
returns c =
    ap (nat_le 256) (sym (length-map c.written.result.now (λ n. n.0)) ∙ ap length c.written.ensures.names
    ∙ sym (names_counted c.args.self.now c.args.s (subst AreSoundSlots c.self.view_is c.self.invariant)))
