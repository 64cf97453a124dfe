use Rattle.std.proofs.Common.{◌∙◌, subst}
use Rattle.record_locks.specs.Locks.{AreSoundSlots}
use Rattle.record_locks.proofs.BatchLemmas.{twice_within}
use Rattle.record_locks.proofs.sessions.Sessions.least_twice.Goals as goal

pub returns : goal.returns
returns c =
    let sound = subst AreSoundSlots c.self.view_is c.self.invariant in
    c.least_twice.ensures ∙ twice_within _ 32 c.args.numbers.now sound.all c.requires
