use Rattle.std.proofs.Common.{subst}
use Rattle.record_locks.specs.Locks.{AreSoundSlots}
use Rattle.record_locks.proofs.TotalLemmas.{one_writer}
use Rattle.record_locks.proofs.sessions.Sessions.facts.Goals as goal

pub returns-clause-one_writer : goal.returns-clause-one_writer
returns-clause-one_writer c = one_writer c.args.self.now (subst AreSoundSlots c.self.view_is c.self.invariant)

pub returns-clause-sized : goal.returns-clause-sized
returns-clause-sized c = (subst AreSoundSlots c.self.view_is c.self.invariant).sized

pub returns-clause-few : goal.returns-clause-few
returns-clause-few c = (subst AreSoundSlots c.self.view_is c.self.invariant).few
