use Rattle.std.specs.FinMap.{empty}
use Rattle.ipl_model.specs.State.{with_writes}
use Rattle.ipl_model.specs.Plain.{state_of, newest_first}
use Rattle.ipl_model.proofs.plain_model.PlainModel.close_all.Goals as goal

pub returns-clause-state : goal.returns-clause-state
unfolding state_of
returns-clause-state c = λ i. record { map = with_writes (newest_first c.args.self.now.committed.items) empty; sessions = c.closed.ensures.none i }
