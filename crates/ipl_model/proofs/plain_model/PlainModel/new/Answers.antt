use Rattle.std.specs.FinMap.{empty}
use Rattle.ipl_model.specs.State as rules
use Rattle.ipl_model.specs.Plain.{state_of, newest_first}
use Rattle.ipl_model.proofs.plain_model.PlainModel.new.Goals as goal

pub returns-clause-state : goal.returns-clause-state
unfolding state_of
returns-clause-state c = λ i. record { map = rules.with_writes (newest_first (c.new.ensures.items i)) empty; sessions = c.closed.ensures.none i }
