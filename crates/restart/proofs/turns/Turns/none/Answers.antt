use Rattle.restart.proofs.TurnLemmas.{all_open}
use Rattle.restart.proofs.turns.Turns.none.Goals as goal

pub returns-clause-open : goal.returns-clause-open
returns-clause-open c = λ u. all_open 1024 u
