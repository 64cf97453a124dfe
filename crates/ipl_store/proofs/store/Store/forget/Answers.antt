use Rattle.ipl_store.proofs.OpeningLemmas.{all_closed}
use Rattle.ipl_store.proofs.store.Store.forget.Goals as goal

pub returns-clause-idle : goal.returns-clause-idle
returns-clause-idle c =
    (all_closed c.args.self.now.transactions.sessions c.reset.new.self c.reset.ensures).1

pub returns-clause-sessions : goal.returns-clause-sessions
returns-clause-sessions c =
    (all_closed c.args.self.now.transactions.sessions c.reset.new.self c.reset.ensures).0
