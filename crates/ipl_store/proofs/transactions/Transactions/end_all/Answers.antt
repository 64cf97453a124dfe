use Rattle.record_locks.specs.Locks.{refuses_batch}
use Rattle.ipl_store.proofs.BatchLemmas.{batch_unrefused}
use Rattle.ipl_store.proofs.OpenLemmas.{unrefused_done}
use Rattle.ipl_store.proofs.transactions.Transactions.end_all.Goals as goal

pub returns-clause-sessions : goal.returns-clause-sessions
returns-clause-sessions c =
    let slots = c.args.self.now.sessions in
    let numbers = c.args.numbers.now in
    unrefused_done c.end_all.result (refuses_batch slots numbers) c.end_all.ensures.refusal
    (batch_unrefused slots numbers c.requires.open) c.end_all.ensures.ok
