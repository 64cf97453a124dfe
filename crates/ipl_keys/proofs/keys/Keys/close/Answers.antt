use Rattle.record_locks.specs.Locks.{refuses_close}
use Rattle.ipl_keys.proofs.CloseLemmas.{hands_on_closes}
use Rattle.ipl_keys.proofs.keys.Keys.close.Goals as goal

pub returns-clause-serves : goal.returns-clause-serves
returns-clause-serves g c =
    let store = c.args.self.now.store in
    hands_on_closes store c.close.new.self (g.C.Chip.told c.args.chip.now)
    (g.C.Chip.told c.close.new.chip) (refuses_close store.transactions.sessions) c.handed.result
    (c.close.result, c.handed.ensures, c.close.ensures.closes)
