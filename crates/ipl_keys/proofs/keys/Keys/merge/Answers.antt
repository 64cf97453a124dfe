use Rattle.ipl_model.specs.Refusals.{refuses_merge}
use Rattle.ipl_store.specs.Calls.{early_fault, entry_fault, limits_of_store}
use Rattle.ipl_store.proofs.CallLemmas.{let_in}
use Rattle.ipl_keys.proofs.SessionLemmas.{hands_on_serves}
use Rattle.ipl_keys.proofs.keys.Keys.merge.Goals as goal

pub returns-clause-serves : goal.returns-clause-serves
returns-clause-serves g c =
    let store = c.args.self.now.store in
    let refusal = refuses_merge (limits_of_store store) c.args.unit in
    hands_on_serves (λ state. state) (λ k. k) store c.merge.new.self
    (g.C.Chip.told c.args.chip.now) (g.C.Chip.told c.merge.new.chip) (early_fault (entry_fault store) refusal)
    13 c.handed.result (λ none. (let_in store refusal none).0) (λ known h state k up keeps has. has)
    (c.merge.result, c.handed.ensures, c.merge.ensures.calls)
