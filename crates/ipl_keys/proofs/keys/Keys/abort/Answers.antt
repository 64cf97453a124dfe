use Rattle.ipl_model.specs.Operations.{after_abort}
use Rattle.ipl_model.specs.Refusals.{refuses_end}
use Rattle.record_locks.specs.Standing.{state_of}
use Rattle.ipl_store.specs.Calls.{early_fault, down_fault, limits_of_store}
use Rattle.ipl_store.proofs.CallLemmas.{let_in_down}
use Rattle.ipl_keys.specs.KeyState.{after_key_abort}
use Rattle.ipl_keys.proofs.StateLemmas.{aborts_keep_keys}
use Rattle.ipl_keys.proofs.SessionLemmas.{hands_on_serves}
use Rattle.ipl_keys.proofs.keys.Keys.abort.Goals as goal

pub returns-clause-serves : goal.returns-clause-serves
returns-clause-serves g c =
    let store = c.args.self.now.store in
    let s = c.args.s in
    let refusal = refuses_end (limits_of_store store) (state_of store.transactions.sessions) s in
    hands_on_serves (λ state. after_abort state s) (λ k. after_key_abort k s) store c.abort.new.self
    (g.C.Chip.told c.args.chip.now) (g.C.Chip.told c.abort.new._chip) (early_fault (down_fault store) refusal)
    0 c.handed.result (λ none. (let_in_down store refusal none).0)
    (λ known h state k up keeps has. aborts_keep_keys store.units state k s has)
    (c.abort.result, c.handed.ensures, c.abort.ensures.calls)
