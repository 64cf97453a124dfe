use Rattle.ipl_model.specs.Operations.{after_begin}
use Rattle.ipl_model.specs.Refusals.{refuses_begin}
use Rattle.record_locks.specs.Standing.{state_of}
use Rattle.ipl_store.specs.Calls.{early_fault, entry_fault, limits_of_store}
use Rattle.ipl_store.proofs.CallLemmas.{let_in}
use Rattle.ipl_keys.specs.KeyState.{after_key_begin}
use Rattle.ipl_keys.proofs.StateLemmas.{begins_keep_keys}
use Rattle.ipl_keys.proofs.SessionLemmas.{hands_on_serves}
use Rattle.ipl_keys.proofs.keys.Keys.begin.Goals as goal

pub returns-clause-serves : goal.returns-clause-serves
returns-clause-serves g c =
    let store = c.args.self.now.store in
    let s = c.args.s in
    let refusal = refuses_begin (limits_of_store store) (state_of store.transactions.sessions) s in
    hands_on_serves (λ state. after_begin state s) (λ k. after_key_begin k s) store c.begin.new.self
    (g.C.Chip.told c.args.chip.now) (g.C.Chip.told c.begin.new._chip) (early_fault (entry_fault store) refusal)
    1 c.handed.result (λ none. (let_in store refusal none).0)
    (λ known h state k up keeps has. begins_keep_keys store.units state k s has)
    (c.begin.result, c.handed.ensures, c.begin.ensures.calls)
