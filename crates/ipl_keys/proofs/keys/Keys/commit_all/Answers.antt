use Rattle.std.specs.Prelude.{◌^◌}
use Rattle.store_laws.proofs.FitLemmas.{sessions_are_sound}
use Rattle.ipl_model.specs.Operations.{after_batch}
use Rattle.ipl_model.specs.Refusals.{refuses_batch}
use Rattle.record_locks.specs.Standing.{state_of}
use Rattle.ipl_store.specs.Calls.{early_fault, entry_fault, limits_of_store}
use Rattle.ipl_store.proofs.CallLemmas.{let_in}
use Rattle.ipl_keys.specs.KeyState.{after_key_batch}
use Rattle.ipl_keys.proofs.StateLemmas.{batches_keep_keys}
use Rattle.ipl_keys.proofs.SessionLemmas.{hands_on_serves}
use Rattle.ipl_keys.proofs.keys.Keys.commit_all.Goals as goal

pub returns-clause-serves : goal.returns-clause-serves
returns-clause-serves g c =
    let store = c.args.self.now.store in
    let ss = c.args.sessions.now in
    let refusal = refuses_batch (limits_of_store store) (state_of store.transactions.sessions) ss in
    hands_on_serves (λ state. after_batch state ss) (λ k. after_key_batch k ss) store c.commit_all.new.self
    (g.C.Chip.told c.args.chip.now) (g.C.Chip.told c.commit_all.new.chip) (early_fault (entry_fault store) refusal)
    (2 ^ 15) c.handed.result (λ none. (let_in store refusal none).0)
    (λ known h state k up keeps has. batches_keep_keys store.units state k ss
    (sessions_are_sound store.transactions.sessions state (keeps.up up).sessions).0 has)
    (c.commit_all.result, c.handed.ensures, c.commit_all.ensures.calls)
