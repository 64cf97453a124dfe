use Rattle.std.specs.Prelude.{◌^◌}
use Rattle.store_laws.proofs.FitLemmas.{sessions_are_sound}
use Rattle.ipl_model.specs.Operations.{after_commit}
use Rattle.ipl_model.specs.Refusals.{refuses_end}
use Rattle.record_locks.specs.Standing.{state_of}
use Rattle.ipl_store.specs.Calls.{early_fault, entry_fault, limits_of_store}
use Rattle.ipl_store.proofs.CallLemmas.{let_in}
use Rattle.ipl_keys.specs.KeyState.{after_key_commit}
use Rattle.ipl_keys.proofs.StateLemmas.{commits_keep_keys}
use Rattle.ipl_keys.proofs.SessionLemmas.{hands_on_serves}
use Rattle.ipl_keys.proofs.keys.Keys.commit.Goals as goal

pub returns-clause-serves : goal.returns-clause-serves
returns-clause-serves g c =
    let store = c.args.self.now.store in
    let s = c.args.s in
    let refusal = refuses_end (limits_of_store store) (state_of store.transactions.sessions) s in
    hands_on_serves (λ state. after_commit state s) (λ k. after_key_commit k s) store c.commit.new.self
    (g.C.Chip.told c.args.chip.now) (g.C.Chip.told c.commit.new.chip) (early_fault (entry_fault store) refusal)
    (2 ^ 15) c.handed.result (λ none. (let_in store refusal none).0)
    (λ known h state k up keeps has. commits_keep_keys store.units state k s
    (sessions_are_sound store.transactions.sessions state (keeps.up up).sessions).0 has)
    (c.commit.result, c.handed.ensures, c.commit.ensures.calls)
