use Rattle.std.proofs.Common.{List, ◌∙◌, ap}
use Rattle.ipl_model.specs.State.{State, Write}
use Rattle.ipl_model.proofs.RuleBatchLemmas.{batches_name_once, distinct}
use Rattle.ipl_model.specs.Plain.{state_of, limits_of, with_records, with_closed}
use Rattle.ipl_model.proofs.BatchLemmas.{batch_is}
use Rattle.ipl_model.proofs.plain_model.PlainModel.apply_batch.Goals as goal

pub close_sessions-requires : goal.close_sessions-requires
close_sessions-requires c = (batches_name_once (limits_of c.args.self.now) (state_of c.args.self.now) c.args.sessions.now c.requires).within

pub returns-clause-ok : goal.returns-clause-ok
returns-clause-ok c =
    let state = state_of c.args.self.now in
    let sessions = c.args.sessions.now in
    let named = batches_name_once (limits_of c.args.self.now) state sessions c.requires in
    c.close_sessions.ensures.state
    ∙ ap (λ (next : State). with_closed next sessions)
    (c.in_ok-commit_writes.ensures.ok ∙ ap (λ (ws : List Write). with_records ws state) c.in_ok-writes.ensures)
    ∙ batch_is state sessions (distinct sessions named.once)
