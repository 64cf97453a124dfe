use Rattle.std.proofs.Common.{◌<◌, length, ◌∙◌, arith}
use Rattle.std.specs.FinMap.{empty, insert}
use Rattle.ipl_model.specs.State.{with_writes}
use Rattle.ipl_model.specs.Plain.{state_of, newest_first}
use Rattle.ipl_model.proofs.ChangeLemmas.{opens, standing}
use Rattle.ipl_model.proofs.plain_model.PlainModel.open_session.Goals as goal

pub returns-clause-state : goal.returns-clause-state
unfolding state_of
returns-clause-state c =
    let m = with_writes (newest_first c.args.self.now.committed.items) empty in
    let before = standing m c.args.self.now.sessions in
    let within : c.args.s < length c.args.self.now.sessions = omega arith in
    opens m c.args.self.now.sessions c.args.s within (record { writes = c.new.result; shared = c.new-2.result })
    ∙ (λ i. record before { sessions = insert before.sessions c.args.s (record { writes = newest_first (c.new.ensures.items i); shared = Rattle.std.proofs.Common.reverse (c.new-2.ensures.items i) }) })
