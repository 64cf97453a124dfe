use Rattle.std.proofs.Common.{◌<◌, length, arith}
use Rattle.std.specs.FinMap.{empty}
use Rattle.ipl_model.specs.State.{with_writes}
use Rattle.ipl_model.specs.Plain.{state_of, newest_first}
use Rattle.ipl_model.proofs.ChangeLemmas.{closes}
use Rattle.ipl_model.proofs.plain_model.PlainModel.close_session.Goals as goal

pub returns-clause-state : goal.returns-clause-state
unfolding state_of
returns-clause-state c =
    let within : c.args.s < length c.args.self.now.sessions = omega arith in
    closes (with_writes (newest_first c.args.self.now.committed.items) empty) c.args.self.now.sessions c.args.s within
