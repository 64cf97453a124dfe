use Rattle.std.proofs.Common.{◌<◌, length, arith}
use Rattle.std.proofs.lemmas.Result.{on_err_weaker}
use Rattle.ipl_model.specs.Plain.{state_of, newest_first}
use Rattle.ipl_model.proofs.ChangeLemmas.{on_ok_both, commits, stays}
use Rattle.ipl_model.proofs.plain_model.PlainModel.apply_writes.Goals as goal

pub returns-clause-ok : goal.returns-clause-ok
unfolding state_of
returns-clause-ok c =
    let within : c.args.s < length c.args.self.now.sessions = omega arith in
    on_ok_both c.move_writes.result
    (commits (newest_first c.args.self.now.committed.items) (newest_first c.move_writes.new.committed.items) c.args.self.now.sessions c.args.s within c.index-self-s.result c.move_writes.new.slot c.index-self-s.is)
    c.move_writes.ensures.moved c.move_writes.ensures.closed

pub returns-clause-err : goal.returns-clause-err
unfolding state_of
returns-clause-err c =
    let within : c.args.s < length c.args.self.now.sessions = omega arith in
    on_err_weaker c.move_writes.result
    (λ kept. stays (newest_first c.args.self.now.committed.items) (newest_first c.move_writes.new.committed.items) c.args.self.now.sessions c.args.s within c.index-self-s.result c.move_writes.new.slot c.index-self-s.is kept.0 kept.1)
    c.move_writes.ensures.kept
