use Rattle.std.proofs.Common.{List, ◌∙◌, ap}
use Rattle.std.specs.FinMap.{empty}
use Rattle.ipl_model.specs.State as rules
use Rattle.ipl_model.specs.declared.plain_model.log.Write.{Write}
use Rattle.ipl_model.specs.Plain.{state_of, newest_first}
use Rattle.ipl_model.proofs.ChangeLemmas.{standing, with_writes-append, on_err}
use Rattle.ipl_model.proofs.LogLemmas.{newest_first-append}
use Rattle.ipl_model.proofs.plain_model.PlainModel.commit_writes.Goals as goal

pub returns-in_err-append-clause-err : goal.returns-in_err-append-clause-err
unfolding state_of
returns-in_err-append-clause-err c =
    on_err c.from_residual.result
    (ap (λ (log : List Write). standing (rules.with_writes (newest_first log) empty) c.args.self.now.sessions) c.in_err-append.ensures.items)

pub returns-clause-ok : goal.returns-clause-ok
unfolding state_of
returns-clause-ok c =
    let older = c.args.self.now.committed.items in
    let writes = c.args.writes.now.items in
    ap (λ (log : List Write). standing (rules.with_writes (newest_first log) empty) c.args.self.now.sessions) c.in_ok-append.ensures.items
    ∙ ap (λ (m : rules.Map). standing m c.args.self.now.sessions)
    (ap (λ (ws : List rules.Write). rules.with_writes ws empty) (newest_first-append older writes)
    ∙ with_writes-append (newest_first writes) (newest_first older) empty)
