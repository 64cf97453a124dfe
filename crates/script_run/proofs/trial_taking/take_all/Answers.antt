use Rattle.std.proofs.Common.{arith}
use Rattle.script_run.proofs.CompleteLemmas.{completes_more}
use Rattle.script_run.proofs.trial_taking.take_all.Goals as goal

pub returns-clause-completes : goal.returns-clause-completes
returns-clause-completes g c = λ known limits keeps.
    let named = c.names-names.ensures.limit g.places known limits (g.D.Chip.told c.args.desk.now) keeps.history
    keeps.state keeps.holds in
    completes_more (c.take_below.ensures.completes known limits (omega (arith, named)) keeps)
    (omega (arith, c.names-names.ensures.most))
