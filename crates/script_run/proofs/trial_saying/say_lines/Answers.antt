use Rattle.std.proofs.Common.{ℕ, List, subst}
use Rattle.chip_trait.specs.Told.{FailsToSay}
use Rattle.script_run.proofs.SaidLemmas.{stops_at}
use Rattle.script_run.proofs.trial_saying.say_lines.Goals as goal

pub returns-in-Err-clause-says : goal.returns-in-Err-clause-says
returns-in-Err-clause-says g c =
    let told = g.D.Chip.told in
    let mid = told c.loop-line.desk in
    let new = told c.say.new.self in
    stops_at c.args.lines.now c.loop-line.line-index c.line-item.result c.loop-line-test.true c.line-item.is
    (told c.args.desk.now) mid new c.loop-line.invariant.says
    (subst (λ (piece : List ℕ). FailsToSay piece mid new) c.bytes.ensures.value c.in-Err.ensures.err)
