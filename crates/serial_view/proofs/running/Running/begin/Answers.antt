use Rattle.std.proofs.Common.{sym, subst, ◌<◌, length, arith}
use Rattle.ipl_model.specs.declared.command.Command.TheVariants as command
use Rattle.serial_view.specs.Running.{run_of, TakesCommand}
use Rattle.serial_view.proofs.TrackLemmas.{are_sessions}
use Rattle.serial_view.proofs.TakeLemmas.{begins}
use Rattle.serial_view.proofs.running.Running.begin.Goals as goal

pub returns : goal.returns
returns c =
    let run = run_of c.args.self.now in
    let within : c.args.s < length run.slots = omega (arith, c.if-s-count.false, c.count.ensures.count) in
    let sound = are_sessions run.slots c.facts.ensures.all c.facts.ensures.one_writer c.facts.ensures.sized in
    subst (TakesCommand run (command.Begin c.args.s) (record run { slots = c.begin.new.self })) (sym c.is_ok.ensures.value)
    (begins run sound c.args.s within c.begin.new.self c.begin.result
    c.begin.ensures.refusal c.begin.ensures.ok c.begin.ensures.err)
