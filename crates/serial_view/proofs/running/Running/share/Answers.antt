use Rattle.std.proofs.Common.{sym, ◌∙◌, subst, ◌<◌, length, arith}
use Rattle.std.proofs.lemmas.Bool.{ltb-true}
use Rattle.ipl_model.specs.declared.command.Command.TheVariants as command
use Rattle.serial_view.specs.Running.{run_of, run_limits, TakesCommand}
use Rattle.serial_view.proofs.TrackLemmas.{are_sessions}
use Rattle.serial_view.proofs.TakeLemmas.{shares}
use Rattle.serial_view.proofs.running.Running.share.Goals as goal

pub returns : goal.returns
returns c =
    let run = run_of c.args.self.now in
    let within : c.args.s < length run.slots = omega (arith, c.if-s-count.false, c.count.ensures.count) in
    let sound = are_sessions run.slots c.facts.ensures.all c.facts.ensures.one_writer c.facts.ensures.sized in
    let named = ltb-true c.args.name (run_limits run).names (sym c.has_name.ensures ∙ c.if-not-has_name.false) in
    subst (TakesCommand run (command.Share c.args.s c.args.name) (record run { slots = c.share.new.self }))
    (sym c.is_ok.ensures.value)
    (shares run sound c.args.s within c.args.name named c.share.new.self c.share.result
    c.share.ensures.refusal c.share.ensures.ok c.share.ensures.err)
