use Rattle.std.proofs.Common.{sym, ◌∙◌, ◌<◌, length, arith}
use Rattle.std.proofs.lemmas.Bool.{ltb-true}
use Rattle.serial_view.specs.Running.{run_of, run_limits}
use Rattle.serial_view.proofs.TrackLemmas.{are_sessions}
use Rattle.serial_view.proofs.TakeLemmas.{dels}
use Rattle.serial_view.proofs.running.Running.del.Goals as goal

pub returns : goal.returns
returns c =
    let run = run_of c.args.self.now in
    let within : c.args.s < length run.slots = omega (arith, c.if-s-count.false, c.count.ensures.count) in
    let sound = are_sessions run.slots c.facts.ensures.all c.facts.ensures.one_writer c.facts.ensures.sized in
    let named = ltb-true c.args.name (run_limits run).names (sym c.has_name.ensures ∙ c.if-not-has_name.false) in
    dels run sound c.args.s within c.args.name named (run_of c.write.new.self)
    c.write.result c.write.ensures.test c.write.ensures.written c.write.ensures.refused
