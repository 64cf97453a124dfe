use Rattle.std.proofs.Common.{◌≤◌, ◌<◌, sym, ◌∙◌, Some, arith, length}
use Rattle.std.proofs.lemmas.Bool.{ltb-true}
use Rattle.ipl_base.specs.Sizes.{size_in_page}
use Rattle.ipl_base.specs.declared.limits.TheConstants.{PAGE_LEN}
use Rattle.serial_view.specs.Running.{run_of, run_limits, fill_in}
use Rattle.serial_view.proofs.TrackLemmas.{are_sessions}
use Rattle.serial_view.proofs.TakeLemmas.{puts, overfull}
use Rattle.serial_view.proofs.running.Running.put.Goals as goal

pub returns-then-fill : goal.returns-then-fill
returns-then-fill c =
    let run = run_of c.args.self.now in
    let within : c.args.s < length run.slots = omega (arith, c.if-s-count.false, c.count.ensures.count) in
    let named = ltb-true c.args.name (run_limits run).names (sym c.has_name.ensures ∙ c.if-not-has_name.false) in
    let full : PAGE_LEN < fill_in run c.args.name (size_in_page (Some c.args.bytes.now)) =
    omega (arith, c.if-fill.true, c.fill.ensures) in
    overfull run c.args.s c.args.name within named c.args.bytes.now c.if-bytes-gt-VALUE_LEN.false full

pub returns : goal.returns
returns c =
    let run = run_of c.args.self.now in
    let within : c.args.s < length run.slots = omega (arith, c.if-s-count.false, c.count.ensures.count) in
    let sound = are_sessions run.slots c.facts.ensures.all c.facts.ensures.one_writer c.facts.ensures.sized in
    let named = ltb-true c.args.name (run_limits run).names (sym c.has_name.ensures ∙ c.if-not-has_name.false) in
    let fits : fill_in run c.args.name (size_in_page (Some c.args.bytes.now)) ≤ PAGE_LEN =
    omega (arith, c.if-fill.false, c.fill.ensures) in
    puts run sound c.args.s within c.args.name named c.args.bytes.now
    (run_of c.write.new.self) c.write.result c.if-bytes-gt-VALUE_LEN.false fits
    c.write.ensures.test c.write.ensures.written c.write.ensures.refused
