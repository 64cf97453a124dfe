use Rattle.std.proofs.Common.{sym, ◌∙◌, ◌<◌, ◌≤◌, length, arith}
use Rattle.serial_view.specs.Running.{run_of}
use Rattle.serial_view.proofs.TakeLemmas.{commits}
use Rattle.serial_view.proofs.running.Running.commit.Goals as goal

pub returns : goal.returns
returns c =
    let run = run_of c.args.self.now in
    let few : length run.slots ≤ 32 = omega (arith, c.count.ensures.few, c.count.ensures.count) in
    let within : c.args.s < length run.slots = omega (arith, c.if-s-count.false, c.count.ensures.count) in
    commits run (run_of c.apply.new.self) few c.args.s within
    (sym c.is_open.ensures ∙ c.if-not-is_open.false) c.apply.ensures
