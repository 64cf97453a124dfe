use Rattle.serial_view.specs.Running.{run_of}
use Rattle.serial_view.proofs.TakeLemmas.{restarts}
use Rattle.serial_view.proofs.running.Running.restart.Goals as goal

pub returns : goal.returns
returns c = restarts (run_of c.args.self.now) (run_of c.close_all.new.self) c.close_all.ensures
