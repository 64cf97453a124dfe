use Rattle.std.proofs.Common.{ap}
use Rattle.ipl_model.specs.State.{State}
use Rattle.ipl_model.specs.Grammar.{commands_of}
use Rattle.serial_view.proofs.SerialLemmas.{leaves_the_same}
use Rattle.ipl_cli.proofs.chains.view_law.Goals as goal

pub returns : goal.returns
returns c = λ limits m script.
    ap (λ (s : State). s.map) (leaves_the_same limits m (commands_of script))
