use Rattle.restart.proofs.ReadyLemmas.{layouts_say, resting_layouts_say, kept_numbers_are_old}
use Rattle.restart.proofs.laws.ready_laws.Goals as goal

pub returns : goal.returns
returns c = record {
  says = layouts_say;
  resting = resting_layouts_say;
  old = kept_numbers_are_old;
}
