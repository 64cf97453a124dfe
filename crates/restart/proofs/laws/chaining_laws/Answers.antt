use Rattle.restart.proofs.ChainLemmas.{images_rest, cuts_may_be_opened, cuts_of_either_may_be_opened}
use Rattle.restart.proofs.laws.chaining_laws.Goals as goal

pub returns : goal.returns
returns c = record {
  images = images_rest;
  cuts = cuts_may_be_opened;
  either = cuts_of_either_may_be_opened;
}
