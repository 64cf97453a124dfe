use Rattle.unit_io.proofs.CostLemmas.{spends_of_kind}
use Rattle.unit_io.proofs.commits.prepare_commit.Goals as goal

pub returns-clause-writes : goal.returns-clause-writes
returns-clause-writes g c = record {
  costs = spends_of_kind c.args.spot.place 1 0 _ 6 _ _ c.requires.kind (c.program_aside.ensures.costs _ c.encode.ensures);
  tidy = c.program_aside.ensures.tidy;
  unread = c.program_aside.ensures.unread;
  accounts = c.program_aside.ensures.accounts;
}
