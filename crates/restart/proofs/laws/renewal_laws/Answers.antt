use Rattle.restart.proofs.RestLemmas.{passed_logs_are_same_or_carried, exact_numbers_keep, renewals_rest}
use Rattle.restart.proofs.laws.renewal_laws.Goals as goal

pub returns : goal.returns
returns c = record {
  logs = passed_logs_are_same_or_carried;
  numbers = exact_numbers_keep;
  rests = renewals_rest;
}
