use Rattle.script_run.proofs.CountLemmas.{counts_are_said}
use Rattle.script_run.proofs.ListLemmas.{records_are_listed}
use Rattle.script_run.proofs.laws.trial_laws.Goals as goal

pub returns-clause-counts : goal.returns-clause-counts
returns-clause-counts c = counts_are_said

pub returns-clause-records : goal.returns-clause-records
returns-clause-records c = records_are_listed
