use Rattle.ipl_model.proofs.GreatestLemmas.{is_greatest}
use Rattle.ipl_model.proofs.RecordLemmas.{only_commits_change_records, records_change_by_commits}
use Rattle.ipl_model.proofs.laws.run_laws.Goals as goal

pub returns-clause-greatest : goal.returns-clause-greatest
returns-clause-greatest c = is_greatest

pub returns-clause-commits : goal.returns-clause-commits
returns-clause-commits c = only_commits_change_records

pub returns-clause-records : goal.returns-clause-records
returns-clause-records c = records_change_by_commits
