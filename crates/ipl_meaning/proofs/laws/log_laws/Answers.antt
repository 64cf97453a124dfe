use Rattle.ipl_meaning.proofs.WaitLemmas.{log_sectors_wait}
use Rattle.ipl_meaning.proofs.CommitLemmas.{commit_sectors_add}
use Rattle.ipl_meaning.proofs.MarkLemmas.{marks_wait}
use Rattle.ipl_meaning.proofs.laws.log_laws.Goals as goal

pub returns : goal.returns
returns c = record { waits = log_sectors_wait; commits = commit_sectors_add; marks = marks_wait }
