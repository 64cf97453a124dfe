use Rattle.ipl_meaning.proofs.MarkLemmas.{commits_mark_no_more, headers_mark_no_more, renewals_mark_no_more, overflows_mark_no_more}
use Rattle.ipl_meaning.proofs.laws.marking_laws.Goals as goal

pub returns : goal.returns
returns c = record { commits = commits_mark_no_more; headers = headers_mark_no_more; renewals = renewals_mark_no_more; overflows = overflows_mark_no_more }
