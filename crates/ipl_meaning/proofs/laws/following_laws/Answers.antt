use Rattle.ipl_meaning.proofs.HomeLogLemmas.{tables_follow_home_logs}
use Rattle.ipl_meaning.proofs.OverflowLogLemmas.{tables_follow_overflow_logs}
use Rattle.ipl_meaning.proofs.CommitFollowLemmas.{tables_follow_commits}
use Rattle.ipl_meaning.proofs.CountedLemmas.{counted_follow}
use Rattle.ipl_meaning.proofs.laws.following_laws.Goals as goal

pub returns : goal.returns
returns c = record { home_logs = tables_follow_home_logs; overflow_logs = tables_follow_overflow_logs; commits = tables_follow_commits; counted_clean = counted_follow }
