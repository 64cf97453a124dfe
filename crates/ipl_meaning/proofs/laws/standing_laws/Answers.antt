use Rattle.ipl_meaning.proofs.StandsLemmas.{stands_after_idle, stands_after_logs, stands_after_commits, stands_after_marks, stands_after_headers, stands_after_merges, stands_after_renewals, stands_after_overflows}
use Rattle.ipl_meaning.proofs.laws.standing_laws.Goals as goal

pub returns : goal.returns
returns c = record {
  idle = stands_after_idle;
  logs = stands_after_logs;
  commits = stands_after_commits;
  marks = stands_after_marks;
  headers = stands_after_headers;
  merges = stands_after_merges;
  renewals = stands_after_renewals;
  overflows = stands_after_overflows;
}
