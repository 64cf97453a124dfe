use Rattle.ipl_meaning.proofs.WornLemmas.{worn_by_layout, idle_after_commits, idle_after_marks, idle_after_headers, idle_after_renewals, idle_after_overflows}
use Rattle.ipl_meaning.proofs.laws.worn_laws.Goals as goal

pub returns : goal.returns
returns c = record {
  layout = worn_by_layout;
  commits = idle_after_commits;
  marks = idle_after_marks;
  headers = idle_after_headers;
  renewals = idle_after_renewals;
  overflows = idle_after_overflows;
}
