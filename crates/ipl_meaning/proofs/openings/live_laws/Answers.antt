use Rattle.ipl_meaning.proofs.LiveLemmas.{sectors_are, commit_from, commit_to, note_from, note_to, noted_commits, live_from, live_to}
use Rattle.ipl_meaning.proofs.openings.live_laws.Goals as goal

pub returns : goal.returns
returns c = record {
  sectors = sectors_are;
  commits = commit_from;
  all_commits = commit_to;
  notes = note_from;
  all_notes = note_to;
  noted_commits = noted_commits;
  logs = live_from;
  all_logs = live_to;
}
