use Rattle.ipl_meaning.proofs.MirrorLemmas.{free_places_are_idle, log_sectors_may_go_home, log_sectors_may_go_elsewhere, commit_sectors_may_go, marks_may_go, headers_may_go, status_headers_may_go, overflow_headers_may_go}
use Rattle.ipl_meaning.proofs.laws.table_laws.Goals as goal

pub returns : goal.returns
returns c = record {
  free_places = free_places_are_idle;
  home_logs = log_sectors_may_go_home;
  overflow_logs = log_sectors_may_go_elsewhere;
  commits = commit_sectors_may_go;
  marks = marks_may_go;
  headers = headers_may_go;
  status_headers = status_headers_may_go;
  overflow_headers = overflow_headers_may_go;
}
