use Rattle.ipl_meaning.proofs.PayloadLemmas.{data_payloads_are_spelled, spelled_data_passes, status_payloads_are_spelled, spelled_status_passes, commit_payloads_are_spelled, spelled_commits_pass, log_payloads_are_spelled, spelled_logs_pass}
use Rattle.ipl_meaning.proofs.openings.payload_laws.Goals as goal

pub returns : goal.returns
returns c = record {
  data_headers = data_payloads_are_spelled;
  data_headers_pass = spelled_data_passes;
  status_headers = status_payloads_are_spelled;
  status_headers_pass = spelled_status_passes;
  commits = commit_payloads_are_spelled;
  commits_pass = spelled_commits_pass;
  logs = log_payloads_are_spelled;
  logs_pass = spelled_logs_pass;
}
