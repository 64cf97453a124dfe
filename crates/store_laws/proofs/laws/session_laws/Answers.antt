use Rattle.store_laws.proofs.SessionLemmas.{begins_lead, shares_lead, writes_lead, aborts_lead, empty_commits_lead, open_sessions_may_end}
use Rattle.store_laws.proofs.laws.session_laws.Goals as goal

pub returns : goal.returns
returns c = record {
  begins = begins_lead;
  shares = shares_lead;
  writes = writes_lead;
  aborts = aborts_lead;
  empty_commits = empty_commits_lead;
  may_end = open_sessions_may_end;
}
