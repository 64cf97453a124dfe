use Rattle.store_laws.proofs.InMemoryLemmas.{records_stay_pending}
use Rattle.store_laws.proofs.PendingSessionLemmas.{begins_keep_pending, shares_keep_pending, restarts_leave_none}
use Rattle.store_laws.proofs.WriteLemmas.{writes_keep_pending}
use Rattle.store_laws.proofs.PendingCommitLemmas.{aborts_keep_pending}
use Rattle.store_laws.proofs.LogSectorLemmas.{log_sectors_keep_pending}
use Rattle.store_laws.proofs.MergeLemmas.{merges_keep_pending, same_logs_keep_pending}
use Rattle.store_laws.proofs.RenewLemmas.{renewals_keep_pending}
use Rattle.store_laws.proofs.pending.pending_laws.Goals as goal

pub returns : goal.returns
returns c = record {
  begins = begins_keep_pending;
  shares = shares_keep_pending;
  writes = writes_keep_pending;
  log_sectors = log_sectors_keep_pending;
  merges = merges_keep_pending;
  same_logs = same_logs_keep_pending;
  renewals = renewals_keep_pending;
  aborts = aborts_keep_pending;
  restarts = restarts_leave_none;
  in_memory = records_stay_pending;
}
