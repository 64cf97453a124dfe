use Rattle.store_laws.proofs.FollowLemmas.{records_are_writes, changed_pages_suffice}
use Rattle.store_laws.proofs.PendingCommitLemmas.{commits_keep_pending}
use Rattle.store_laws.proofs.SayLemmas.{commits_say_writes}
use Rattle.store_laws.proofs.WeightLemmas.{records_weigh_no_more}
use Rattle.store_laws.proofs.PendingBatchLemmas.{batches_keep_pending, batches_say_writes}
use Rattle.store_laws.proofs.pending.saying_laws.Goals as goal

pub returns : goal.returns
returns c = record {
  commits = commits_keep_pending;
  says = commits_say_writes;
  batches = batches_keep_pending;
  batches_say = batches_say_writes;
  written = records_are_writes;
  changed = changed_pages_suffice;
  weighed = records_weigh_no_more;
}
