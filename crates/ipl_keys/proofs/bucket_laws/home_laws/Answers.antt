use Rattle.ipl_keys.proofs.BucketHomeLemmas.{sets_keep_home, removals_keep_home}
use Rattle.ipl_keys.proofs.bucket_laws.home_laws.Goals as goal

pub returns : goal.returns
returns c = record { set = sets_keep_home; removed = removals_keep_home }
