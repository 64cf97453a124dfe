use Rattle.ipl_keys.proofs.BucketLawLemmas.{set_is_found, removed_is_gone, sets_keep_order, removals_keep_order, pairs_by_values}
use Rattle.ipl_keys.proofs.bucket_laws.pair_laws.Goals as goal

pub returns : goal.returns
returns c = record { set = set_is_found; removed = removed_is_gone; set_order = sets_keep_order; removed_order = removals_keep_order; by_values = pairs_by_values }
