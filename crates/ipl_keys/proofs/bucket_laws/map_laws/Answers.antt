use Rattle.ipl_keys.proofs.BucketLawLemmas.{maps_have_values, maps_are_set, maps_are_removed}
use Rattle.ipl_keys.proofs.bucket_laws.map_laws.Goals as goal

pub returns : goal.returns
returns c = record { values = maps_have_values; set = maps_are_set; removed = maps_are_removed }
