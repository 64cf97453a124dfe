use Rattle.ipl_keys.proofs.BucketLawLemmas.{buckets_spell_once}
use Rattle.ipl_keys.proofs.bucket_laws.spelling_laws.Goals as goal

pub returns-clause-once : goal.returns-clause-once
returns-clause-once c = buckets_spell_once
