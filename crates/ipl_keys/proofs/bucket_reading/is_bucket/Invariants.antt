use Rattle.std.proofs.Common.{length}
use Rattle.ipl_keys.proofs.BucketRestLemmas.{Reads}
use Rattle.ipl_keys.proofs.bucket_reading.is_bucket.Given as goal

abbrev pub invariant-loop-rest : goal.invariant-loop-rest
invariant-loop-rest l = Reads l.bytes l.rest l.last

abbrev pub decreases-loop-rest : goal.decreases-loop-rest
decreases-loop-rest l = length l.rest
