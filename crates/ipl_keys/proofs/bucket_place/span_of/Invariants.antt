use Rattle.std.proofs.Common.{length, ◌-◌, ◌≤◌}
use Rattle.ipl_keys.specs.BucketPairs.{Pairs}
use Rattle.ipl_keys.specs.Bucket.{SpellsBucket}
use Rattle.ipl_keys.proofs.BucketSplitLemmas.{Walk}
use Rattle.ipl_keys.proofs.bucket_place.span_of.Given as goal

abbrev pub invariant-loop-from : goal.invariant-loop-from
invariant-loop-from l = record {
  bound : l.from ≤ length l.bytes;
  walk : (pairs : Pairs) → SpellsBucket l.bytes pairs → Walk l.bytes l.key pairs l.from;
}

abbrev pub decreases-loop-from : goal.decreases-loop-from
decreases-loop-from l = length l.bytes - l.from
