use Rattle.std.proofs.Common.{sym, length}
use Rattle.std.proofs.lemmas.Bool.{false≢true}
use Rattle.ipl_keys.proofs.BucketRestLemmas.{reads_more, no_pair, not_above, some_left}
use Rattle.ipl_keys.proofs.bucket_reading.is_bucket.Goals as goal

pub returns-then-not-has_pair : goal.returns-then-not-has_pair
returns-then-not-has_pair c = (
  λ h. absurd (false≢true h),
  λ t. absurd (no_pair c.args.bytes.now c.loop-rest.rest.now c.loop-rest.last.now c.loop-rest.invariant
      (some_left (length c.loop-rest.rest.now) c.loop-rest-test.ensures) (sym c.if-not-has_pair.ensures) t),
)

pub returns-then-not-is_above : goal.returns-then-not-is_above
returns-then-not-is_above c = (
  λ h. absurd (false≢true h),
  λ t. absurd (not_above c.args.bytes.now c.loop-rest.rest.now c.loop-rest.last.now c.first_key-key.result.now c.loop-rest.invariant
      (some_left (length c.loop-rest.rest.now) c.loop-rest-test.ensures) c.first_key-key.ensures (sym c.if-not-is_above.ensures) t),
)

pub loop-rest-preserved : goal.loop-rest-preserved
loop-rest-preserved c =
    reads_more c.args.bytes.now c.loop-rest.rest.now c.loop-rest.last.now c.first_key-key.result.now c.after_pair-rest.result.now c.loop-rest.invariant
    (some_left (length c.loop-rest.rest.now) c.loop-rest-test.ensures) (sym c.if-not-has_pair.ensures) c.first_key-key.ensures c.after_pair-rest.ensures
    (sym c.if-not-is_above.ensures)
