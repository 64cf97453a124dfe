use Rattle.std.proofs.Common.{◌≡◌, ◌++◌, ◌∙◌, ◌-◌, ap, length, take, drop, List, ℕ}
use Rattle.ipl_keys.specs.Bucket.{IsPair, pair_bytes}
use Rattle.ipl_keys.proofs.BucketWriteLemmas.{set_spelled, set_short}
use Rattle.ipl_keys.proofs.bucket_changes.with_pair.Goals as goal

pub returns-clause-set : goal.returns-clause-set
returns-clause-set c =
    let bytes = c.args.bytes.now in
    let span = c.span_of-span.result in
    let out = take c.add.result c.add.new.into in
    let is : out ≡ (take span.from bytes ++ pair_bytes (c.args.key.now, c.args.value.now)) ++ take (length bytes - span.until) (drop span.until bytes) =
    c.add.ensures.front ∙ ap (λ (xs : List ℕ). xs ++ take (length bytes - span.until) (drop span.until bytes))
    (c.add_pair-until.ensures.front ∙ ap (λ (xs : List ℕ). xs ++ pair_bytes (c.args.key.now, c.args.value.now)) c.add-from.ensures.front) in
    let pair : IsPair (c.args.key.now, c.args.value.now) = record { some = c.requires.some; key = c.requires.key; value = c.requires.value } in
    λ pairs s. set_spelled bytes c.args.key.now c.args.value.now pairs span.from span.until out s (c.span_of-span.ensures.splits pairs s) pair is
    (set_short bytes c.args.key.now c.args.value.now span.from span.until out is c.span_of-span.ensures.order c.span_of-span.ensures.within
    c.if-below-key-gt-VALUE_LEN.false)
