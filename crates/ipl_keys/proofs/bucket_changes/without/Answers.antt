use Rattle.std.proofs.Common.{◌++◌, ◌∙◌, ◌-◌, ap, arith, length, take, drop, List, ℕ}
use Rattle.ipl_keys.proofs.BucketWriteLemmas.{removed_spelled, removed_none}
use Rattle.ipl_keys.proofs.bucket_changes.without.Goals as goal

pub returns-clause-removed : goal.returns-clause-removed
returns-clause-removed c =
    let bytes = c.args.bytes.now in
    let span = c.span_of-span.result in
    let is = c.add.ensures.front ∙ ap (λ (xs : List ℕ). xs ++ take (length bytes - span.until) (drop span.until bytes)) c.add-from.ensures.front in
    λ pairs s. removed_spelled bytes c.args.key.now pairs span.from span.until (take c.add.result c.add.new.into) s
    (c.span_of-span.ensures.splits pairs s) is c.span_of-span.ensures.order c.span_of-span.ensures.within

pub returns-clause-none : goal.returns-clause-none
returns-clause-none c =
    λ pairs s. removed_none c.args.bytes.now c.args.key.now pairs c.span_of-span.result.from c.span_of-span.result.until c.add.result
    (c.span_of-span.ensures.splits pairs s) (omega (arith, c.add.ensures.end, c.add-from.ensures.end))
