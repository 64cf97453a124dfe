use Rattle.std.proofs.Common.{◌+◌, arith, length-drop}
use Rattle.std.specs.declared.cmp.Ordering.TheVariants.{Less, Equal, Greater}
use Rattle.ipl_keys.proofs.BucketSplitLemmas.{walk_none, walk_more, split_past, split_before, split_on, has_next, next_read, key_read, len_read}
use Rattle.ipl_keys.proofs.bucket_place.span_of.Goals as goal

pub loop-from-init : goal.loop-from-init
loop-from-init c = record { bound = omega arith; walk = λ pairs s. walk_none c.args.bytes.now c.args.key.now pairs s }

pub pair_len-requires : goal.pair_len-requires
pair_len-requires c =
    next_read c.args.bytes.now c.args.key.now c.requires.0 c.loop-from.from (c.loop-from.invariant.walk c.requires.0 c.requires.1) c.loop-from-test.true

pub first_key-requires : goal.first_key-requires
first_key-requires c =
    next_read c.args.bytes.now c.args.key.now c.requires.0 c.loop-from.from (c.loop-from.invariant.walk c.requires.0 c.requires.1) c.loop-from-test.true

pub loop-from-preserved : goal.loop-from-preserved
loop-from-preserved c = record {
  bound = omega (arith, c.pair_len.ensures.within, length-drop c.loop-from.from c.args.bytes.now, c.loop-from-test.true);
  walk = λ pairs s. walk_more c.args.bytes.now c.args.key.now pairs c.loop-from.from (c.loop-from.from + c.pair_len.result) (c.loop-from.invariant.walk pairs s) c.loop-from-test.true
      (len_read c.loop-from.from c.pair_len.result c.args.bytes.now c.pair_len.ensures.len)
      (key_read c.loop-from.from c.args.bytes.now c.args.key.now c.first_key.result.now Less c.first_key.ensures c.in-Less.ensures);
}

pub returns-in-Equal-clause-splits : goal.returns-in-Equal-clause-splits
returns-in-Equal-clause-splits c =
    λ pairs s. split_on c.args.bytes.now c.args.key.now pairs c.loop-from.from (c.loop-from.from + c.pair_len.result) (c.loop-from.invariant.walk pairs s) c.loop-from-test.true
    (len_read c.loop-from.from c.pair_len.result c.args.bytes.now c.pair_len.ensures.len)
    (key_read c.loop-from.from c.args.bytes.now c.args.key.now c.first_key.result.now Equal c.first_key.ensures c.in-Equal.ensures)

pub returns-in-Equal-clause-held : goal.returns-in-Equal-clause-held
returns-in-Equal-clause-held c =
    λ less. has_next c.args.bytes.now c.args.key.now c.requires.0 c.loop-from.from (c.loop-from.invariant.walk c.requires.0 c.requires.1) c.loop-from-test.true

pub returns-in-Greater-clause-splits : goal.returns-in-Greater-clause-splits
returns-in-Greater-clause-splits c =
    λ pairs s. split_before c.args.bytes.now c.args.key.now pairs c.loop-from.from (c.loop-from.invariant.walk pairs s) c.loop-from-test.true
    (key_read c.loop-from.from c.args.bytes.now c.args.key.now c.first_key.result.now Greater c.first_key.ensures c.in-Greater.ensures)

pub returns-clause-splits : goal.returns-clause-splits
returns-clause-splits c =
    λ pairs s. split_past c.args.bytes.now c.args.key.now pairs c.loop-from.from (c.loop-from.invariant.walk pairs s) c.loop-from-test.false
