use Rattle.std.proofs.Common.{arith}
use Rattle.unit_layout.proofs.HeaderLemmas.{overflow_written}
use Rattle.unit_layout.proofs.overflow.write_overflow_header.Goals as goal

pub returns : goal.returns
returns c =
    overflow_written c.args.units c.args.erases c.write_word.new.out c.write_word-2.new.out
    (omega (arith, c.told-out, c.write_word.ensures.size, c.write_word-2.ensures.size))
    (omega (arith, c.ranges.units)) (omega (arith, c.ranges.erases)) c.write_word.ensures.front c.write_word-2.ensures.front
