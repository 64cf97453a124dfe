use Rattle.std.proofs.Common.{arith}
use Rattle.unit_layout.proofs.HeaderLemmas.{header_written}
use Rattle.unit_layout.proofs.header.write_data_header.Goals as goal

pub returns : goal.returns
returns c =
    header_written c.args.header.now c.write_word.new.out c.write_counts.new.out c.write_word-2.new.out
    (omega (arith, c.write_counts.array_long)) (omega (arith, c.write_counts.array_long, c.write_word-2.ensures.size))
    c.write_counts.ensures.fifteen (omega arith) (omega arith) c.requires.pieces c.requires.carried
    c.write_word.ensures.front c.write_counts.ensures.front c.write_word-2.ensures.front
