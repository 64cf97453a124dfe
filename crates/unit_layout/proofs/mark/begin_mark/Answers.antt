use Rattle.std.proofs.Common.{arith}
use Rattle.unit_layout.proofs.MarkLemmas.{none_in, mark_begun}
use Rattle.unit_layout.proofs.mark.begin_mark.Goals as goal

pub returns-clause-spells : goal.returns-clause-spells
returns-clause-spells c =
    rw c.bits_length.ensures (mark_begun c.args.units c.write_word.new.out c.clear_from.new.out c.requires
    (omega (arith, c.told-out, c.write_word.ensures.size)) (omega (arith, c.clear_from.array_long)) c.write_word.ensures.front c.clear_from.ensures)

pub returns-clause-none : goal.returns-clause-none
returns-clause-none c u =
    rw c.bits_length.ensures (none_in c.args.units c.write_word.new.out c.clear_from.new.out c.requires
    (omega (arith, c.told-out, c.write_word.ensures.size)) c.clear_from.ensures u)
