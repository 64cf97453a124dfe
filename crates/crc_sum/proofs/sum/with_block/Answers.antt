use Rattle.std.proofs.Common.{sym, ◌∙◌}
use Rattle.crc_sum.proofs.ZeroLemmas.{zero_block}
use Rattle.crc_sum.proofs.sum.with_block.Goals as goal

pub returns-then-joined-eq0 : goal.returns-then-joined-eq0
returns-then-joined-eq0 c =
    c.after_zeros.ensures
    ∙ zero_block c.args.register c.args.block.now c.told-block (sym c.joined.ensures ∙ c.if-joined-eq0.true)
