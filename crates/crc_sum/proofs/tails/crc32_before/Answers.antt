use Rattle.crc_sum.proofs.TailLemmas.{joined_to_tail}
use Rattle.crc_sum.proofs.tails.crc32_before.Goals as goal

pub returns : goal.returns
returns c = λ tail long brought.
    rw (c.before_tail.ensures, c.register_after.ensures, brought) (joined_to_tail 480 c.args.front.now tail long)
