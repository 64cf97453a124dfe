use Rattle.crc_sum.proofs.TailLemmas.{tail_taken}
use Rattle.crc_sum.proofs.tails.before_tail.Goals as goal

pub returns : goal.returns
returns c =
    rw (c.tail_entry.ensures, c.tail_entry-2.ensures, c.tail_entry-3.ensures, c.tail_entry-4.ensures)
    (tail_taken c.args.register _ c.to_le_bytes-held.ensures c.ranges.register.fits)
