use Rattle.crc_sum.proofs.ZeroLemmas.{block_taken}
use Rattle.crc_sum.proofs.sum.after_zeros.Goals as goal

pub returns : goal.returns
returns c =
    rw (c.zero_entry.ensures, c.zero_entry-2.ensures, c.zero_entry-3.ensures, c.zero_entry-4.ensures)
    (block_taken c.args.register _ c.to_le_bytes-held.ensures c.ranges.register.fits)
