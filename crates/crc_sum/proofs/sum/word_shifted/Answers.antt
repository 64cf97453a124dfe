use Rattle.crc_sum.proofs.ChunkLemmas.{word_looked_up}
use Rattle.crc_sum.proofs.sum.word_shifted.Goals as goal

pub returns-clause-shifted : goal.returns-clause-shifted
returns-clause-shifted c =
    rw (c.entry.ensures, c.entry-2.ensures, c.entry-3.ensures, c.entry-4.ensures)
    (word_looked_up c.args.zeros c.args.register c.from_le_bytes.result c.args.word.now _
    c.ranges.register.fits c.from_le_bytes.type_inv c.from_le_bytes.ensures c.told-word c.fits-word
    c.to_le_bytes-held.ensures)
