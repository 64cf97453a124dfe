use Rattle.crc_sum.proofs.TableLemmas.{tail_looked_up}
use Rattle.crc_sum.proofs.tail_tables.tail_entry.Goals as goal

pub returns : goal.returns
returns c = tail_looked_up c.args.table c.args.byte 0 _ c.requires c.ranges.byte.fits
