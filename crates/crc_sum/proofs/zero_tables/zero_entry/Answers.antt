use Rattle.crc_sum.proofs.TableLemmas.{zeros_looked_up}
use Rattle.crc_sum.proofs.zero_tables.zero_entry.Goals as goal

pub returns : goal.returns
returns c = zeros_looked_up c.args.table c.args.byte 0 _ c.requires c.ranges.byte.fits
