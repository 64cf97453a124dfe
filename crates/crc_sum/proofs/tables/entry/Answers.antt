use Rattle.crc_sum.proofs.TableLemmas.{looked_up}
use Rattle.crc_sum.proofs.tables.entry.Goals as goal

pub returns : goal.returns
returns c = looked_up c.args.table c.args.byte 0 _ c.requires c.ranges.byte.fits
