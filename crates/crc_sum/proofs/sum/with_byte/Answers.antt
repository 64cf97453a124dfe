use Rattle.crc_sum.proofs.ShiftLemmas.{one_byte}
use Rattle.crc_sum.proofs.sum.with_byte.Goals as goal

pub returns : goal.returns
returns c = one_byte _ _ _ _ c.to_le_bytes-held.ensures c.ranges.byte.fits c.entry.ensures
