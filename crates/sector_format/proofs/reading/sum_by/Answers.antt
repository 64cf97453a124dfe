use Rattle.std.proofs.Common.{arith, drop, length-drop}
use Rattle.sector_format.proofs.reading.sum_by.Goals as goal

pub returns : goal.returns
returns c =
    c.crc32_before.ensures (drop 32 c.args.bytes.now) (omega (arith, length-drop 32 c.args.bytes.now, c.fits-bytes)) c.requires
