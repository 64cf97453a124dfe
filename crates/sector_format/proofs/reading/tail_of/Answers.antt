use Rattle.std.proofs.Common.{◌∙◌, ap, arith, drop, length-drop}
use Rattle.std.proofs.lemmas.List.{take_all}
use Rattle.crc_sum.specs.Crc.{tail_sum}
use Rattle.sector_format.proofs.reading.tail_of.Goals as goal

pub returns : goal.returns
returns c =
    c.crc32_tail.ensures ∙ ap tail_sum
    (take_all 480 (drop 32 c.args.bytes.now) (omega (arith, length-drop 32 c.args.bytes.now, c.fits-bytes)))
