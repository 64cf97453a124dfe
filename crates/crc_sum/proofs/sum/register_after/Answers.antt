use Rattle.std.proofs.Common.{length, ◌/◌}
use Rattle.crc_sum.specs.Crc.{with_byte}
use Rattle.crc_sum.proofs.ChunkLemmas.{all_taken}
use Rattle.crc_sum.proofs.sum.register_after.Goals as goal

pub returns : goal.returns
returns c =
    rw (c.after_part.ensures, c.after_blocks.ensures, c.as_chunks.ensures.front, c.as_chunks.ensures.back)
    (all_taken with_byte 64 c.args.register (length c.args.bytes.now / 64) c.args.bytes.now)
