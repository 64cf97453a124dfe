use Rattle.std.proofs.Common.{length, ◌/◌}
use Rattle.crc_sum.specs.Crc.{register_after, with_byte}
use Rattle.crc_sum.proofs.ChunkLemmas.{all_taken}
use Rattle.crc_sum.proofs.sum.after_part.Goals as goal

pub returns : goal.returns
returns c =
    rw (
      c.after_bytes.ensures,
      c.after_words-whole.ensures,
      c.after_chunks.ensures,
      c.as_chunks-2.ensures.front,
      c.as_chunks-2.ensures.back,
      all_taken register_after 4 c.args.register (length c.as_chunks.result.0.now / 4) c.as_chunks.result.0.now,
      c.as_chunks.ensures.front,
      c.as_chunks.ensures.back,
    ) (all_taken with_byte 4 c.args.register (length c.args.bytes.now / 4) c.args.bytes.now)
