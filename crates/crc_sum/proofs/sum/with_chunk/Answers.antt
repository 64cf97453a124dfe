use Rattle.crc_sum.proofs.ChunkLemmas.{chunk_taken}
use Rattle.crc_sum.specs.Tables.{shifted_bytes}
use Rattle.crc_sum.proofs.sum.with_chunk.Goals as goal

pub returns : goal.returns
unfolding shifted_bytes
returns c =
    rw (
      c.word_shifted.ensures.shifted,
      c.word_shifted-2.ensures.shifted,
      c.word_shifted-3.ensures.shifted,
      c.word_shifted-4.ensures.shifted,
    ) (
    chunk_taken c.args.register c.args.chunk.now c.told-chunk
    c.word_shifted-3.ensures.size c.word_shifted-2.ensures.size c.word_shifted.ensures.size
    )
