use Rattle.buffer_pool.proofs.BufferLemmas.{buffers_are_told, pinned_stay, brings_add_a_buffer, evicts_take_a_buffer, pins_change_a_buffer, loans_change_a_buffer}
use Rattle.buffer_pool.proofs.laws.pool_laws.Goals as goal

pub returns : goal.returns
returns c = record {
  told = buffers_are_told;
  pinned = pinned_stay;
  brings = brings_add_a_buffer;
  evicts = evicts_take_a_buffer;
  pins = pins_change_a_buffer;
  loans = loans_change_a_buffer;
}
