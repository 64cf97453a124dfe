use Rattle.page_frames.proofs.FrameViewLemmas.{brings_add_a_frame, evictions_take_a_frame, pins_keep_frames, loans_change_a_frame}
use Rattle.page_frames.proofs.frame_laws.buffer_laws.Goals as goal

pub returns : goal.returns
returns c = record {
  brings = brings_add_a_frame;
  evicts = evictions_take_a_frame;
  pins = pins_keep_frames;
  loans = loans_change_a_frame;
}
