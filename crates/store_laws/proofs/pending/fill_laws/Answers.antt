use Rattle.store_laws.proofs.FullLemmas.{peaks_tell_full_pages, puts_that_pass_have_room, same_values_have_room, written_pages_fit}
use Rattle.store_laws.proofs.PendingRoomLemmas.{loaded_pages_fit, frames_keep_peaks}
use Rattle.store_laws.proofs.pending.fill_laws.Goals as goal

pub returns : goal.returns
returns c = record {
  written = written_pages_fit;
  loaded = loaded_pages_fit;
  peaks = frames_keep_peaks;
  full = peaks_tell_full_pages;
  room = puts_that_pass_have_room;
  same_room = same_values_have_room;
}
