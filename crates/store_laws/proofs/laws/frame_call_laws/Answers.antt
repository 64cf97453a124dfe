use Rattle.store_laws.proofs.ViewLemmas.{frames_tell_state, frames_tell_full, applied_frames_are_committed, dropped_frames_are_aborted, changed_frames_are_written}
use Rattle.store_laws.proofs.NamedLemmas.{named_aborts_suffice}
use Rattle.store_laws.proofs.laws.frame_call_laws.Goals as goal

pub returns : goal.returns
returns c = record {
  commits = applied_frames_are_committed;
  aborts = dropped_frames_are_aborted;
  writes = changed_frames_are_written;
  tells = frames_tell_state;
  full = frames_tell_full;
  named_aborts = named_aborts_suffice;
}
