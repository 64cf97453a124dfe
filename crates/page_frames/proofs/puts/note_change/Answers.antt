use Rattle.log_records.specs.View.{record_of}
use Rattle.ipl_model.proofs.RulePeakLemmas.{le_trans}
use Rattle.page_ops.specs.Frames.{values_in, pending_in}
use Rattle.page_frames.proofs.FrameRoomLemmas.{delete_fill}
use Rattle.page_frames.proofs.puts.note_change.Goals as goal

pub returns-clause-deletes : goal.returns-clause-deletes
returns-clause-deletes c = λ none.
    let f = c.args.frame.now in
    c.set_pending.ensures.exact.1
    (le_trans (delete_fill (values_in f) (pending_in f) (record_of c.args.rec.now) none)
    c.committed.ensures.room)
