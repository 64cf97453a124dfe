-- A store fits after a session is aborted.
use Rattle.std.proofs.Common.{Bool, None, refl, ℕ, ◌≡◌}
use Rattle.std.specs.List.{filter}
use Rattle.ipl_model.specs.Operations.{after_abort}
use Rattle.ipl_model.proofs.RulePeakLemmas.{removed_most}
use Rattle.record_locks.specs.Held.{after_end, number_of}
use Rattle.record_locks.proofs.KeepLemmas.{keeps_names}
use Rattle.page_ops.specs.Pending.{without_pending}
use Rattle.store_laws.specs.Pending.{is_other, without_number, with_number}
use Rattle.store_laws.specs.PendingLaws.{AreActive}
use Rattle.store_laws.specs.Frames.{PageFrame, logs_of, IsFrameOf, IsAbortedFrame}
use Rattle.store_laws.specs.Fits.{is_active, without_active}
use Rattle.store_laws.specs.StepLaws.{AbortsFit}
use Rattle.store_laws.proofs.PendingNumberLemmas.{number_ended}
use Rattle.store_laws.proofs.PendingCommitLemmas.{aborts_keep_pending}
use Rattle.store_laws.proofs.FrameEndLemmas.{aborts_keep_frames}
use Rattle.store_laws.proofs.ActiveLemmas.{active_ended}
use Rattle.store_laws.proofs.TableLemmas.{ended_mirrors}
use Rattle.store_laws.proofs.FitLemmas.{sessions_are_sound}
use Rattle.store_laws.proofs.MemoryFitLemmas.{keep_peaks}
use Rattle.store_laws.proofs.RoomLemmas.{room_kept}
use Rattle.store_laws.proofs.SameLemmas.{pending_with_logs, pending_with_numbers, active_with_numbers, frame_as, IsPlaced, both_logs, frames_all}
use Rattle.ipl_model.specs.Operations as rules

pub aborts_fit : AbortsFit
aborts_fit places c it t frames after slots state s tid fits within mine all locked = record {
  mirrors = ended_mirrors places c it t tid fits.mirrors;
  none_lost = fits.none_lost;
  pending = pending_with_numbers it.count it (logs_of after) (with_number (number_of slots) s None)
      (number_of (after_end slots s)) (rules.after_abort state s) ended
      (pending_with_logs it.count it (without_number (logs_of frames) tid) (logs_of after)
      (with_number (number_of slots) s None) (rules.after_abort state s) same
      (aborts_keep_pending it.count it (logs_of frames) (number_of slots) state s tid fits.pending mine));
  filled = room_kept it.count c c it it state (rules.after_abort state s) (λ u page now low few shows. shows)
      (λ n. removed_most state.sessions s n) fits.filled;
  active = active_with_numbers (with_number (number_of slots) s None) (number_of (after_end slots s)) rest ended tells;
  framed = frames_all it.count c c it it (is_active t) rest frames after (IsAbortedFrame tid) fits.framed all
      framed;
  sessions = record {
    names = (keeps_names slots state s within fits.sessions.names).aborts;
    peaks = (keep_peaks slots state s within fits.sessions).aborts;
    locked = locked;
  };
}
  where
    rest : ℕ → Bool
    rest = is_active (without_active t tid)

    ended : number_of (after_end slots s) ≡ with_number (number_of slots) s None
    ended = number_ended slots s within

    tells : AreActive (with_number (number_of slots) s None) rest
    tells = active_ended (number_of slots) t s tid fits.active mine fits.pending.apart

    same : (u page : ℕ) → without_number (logs_of frames) tid u page ≡ logs_of after u page
    same u page =
        both_logs (IsAbortedFrame tid) (filter (is_other tid)) refl (λ a b changed. changed.log) (frames u page)
        (after u page) (all u page)

    framed : (u page : ℕ) (a b : PageFrame) → IsPlaced it.count c it (logs_of frames) (is_active t) u page a
        → IsAbortedFrame tid a b → IsFrameOf c it (logs_of after) rest u page b.values b.pending
    framed u page a b (low, few, was) changed =
        frame_as c it (without_number (logs_of frames) tid) (logs_of after) rest u page a.values b.values
        (λ slot. without_pending tid (a.pending slot)) b.pending (same u page) changed.values changed.pending
        (aborts_keep_frames it.count c it (logs_of frames) (number_of slots) state (is_active t) rest s tid u page
        a.values a.pending fits.pending (sessions_are_sound slots state fits.sessions).0 fits.active tells mine low few
        was)
