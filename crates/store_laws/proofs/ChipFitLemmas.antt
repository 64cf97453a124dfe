-- A store fits after each step on the chip.
use Rattle.std.proofs.Common.{List, Some, [], ap, arith, inl, refl, subst, sym, ℕ, ◌<◌, ◌∙◌, ◌≡◌}
use Rattle.std.specs.List.{All}
use Rattle.ipl_model.specs.State.{State}
use Rattle.record_locks.specs.Held.{SessionSlots, number_of}
use Rattle.ipl_meaning.specs.Chart.{Chart}
use Rattle.ipl_meaning.specs.Layout.{Entry, Layout, records_of}
use Rattle.ipl_meaning.specs.Mirrors.{Mirrors, NoneIsLost}
use Rattle.ipl_meaning.specs.Rests.{now}
use Rattle.ipl_meaning.specs.Steps.{KeepsPages, with_log, with_unit}
use Rattle.ipl_meaning.specs.Tables.{Tables}
use Rattle.store_laws.specs.Pending.{Logs, with_records, HasPending}
use Rattle.store_laws.specs.PendingLaws.{IsSameOrMerged}
use Rattle.store_laws.specs.Frames.{PageFrame, Frames, logs_of, with_frame_at, with_frame_log, AreFramesOf}
use Rattle.store_laws.specs.Room.{PagesHaveRoom}
use Rattle.store_laws.specs.Fits.{is_active, Fits}
use Rattle.store_laws.specs.StepLaws.{LogSectorsFit, MergesFit, OtherStepsFit, RenewalsFit}
use Rattle.store_laws.proofs.CarriedLemmas.{merged_or_same}
use Rattle.store_laws.proofs.LogSectorLemmas.{log_sectors_keep_pending}
use Rattle.store_laws.proofs.RenewLemmas.{renewals_keep_pending}
use Rattle.store_laws.proofs.RoomLemmas.{room_kept}
use Rattle.store_laws.proofs.FrameLemmas.{log_sectors_keep_frames, other_steps_keep_frames}
use Rattle.store_laws.proofs.ActiveLemmas.{still_active, waits_for}
use Rattle.store_laws.proofs.FitLemmas.{sessions_are_sound, resting_pages_keep}
use Rattle.store_laws.proofs.SameLemmas.{pending_with_logs, frame_as, IsPlaced, placed, log_in, logs_with, frames_put, frames_still}

-- ---- a log sector

module _ (places : ℕ) (c y : Chart) (it : Layout) (t : Tables) (frames : Frames) (slots : SessionSlots) (state : State)
    (u page : ℕ) (f : PageFrame) (e : Entry) (fits : Fits places c it t frames slots state)
    (there : frames u page ≡ Some f) (its : e.records ≡ f.log)
    (keeps : KeepsPages places c it y (with_log it u e)) where
  abbrev new : Layout
  new = with_log it u e

  abbrev logs : Logs
  logs = with_records (logs_of frames) u page []

  abbrev later : Frames
  later = with_frame_at frames u page (Some (with_frame_log f []))

  records : e.records ≡ logs_of frames u page
  records = its ∙ sym (ap log_in there)

  same : (v q : ℕ) → logs v q ≡ logs_of later v q
  same = logs_with frames u page (Some (with_frame_log f []))

  pending : HasPending it.count new (logs_of later) (number_of slots) state
  pending =
      pending_with_logs it.count new logs (logs_of later) (number_of slots) state same
      (log_sectors_keep_pending it.count it (logs_of frames) (number_of slots) state u page e fits.pending records)

  each : (v q : ℕ) (x : PageFrame) → frames v q ≡ Some x → IsPlaced it.count y new (logs_of later) (is_active t) v q x
  each v q x is =
      let (low, few, was) = placed it.count c it (is_active t) frames fits.framed v q x is in (
        low,
        few,
        frame_as y new logs (logs_of later) (is_active t) v q x.values x.values x.pending x.pending (same v q)
            (λ slot less. refl) (λ slot less. refl)
            (log_sectors_keep_frames places c y it (logs_of frames) (number_of slots) state (is_active t) u page v q e
            x.values x.pending fits.pending records keeps low few was),
      )

  framed : AreFramesOf it.count y new (is_active t) later
  framed =
      frames_put it.count y new (is_active t) frames u page (with_frame_log f []) (each u page f there)
      (λ v q x apart is. each v q x is)

pub log_sectors_fit : LogSectorsFit
log_sectors_fit places c y it t after frames slots state u page f e fits there its mirrors none_lost active keeps =
    let later = with_frame_at frames u page (Some (with_frame_log f [])) in record {
      mirrors = mirrors;
      none_lost = none_lost;
      pending = pending places c y it t frames slots state u page f e fits there its keeps;
      filled = room_kept it.count c y it (with_log it u e) state state keeps.shown (λ n. omega arith) fits.filled;
      active = still_active (number_of slots) t after active fits.active;
      framed = frames_still it.count y (with_log it u e) t after later active
          (framed places c y it t frames slots state u page f e fits there its keeps);
      sessions = fits.sessions;
    }

-- ---- other steps

-- each unit has the records that it had, or those that a merge carries
same_or_merged_fit : (places : ℕ) (c y : Chart) (it new : Layout) (t after : Tables) (frames : Frames) (slots : SessionSlots)
    (state : State) → Fits places c it t frames slots state → new.count ≡ it.count
    → ((u : ℕ) → u < it.count → IsSameOrMerged (is_active t) (it.units u) (new.units u))
    → ((u : ℕ) → u < it.count → All (λ r. new.committed r.tid ≡ it.committed r.tid) (records_of (new.units u).log))
    → Mirrors places y new after → NoneIsLost places after → after.active ≡ t.active → KeepsPages places c it y new
    → Fits places y new after frames slots state
same_or_merged_fit places c y it new t after frames slots state fits same alike kept mirrors none_lost active keeps =
    let still = still_active (number_of slots) t after active fits.active in
    let count = sym same in
    record {
      mirrors = mirrors;
      none_lost = none_lost;
      pending = subst (λ (n : ℕ). HasPending n new (logs_of frames) (number_of slots) state) count
          (renewals_keep_pending it.count it new (logs_of frames) (number_of slots) state (is_active t)
          fits.pending (sessions_are_sound slots state fits.sessions).0 fits.active alike kept
          (waits_for new (number_of slots) after still mirrors.numbers.waits));
      filled = subst (λ (n : ℕ). PagesHaveRoom n y new state) count
          (room_kept it.count c y it new state state keeps.shown (λ n. omega arith) fits.filled);
      active = still;
      framed = subst (λ (n : ℕ). AreFramesOf n y new (is_active after) frames) count
          (frames_still it.count y new t after frames active (record {
            within = fits.framed.within;
            each = λ v q f is.
                let (low, few, was) = placed it.count c it (is_active t) frames fits.framed v q f is in
                other_steps_keep_frames places c y it new (logs_of frames) (is_active t) v q f.values f.pending
                (alike v low) keeps low few was;
          }));
      sessions = fits.sessions;
    }

pub merges_fit : MergesFit
merges_fit places c y it t after frames slots state u fresh fits its =
    same_or_merged_fit places c y it (with_unit it u fresh) t after frames slots state fits refl
    (λ v low. merged_or_same (is_active t) it u v fresh its) (λ v low i d within. refl)

pub other_steps_fit : OtherStepsFit
other_steps_fit places c y it new t after frames slots state fits count same kept =
    same_or_merged_fit places c y it new t after frames slots state fits count
    (λ u low. inl (ap records_of (same u low)))
    (λ u low. subst (λ (l : List Entry). All (λ r. new.committed r.tid ≡ it.committed r.tid) (records_of l))
    (sym (same u low)) (kept u low))

pub renewals_fit : RenewalsFit
renewals_fit places h k it new t after frames slots state whole count alike kept rests agrees none_lost active =
    let was = whole.fits in
    let keeps = resting_pages_keep places state.map h k it new whole.rests rests was.mirrors.laid
    agrees.mirrors.laid count in
    record {
      fits = same_or_merged_fit places (now h) (now k) it new t after frames slots state was count alike kept
          agrees.mirrors none_lost active keeps;
      tidy = agrees.tidy;
      rests = rests;
    }
