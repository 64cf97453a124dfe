-- A store fits after each step in memory.
use Rattle.std.proofs.Common.{List, None, Option, Some, [], ap, arith, length, refl, subst, sym, ℕ, ◌++◌, ◌<◌, ◌≤◌, ◌∙◌, ◌∷◌, ◌≡◌}
use Rattle.std.specs.FinMap.{empty, get-empty}
use Rattle.std.specs.List.{All}
use Rattle.std.specs.Ordering.{nat_cmp}
use Rattle.std.proofs.lemmas.Bool.{both_ways}
use Rattle.std.proofs.lemmas.List.Elements.{All-append, All-contains}
use Rattle.std.proofs.lemmas.Option.{none-some}
use Rattle.ipl_format.proofs.RecordLemmas.{all_stay}
use Rattle.ipl_base.specs.declared.limits.TheConstants.{VERSION}
use Rattle.ipl_base.specs.Sizes.{size_in_page}
use Rattle.ipl_model.specs.Peaks.{Peaks, peaks}
use Rattle.ipl_model.specs.State.{Map, State, at_rest}
use Rattle.ipl_model.proofs.RulePeakLemmas.{by_number, inserted_most, shared_less}
use Rattle.record_locks.specs.Held.{SessionSlots, after_begin, after_share, is_among, peaks_in, number_of}
use Rattle.record_locks.specs.Names.{KeepsNamePeaks}
use Rattle.record_locks.proofs.KeepLemmas.{keeps_peaks, keeps_names}
use Rattle.record_locks.proofs.SameLemmas.{peaks_are}
use Rattle.ipl_format.specs.Record.{IsRecord, Record}
use Rattle.ipl_meaning.specs.Chart.{Chart}
use Rattle.ipl_meaning.specs.Layout.{Laid, Layout, records_of}
use Rattle.ipl_meaning.specs.Tables.{Tables}
use Rattle.ipl_meaning.proofs.CounterLemmas.{new_numbers_wait}
use Rattle.page_ops.specs.Pending.{with_pending}
use Rattle.store_laws.specs.Pending.{Logs, SessionNumbers, with_records, with_number, name_at, IsPending, HasPending, HasOtherNumber, HasNoRecords}
use Rattle.store_laws.specs.PendingLaws.{AreActive}
use Rattle.store_laws.specs.Frames.{PageFrame, Frames, logs_of, with_frame_at, IsWrittenFrame}
use Rattle.store_laws.specs.Room.{PageHasRoomFor}
use Rattle.store_laws.specs.Fits.{LocksHold, AreSessionsOf, is_active, with_active, Fits}
use Rattle.store_laws.specs.StepLaws.{after_record, BeginsFit, SharesFit, WritesFit, LoadsFit, EvictionsFit, OpeningsFit}
use Rattle.store_laws.proofs.ElementLemmas.{all_listed}
use Rattle.store_laws.proofs.MemoryLemmas.{all_records}
use Rattle.store_laws.proofs.PendingNumberLemmas.{number_begun, number_written, number_shared}
use Rattle.store_laws.proofs.PendingSessionLemmas.{begins_keep_pending, shares_keep_pending, restarts_leave_none}
use Rattle.store_laws.proofs.WriteLemmas.{writes_keep_pending}
use Rattle.store_laws.proofs.RoomLemmas.{room_kept, room_written}
use Rattle.store_laws.proofs.FrameLemmas.{begins_keep_frames, writes_keep_frames}
use Rattle.store_laws.proofs.ActiveLemmas.{is_listed, active_begun}
use Rattle.store_laws.proofs.TableLemmas.{begun_mirrors}
use Rattle.store_laws.proofs.SameLemmas.{pending_with_logs, pending_with_numbers, active_with_numbers, frame_as, IsPlaced, log_in, logs_with, logs_unchanged, frames_with, frames_put, other_frames}
use Rattle.ipl_model.specs.Operations as rules

-- ---- sessions

-- what the calls keep of the sessions' peaks
pub keep_peaks : (slots : SessionSlots) (state : State) (s : ℕ) → s < length slots → AreSessionsOf slots state
    → KeepsNamePeaks slots state s
keep_peaks slots state s within are = keeps_peaks slots state s within are.locked.sized are.names are.peaks

begun_peaks : (state : State) (s n : ℕ) → peaks (rules.after_begin state s) n ≤ peaks state n
begun_peaks state s n = inserted_most state s rules.new_session n (peaks state n) (omega arith) (omega arith)

pub begins_fit : BeginsFit
begins_fit places c it t frames slots state s tid fits within closed later locked = record {
  mirrors = begun_mirrors places c it t tid fits.mirrors later;
  none_lost = fits.none_lost;
  pending = pending_with_numbers units it logs (with_number numbers s (Some tid)) (number_of (after_begin slots s tid))
      (rules.after_begin state s) begun
      (begins_keep_pending units it logs numbers state s tid fits.pending closed
      (λ a its. is_new a tid its refl) (new_numbers_wait places c it t.next tid fits.mirrors.laid
      fits.mirrors.numbers.above later).0 no_records);
  filled = room_kept units c c it it state (rules.after_begin state s) (λ u page now low few shows. shows)
      (λ n. begun_peaks state s n) fits.filled;
  active = active_with_numbers (with_number numbers s (Some tid)) (number_of (after_begin slots s tid))
      (is_active (with_active t tid)) begun tells;
  framed = record {
    within = fits.framed.within;
    each = λ u page f is.
        begins_keep_frames units c it logs numbers (is_active t) (is_active (with_active t tid)) s tid u page f.values
        f.pending fits.active tells closed no_records (fits.framed.within u page f is).0
        (fits.framed.each u page f is);
  };
  sessions = record {
    names = (keeps_names slots state s within fits.sessions.names).begins tid;
    peaks = (keep_peaks slots state s within fits.sessions).begins tid;
    locked = locked;
  };
}
  where
    units : ℕ
    units = it.count

    logs : Logs
    logs = logs_of frames

    numbers : SessionNumbers
    numbers = number_of slots

    begun : number_of (after_begin slots s tid) ≡ with_number numbers s (Some tid)
    begun = number_begun slots s tid within

    tells : AreActive (with_number numbers s (Some tid)) (is_active (with_active t tid))
    tells = active_begun numbers t s tid fits.active closed

    -- the numbers in use are below it
    is_new : (a n : ℕ) → numbers a ≡ Some n → n ≡ tid → ⊥
    is_new a n its same =
        let listed = is_listed numbers t fits.active a n its in
        let low = All-contains (λ k. k < t.next) t.active n fits.mirrors.numbers.below listed in
        omega (arith, low, same, later)

    no_records : HasNoRecords units it logs tid
    no_records u page low =
        let new = new_numbers_wait places c it t.next tid fits.mirrors.laid fits.mirrors.numbers.above later in
        All-append (HasOtherNumber tid) (records_of (it.units u).log) (logs u page)
        (all_records (HasOtherNumber tid) (it.units u).log (new.1 u low))
        (all_listed (HasOtherNumber tid) (logs u page) (λ r there.
        let is = All-contains (IsPending numbers page) (logs u page) r (fits.pending.in_memory u page) there in
        is_new is.session r.tid is.open_as))

pub shares_fit : SharesFit
shares_fit places c it t frames slots state s n fits within locked =
    let shared = number_shared slots s n within in record {
      mirrors = fits.mirrors;
      none_lost = fits.none_lost;
      pending = pending_with_numbers it.count it (logs_of frames) (number_of slots)
          (number_of (after_share slots s n)) (rules.after_share state s n) shared
          (shares_keep_pending it.count it (logs_of frames) (number_of slots) state s n fits.pending);
      filled = room_kept it.count c c it it state (rules.after_share state s n) (λ u page now low few shows. shows)
          (λ k. shared_less state s n k) fits.filled;
      active = active_with_numbers (number_of slots) (number_of (after_share slots s n)) (is_active t) shared
          fits.active;
      framed = fits.framed;
      sessions = record {
        names = (keeps_names slots state s within fits.sessions.names).shares n;
        peaks = (keep_peaks slots state s within fits.sessions).shares n;
        locked = locked;
      };
    }

-- ---- a write

module _ (places : ℕ) (c : Chart) (it : Layout) (t : Tables) (frames : Frames) (slots : SessionSlots) (state : State)
    (s u : ℕ)
    (r : Record) (f g : PageFrame) (fits : Fits places c it t frames slots state) (within : s < length slots)
    (mine : number_of slots s ≡ Some r.tid) (low : u < it.count) (valid : IsRecord VERSION r)
    (there : frames u r.page ≡ Some f) (written : IsWrittenFrame r f g) where
  abbrev name : ℕ
  name = name_at u r.page r.slot

  abbrev held : SessionSlots
  held = after_record slots s u r

  abbrev logs : Logs
  logs = with_records (logs_of frames) u r.page (logs_of frames u r.page ++ r ∷ [])

  abbrev after : Frames
  after = with_frame_at frames u r.page (Some g)

  same : (v q : ℕ) → logs v q ≡ logs_of after v q
  same v q =
      let log_is = ap (λ (o : Option PageFrame). log_in o ++ r ∷ []) there ∙ sym written.log in
      ap (λ (l : List Record). with_records (logs_of frames) u r.page l v q) log_is
      ∙ logs_with frames u r.page (Some g) v q

  numbers_stay : number_of held ≡ number_of slots
  numbers_stay = number_written slots s name (size_in_page r.change) within

  pending : HasPending it.count it (logs_of after) (number_of held) (rules.after_write state s (name, r.change))
  pending =
      pending_with_numbers it.count it (logs_of after) (number_of slots) (number_of held)
      (rules.after_write state s (name, r.change)) numbers_stay
      (pending_with_logs it.count it logs (logs_of after) (number_of slots)
      (rules.after_write state s (name, r.change)) same
      (writes_keep_pending it.count it (logs_of frames) (number_of slots) state s u r fits.pending mine low valid))

  here : IsPlaced it.count c it (logs_of after) (is_active t) u r.page g
  here = (
    low,
    valid.page,
    frame_as c it logs (logs_of after) (is_active t) u r.page f.values g.values
        (with_pending f.pending r.slot (r.tid, r.change)) g.pending (same u r.page) written.values written.pending
        (writes_keep_frames c it (logs_of frames) (number_of slots) (is_active t) s u r f.values f.pending
        fits.active mine (fits.framed.each u r.page f there)),
  )

  -- the sessions' peaks are the state's, and so is the room that they leave
  room_by_state : PageHasRoomFor (peaks_in slots) u r f.values → PageHasRoomFor (peaks state) u r f.values
  room_by_state room =
      subst (λ (m : Peaks). PageHasRoomFor m u r f.values) (λ i n. peaks_are slots state fits.sessions.peaks n i) room

  fit : PageHasRoomFor (peaks_in slots) u r f.values → LocksHold held
      → Fits places c it t after held (rules.after_write state s (name, r.change))
  fit room locked = record {
    mirrors = fits.mirrors;
    none_lost = fits.none_lost;
    pending = pending;
    filled = room_written it.count c it state s u r f.values fits.filled low valid.page valid.slot
        (fits.framed.each u r.page f there).shows (room_by_state room);
    active = active_with_numbers (number_of slots) (number_of held) (is_active t) numbers_stay fits.active;
    framed = frames_put it.count c it (is_active t) frames u r.page g here
        (other_frames it.count c it (is_active t) frames u r.page (Some g) fits.framed);
    sessions = record {
      names = (keeps_names slots state s within fits.sessions.names).writes name (size_in_page r.change) r.change;
      peaks = (keep_peaks slots state s within fits.sessions).writes name r.change;
      locked = locked;
    };
  }

pub writes_fit : WritesFit
writes_fit places c it t frames slots state s u r f g fits within mine low valid there written room locked =
    fit places c it t frames slots state s u r f g fits within mine low valid there written room locked

-- ---- pages

pub loads_fit : LoadsFit
loads_fit places c it t frames slots state u page f fits low few absent empty framed = record {
  mirrors = fits.mirrors;
  none_lost = fits.none_lost;
  pending = pending_with_logs it.count it (logs_of frames) (logs_of (with_frame_at frames u page (Some f)))
      (number_of slots) state same fits.pending;
  filled = fits.filled;
  active = fits.active;
  framed = frames_put it.count c it (is_active t) frames u page f here
      (other_frames it.count c it (is_active t) frames u page (Some f) fits.framed);
  sessions = fits.sessions;
}
  where
    same : (v q : ℕ) → logs_of frames v q ≡ logs_of (with_frame_at frames u page (Some f)) v q
    same = logs_unchanged frames u page (Some f) (empty ∙ sym (ap log_in absent))

    here : IsPlaced it.count c it (logs_of (with_frame_at frames u page (Some f))) (is_active t) u page f
    here = (
      low,
      few,
      frame_as c it (logs_of frames) (logs_of (with_frame_at frames u page (Some f))) (is_active t) u page f.values
          f.values f.pending f.pending (same u page) (λ slot less. refl) (λ slot less. refl) framed,
    )

pub evictions_fit : EvictionsFit
evictions_fit places c it t frames slots state u page f fits there empty =
    let same = logs_unchanged frames u page None (sym (ap log_in there ∙ empty)) in record {
      mirrors = fits.mirrors;
      none_lost = fits.none_lost;
      pending = pending_with_logs it.count it (logs_of frames) (logs_of (with_frame_at frames u page None))
          (number_of slots) state same fits.pending;
      filled = fits.filled;
      active = fits.active;
      framed = frames_with it.count c it (is_active t) frames u page None (λ x is. absurd (none-some x is))
          (other_frames it.count c it (is_active t) frames u page None fits.framed);
      sessions = fits.sessions;
    }

-- ---- a chip is opened

log_valid : (places : ℕ) (c : Chart) (it : Layout) → Laid places c it → (u : ℕ) → u < it.count
    → All (IsRecord VERSION) (records_of (it.units u).log)
log_valid places c it laid u low =
    let log = (laid.each u low).log in
    all_records (IsRecord VERSION) (it.units u).log
    (λ k d within. all_stay _ _ (log.each k d within).records.valid)

-- no name has a peak
unpeaked_at_rest : (m : Map) (n : ℕ) → peaks (at_rest m) n ≤ 0
unpeaked_at_rest m n =
    by_number empty n 0 (λ q session is. absurd (let clash = sym (get-empty nat_cmp q) ∙ is in cc clash))

pub openings_fit : OpeningsFit
openings_fit places c it t slots m mirrors none_lost nothing closed sessions = record {
  mirrors = mirrors;
  none_lost = none_lost;
  pending = pending_with_numbers it.count it (λ u page. []) (λ s. None) (number_of slots) (at_rest m) none
      (restarts_leave_none it.count it (at_rest m) (log_valid places c it mirrors.laid));
  filled = λ u page slot low few less peaked. absurd (no_peak (unpeaked_at_rest m (name_at u page slot)) peaked);
  active = active_with_numbers (λ s. None) (number_of slots) (is_active t) none (λ tid. (
    (λ is. absurd (both_ways (is_among tid t.active) (ap (is_among tid) nothing) is)),
    (λ is. absurd (none-some tid is.1)),
  ));
  framed = record {
    within = λ u page f is. absurd (none-some f is);
    each = λ u page f is. absurd (none-some f is);
  };
  sessions = sessions;
}
  where
    no_peak : {k : ℕ} → k ≤ 0 → 0 < k → ⊥
    no_peak none some = omega (arith, none, some)

    none : number_of slots ≡ (λ s. None)
    none = λ i s. closed s i
