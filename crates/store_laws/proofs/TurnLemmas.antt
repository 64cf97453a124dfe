-- What waits while sessions are committed one after the other, and what the commit of one of them keeps of it.
use Rattle.std.proofs.Common.{Bool, None, Some, ap, false, inl, inr, is_some, refl, subst, sym, true, ℕ, ◌<◌, ◌∙◌, ◌≡◌}
use Rattle.std.proofs.lemmas.Bool.{cases_eq}
use Rattle.ipl_model.specs.Operations.{after_commit}
use Rattle.ipl_model.specs.State.{State, last_write}
use Rattle.ipl_model.proofs.RulePeakLemmas.{removed_most}
use Rattle.ipl_meaning.specs.Chart.{Chart}
use Rattle.ipl_meaning.specs.Layout.{Layout}
use Rattle.ipl_meaning.specs.Stands.{Shows, page_in}
use Rattle.ipl_meaning.specs.Steps.{with_committed}
use Rattle.ipl_meaning.specs.Tables.{Tables}
use Rattle.ipl_meaning.specs.Values.{Values}
use Rattle.page_ops.specs.Pending.{Pendings, seen_by, without_pending}
use Rattle.store_laws.specs.Pending.{Logs, SessionNumbers, with_number, wrote, HasPending, IsWrittenOut}
use Rattle.store_laws.specs.PendingLaws.{StateHasOneWriter, AreActive, JoinsIfWritten}
use Rattle.store_laws.specs.Frames.{PageFrame, Frames, logs_of, IsFrameOf, AreFramesOf, IsCommittedFrame, EachFrameChanges}
use Rattle.store_laws.specs.Room.{PagesHaveRoom}
use Rattle.store_laws.specs.Fits.{is_active, without_active}
use Rattle.store_laws.proofs.ActiveLemmas.{active_ended}
use Rattle.store_laws.proofs.PendingCommitLemmas.{commits_keep_pending}
use Rattle.store_laws.proofs.EmptyLemmas.{empty_map, empty_pending, empty_frame}
use Rattle.store_laws.proofs.FrameEndLemmas.{commits_keep_frames}
use Rattle.store_laws.proofs.SameLemmas.{frame_as, IsPlaced, both_logs, frames_all}
use Rattle.store_laws.proofs.RoomLemmas.{room_kept}
use Rattle.store_laws.proofs.SayLemmas.{commit_shows, room_committed}
use Rattle.store_laws.proofs.StateLemmas.{closed_here, closed_other, writes_in}

-- ---- what sessions wrote

-- what a session wrote that is open after a commit it wrote before
pub wrote_before : (state : State) (s t n : ℕ) → wrote (after_commit state s) t n ≡ true → wrote state t n ≡ true
wrote_before state s t n is = elim (cases_eq t s) [
  | inl same ↦
      let none : wrote (after_commit state s) t n ≡ false =
      ap (λ o. is_some (last_write (writes_in o) n)) (closed_here state s t same) in
      absurd (cc)
  | inr apart ↦ sym (ap (λ o. is_some (last_write (writes_in o) n)) (closed_other state s t apart)) ∙ is
]

pub one_writer_then : (state : State) (s : ℕ) → StateHasOneWriter state → StateHasOneWriter (after_commit state s)
one_writer_then state s one a b n by_a by_b =
    one a b n (wrote_before state s a n by_a) (wrote_before state s b n by_b)

-- ---- the commit of one session, whether it wrote something or not

module _ (units : ℕ) (it : Layout) (logs : Logs) (numbers : SessionNumbers) (state : State) (s tid : ℕ) (after : ℕ → Bool)
    (has : HasPending units it logs numbers state) (mine : numbers s ≡ Some tid) (out : IsWrittenOut logs tid) where
  -- the records of the others wait on
  pub turn_pending : StateHasOneWriter state → JoinsIfWritten state s tid it.committed after
      → HasPending units (with_committed it after) logs (with_number numbers s None) (after_commit state s)
  turn_pending one (inl joins) = commits_keep_pending units it logs numbers state s tid after has one mine out joins
  turn_pending one (inr (none, same)) =
      subst (λ (f : ℕ → Bool). HasPending units (with_committed it f) logs (with_number numbers s None)
      (after_commit state s)) (sym same) (empty_pending units it logs numbers state s tid has mine out none)

  -- the pages have room for what the others wrote
  pub turn_room : JoinsIfWritten state s tid it.committed after → (c : Chart) → PagesHaveRoom units c it state
      → PagesHaveRoom units c (with_committed it after) (after_commit state s)
  turn_room (inl joins) c filled =
      room_committed units c it logs numbers state s tid after has filled mine out joins
  turn_room (inr (none, same)) c filled =
      subst (λ (f : ℕ → Bool). PagesHaveRoom units c (with_committed it f) (after_commit state s)) (sym same)
      (room_kept units c c it it state (after_commit state s) (λ u page now low few shows. shows)
      (λ n. removed_most state.sessions s n) filled)

  -- a page that shows the map shows the map after it
  pub turn_shows : JoinsIfWritten state s tid it.committed after → (c : Chart) → PagesHaveRoom units c it state
      → (u page : ℕ) → u < units → page < 15
      → Shows c it.committed u (it.units u) page (page_in state.map u page)
      → Shows c after u (it.units u) page (page_in (after_commit state s).map u page)
  turn_shows (inl joins) c filled u page low few shows =
      commit_shows units c it logs numbers state s tid after has filled mine out joins u page low few shows
  turn_shows (inr (none, same)) c filled u page low few shows =
      subst (λ (f : ℕ → Bool). Shows c f u (it.units u) page (page_in (after_commit state s).map u page)) (sym same)
      (subst (λ m. Shows c it.committed u (it.units u) page (page_in m u page)) (sym (empty_map state s none)) shows)

-- its changes become values of the frame
turn_frame : (places : ℕ) (c : Chart) (it : Layout) (logs : Logs) (numbers : SessionNumbers) (state : State)
    (active rest after : ℕ → Bool) (s tid u page : ℕ) (values : Values) (pending : Pendings)
    → HasPending it.count it logs numbers state → PagesHaveRoom it.count c it state
    → StateHasOneWriter state → AreActive numbers active
    → AreActive (with_number numbers s None) rest → numbers s ≡ Some tid → IsWrittenOut logs tid
    → JoinsIfWritten state s tid it.committed after → u < it.count → page < 15
    → IsFrameOf c it logs active u page values pending
    → IsFrameOf c (with_committed it after) logs rest u page (λ slot. seen_by tid (values slot) (pending slot))
    (λ slot. without_pending tid (pending slot))
turn_frame places c it logs numbers state active rest after s tid u page values pending has filled one tells later mine
    out (inl joins) low few framed =
    commits_keep_frames places c c it logs numbers state active rest after s tid u page values pending has filled one
    tells later mine out joins (record { shown = λ u page now low few shows. shows; no_more = λ u page base low few reads. (base, reads) }) low few framed
turn_frame places c it logs numbers state active rest after s tid u page values pending has filled one tells later mine
    out (inr (none, same)) low few framed =
    subst (λ (f : ℕ → Bool). IsFrameOf c (with_committed it f) logs rest u page
    (λ slot. seen_by tid (values slot) (pending slot)) (λ slot. without_pending tid (pending slot))) (sym same)
    (empty_frame it.count it logs numbers state s tid has mine out none c active rest u page values pending one
    tells later low few framed)

-- ---- all that waits

-- The records and the frames of open sessions, for which the pages have room, with tables that have these sessions'
-- numbers. Nothing is said of the chart's commit sectors, so that the committed numbers may be any.
pub record Waits (places : ℕ) (c : Chart) (it : Layout) (frames : Frames) (numbers : SessionNumbers) (state : State)
    : Type 0 where
  pub tables : Tables
  pub pending : HasPending it.count it (logs_of frames) numbers state
  pub filled : PagesHaveRoom it.count c it state
  pub one_writer : StateHasOneWriter state
  pub tells : AreActive numbers (is_active tables)
  pub framed : AreFramesOf it.count c it (is_active tables) frames

-- records in memory stay at a commit
pub logs_stay : (tid : ℕ) (frames after : Frames) → EachFrameChanges (IsCommittedFrame tid) frames after
    → logs_of frames ≡ logs_of after
logs_stay tid frames after all = λ i u page.
    both_logs (IsCommittedFrame tid) (λ l. l) refl (λ a b changed. changed.log) (frames u page) (after u page)
    (all u page) i

-- a session's commit leaves the others waiting
pub turn_waits : (places : ℕ) (c : Chart) (it : Layout) (frames after : Frames) (numbers : SessionNumbers) (state : State)
    (s tid : ℕ) (committed : ℕ → Bool) → Waits places c it frames numbers state → numbers s ≡ Some tid
    → IsWrittenOut (logs_of frames) tid → JoinsIfWritten state s tid it.committed committed
    → EachFrameChanges (IsCommittedFrame tid) frames after
    → Waits places c (with_committed it committed) after (with_number numbers s None) (after_commit state s)
turn_waits places c it frames after numbers state s tid committed waits mine out joins all = record {
  tables = without_active waits.tables tid;
  pending = subst (λ (l : Logs). HasPending it.count new l rest (after_commit state s)) same
      (turn_pending it.count it (logs_of frames) numbers state s tid committed waits.pending mine out
      waits.one_writer joins);
  filled = turn_room it.count it (logs_of frames) numbers state s tid committed waits.pending mine out joins c
      waits.filled;
  one_writer = one_writer_then state s waits.one_writer;
  tells = tells;
  framed = frames_all it.count c c it new active later frames after (IsCommittedFrame tid) waits.framed all framed;
}
  where
    new : Layout
    new = with_committed it committed

    rest : SessionNumbers
    rest = with_number numbers s None

    active : ℕ → Bool
    active = is_active waits.tables

    later : ℕ → Bool
    later = is_active (without_active waits.tables tid)

    tells : AreActive rest later
    tells = active_ended numbers waits.tables s tid waits.tells mine waits.pending.apart

    same : logs_of frames ≡ logs_of after
    same = logs_stay tid frames after all

    framed : (u page : ℕ) (a b : PageFrame) → IsPlaced it.count c it (logs_of frames) active u page a
        → IsCommittedFrame tid a b → IsFrameOf c new (logs_of after) later u page b.values b.pending
    framed u page a b (low, few, was) changed =
        frame_as c new (logs_of frames) (logs_of after) later u page
        (λ slot. seen_by tid (a.values slot) (a.pending slot)) b.values
        (λ slot. without_pending tid (a.pending slot)) b.pending (λ i. same i u page) changed.values changed.pending
        (turn_frame places c it (logs_of frames) numbers state active later committed s tid u page a.values a.pending
        waits.pending waits.filled waits.one_writer waits.tells tells mine out joins low few was)
