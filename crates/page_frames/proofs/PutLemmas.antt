-- What is written through loans of one page's frame and records.
use Rattle.std.proofs.Common.{◌≡◌, ◌≤◌, ◌+◌, ◌++◌, ◌∷◌, [], ℕ, List, Bool, false, IsTrue, ◌↔◌, Option, Some, None, IsSome, arith, refl, sym, ◌∙◌, ap, subst}
use Rattle.std.specs.Bool.{OnTrue}
use Rattle.std.specs.Option.{option_map, option_map_or}
use Rattle.std.proofs.lemmas.Bool.{false≢true}
use Rattle.mem_log_sector.proofs.MemLemmas.{done_as_it_fits}
use Rattle.buffer_pool.proofs.IndexLemmas.{some_is, no_some}
use Rattle.slab.specs.Slab.{get}
use Rattle.ipl_base.specs.declared.limits.TheConstants.{PAGE_LEN}
use Rattle.ipl_format.specs.Record.{Record}
use Rattle.ipl_meaning.specs.Last.{size_of, size_of_all}
use Rattle.page_ops.specs.Frames.{FrameView, values_in, pending_in, AppliesTid, IsDropped}
use Rattle.page_ops.specs.Pending.{fill_by, with_pending}
use Rattle.mem_log_sector.specs.MemLogs.{without_tid}
use Rattle.buffer_pool.specs.declared.pool.Buffer.{Buffer}
use Rattle.buffer_pool.specs.Pools.{PoolView, HasPage, IsAbsent, AreOnce, with_buffers}
use Rattle.buffer_pool.specs.Lending.{changed_at, with_frame, with_log}
use Rattle.buffer_pool.specs.Laws.{buffer_of}
use Rattle.buffer_pool.specs.Holding.{KeepsPins}
use Rattle.buffer_pool.specs.Uses.{used_of}
use Rattle.buffer_pool.proofs.LentLemmas.{changed_is}
use Rattle.buffer_pool.proofs.BufferLemmas.{changes_stay_once, buffer_absent}
use Rattle.buffer_pool.proofs.HoldingLemmas.{both_keep, loans_keep}
use Rattle.buffer_pool.proofs.UseLemmas.{loans_keep_uses}
use Rattle.store_laws.specs.Frames.{PageFrame, Frames, logs_of, with_frame_at, IsWrittenFrame, IsCommittedFrame, IsAbortedFrame}
use Rattle.store_laws.specs.Views.{frame_of}
use Rattle.store_laws.proofs.ViewLemmas.{applied_frames_are_committed, dropped_frames_are_aborted, changed_frames_are_written}
use Rattle.page_frames.specs.Views.{frame_in, frames_of}
use Rattle.page_frames.specs.Changes.{noted, FrameChanges, IsClearedFrame, KeepsPool, MayPut, PutHasRoom}
use Rattle.page_frames.proofs.FrameViewLemmas.{frame_found, loans_change_a_frame, put_again}

-- a page that is in no frame has none
pub no_frame : (p : PoolView) (u page : ℕ) → AreOnce p.buffers → IsAbsent p.buffers u page
    → frames_of p u page ≡ None
no_frame p u page once absent =
    ap (option_map frame_in) (buffer_absent p.buffers u page once absent)

pub not_absent : (p : PoolView) (u page : ℕ) (f : PageFrame) → AreOnce p.buffers
    → frames_of p u page ≡ Some f → IsAbsent p.buffers u page → ⊥
not_absent p u page f once there absent =
    some_none f (sym there ∙ no_frame p u page once absent)
  where
    some_none : (x : PageFrame) → Some x ≡ None → ⊥
    some_none x same = absurd (cc same)

pub none_there : (p : PoolView) (u page : ℕ) → AreOnce p.buffers → IsSome (frames_of p u page)
    → IsAbsent p.buffers u page → ⊥
none_there p u page once there absent =
    absurd (false≢true (subst IsSome (no_frame p u page once absent) there))

-- ---- what the records of a page tell

record HasLog (p : PoolView) (u page : ℕ) (log : List Record) : Type 0 where
  pub buffer : Buffer
  pub frame : frames_of p u page ≡ Some (frame_in buffer)
  pub log_is : buffer.log ≡ log

has_log : (p : PoolView) (u page : ℕ) (log : List Record)
    → Some log ≡ option_map (λ b. b.log) (buffer_of p.buffers u page) → HasLog p u page log
has_log p u page log is = go (buffer_of p.buffers u page) refl
  where
    go : (o : Option Buffer) → buffer_of p.buffers u page ≡ o → HasLog p u page log
    go None none =
        absurd (no_some log (sym (is ∙ ap (option_map (λ (b : Buffer). b.log)) none)))
    go (Some b) there = record {
      buffer = b;
      frame = ap (option_map frame_in) there;
      log_is = sym (some_is log b.log (is ∙ ap (option_map (λ (x : Buffer). x.log)) there));
    }

-- a page without records is in no frame
no_log : (p : PoolView) (u page : ℕ)
    → None ≡ option_map (λ b. b.log) (buffer_of p.buffers u page) → frames_of p u page ≡ None
no_log p u page is = go (buffer_of p.buffers u page) refl
  where
    go : (o : Option Buffer) → buffer_of p.buffers u page ≡ o → frames_of p u page ≡ None
    go None none = ap (option_map frame_in) none
    go (Some b) there =
        absurd (no_some b.log (is ∙ ap (option_map (λ (x : Buffer). x.log)) there))

pub room_if : (p : PoolView) (u : ℕ) (r : Record) (log : List Record) (fits : Bool)
    → Some log ≡ option_map (λ b. b.log) (buffer_of p.buffers u r.page)
    → (IsTrue fits ↔ (size_of_all log + size_of r ≤ 480))
    → IsTrue fits ↔ MayPut (frames_of p) u r
room_if p u r log fits is when =
    let has = has_log p u r.page log is in (
      λ yes. record {
        frame = frame_in has.buffer;
        there = has.frame;
        fits = subst (λ (l : List Record). size_of_all l + size_of r ≤ 480) (sym has.log_is) (when.0 yes);
      },
      λ may.
          let own : may.frame ≡ frame_in has.buffer =
          some_is may.frame (frame_in has.buffer) (sym may.there ∙ has.frame) in
          when.1 (subst (λ (l : List Record). size_of_all l + size_of r ≤ 480)
          (ap (λ (f : PageFrame). f.log) own ∙ has.log_is) may.fits),
    )

pub no_room : (p : PoolView) (u : ℕ) (r : Record)
    → None ≡ option_map (λ b. b.log) (buffer_of p.buffers u r.page)
    → IsTrue false ↔ MayPut (frames_of p) u r
no_room p u r is = (
  λ yes. absurd (false≢true yes),
  λ may. absurd (no_some may.frame (sym (no_log p u r.page is) ∙ may.there)),
)

-- the records in memory are those of the page's log
pub log_of_page : (p : PoolView) (u page : ℕ) (log : List Record)
    → Some log ≡ option_map (λ b. b.log) (buffer_of p.buffers u page)
    → log ≡ logs_of (frames_of p) u page
log_of_page p u page log is =
    let has = has_log p u page log is in
    sym has.log_is ∙ sym (ap (λ (o : Option PageFrame). option_map_or (λ f. f.log) o []) has.frame)

pub no_log_of_page : (p : PoolView) (u page : ℕ)
    → None ≡ option_map (λ b. b.log) (buffer_of p.buffers u page)
    → logs_of (frames_of p) u page ≡ []
no_log_of_page p u page is =
    ap (λ (o : Option PageFrame). option_map_or (λ f. f.log) o []) (no_log p u page is)

-- ---- one frame

-- the pool with another frame under the key, and with other records
abbrev pub with_frame_under : PoolView → ℕ → FrameView → PoolView
with_frame_under p key f = with_buffers p (changed_at p.buffers key (with_frame f))

abbrev pub with_log_under : PoolView → ℕ → List Record → PoolView
with_log_under p key log = with_buffers p (changed_at p.buffers key (with_log log))

module _ (p : PoolView) (u page key : ℕ) (once : AreOnce p.buffers)
    (has : HasPage p.buffers u page key) where
  some_there : IsSome (get p.buffers key)
  some_there = subst IsSome (sym has.stored) refl

  -- what is under the key once the frame is written
  pub stored_then : (f : FrameView)
      → get (with_frame_under p key f).buffers key ≡ Some (with_frame f has.buffer)
  stored_then f = (changed_is p.buffers key (with_frame f) has.buffer has.stored).changed

  pub some_then : (f : FrameView) → IsSome (get (with_frame_under p key f).buffers key)
  some_then f = subst IsSome (sym (stored_then f)) refl

  once_then : (f : FrameView) → AreOnce (with_frame_under p key f).buffers
  once_then f =
      changes_stay_once p.buffers (with_frame_under p key f).buffers key has.buffer
      (with_frame f has.buffer) once has.stored (refl, refl)
      (changed_is p.buffers key (with_frame f) has.buffer has.stored)

  -- the frame is written
  pub frame_changes : (R : PageFrame → PageFrame → Type 0) (f : FrameView)
      → R (frame_in has.buffer) (frame_of f has.buffer.log)
      → FrameChanges R (frames_of p) (frames_of (with_frame_under p key f)) u page
  frame_changes R f did = record {
    was = frame_in has.buffer;
    now = frame_of f has.buffer.log;
    there = frame_found p u page key once has;
    changes = did;
    frames = loans_change_a_frame p u page key (with_frame f) once has (refl, refl);
  }

  -- whether the page's frame has room for a record's change
  pub room_told : (r : Record) (before : FrameView) (told : Bool) (f : PageFrame) → before ≡ has.buffer.frame
      → (IsTrue told ↔ (fill_by (values_in before) (noted (pending_in before) r) ≤ PAGE_LEN))
      → frames_of p u page ≡ Some f → IsTrue told ↔ PutHasRoom f r
  room_told r before told f framed when there =
      let own : f ≡ frame_in has.buffer = some_is f (frame_in has.buffer)
      (sym there ∙ frame_found p u page key once has) in
      subst (λ (g : PageFrame). IsTrue told ↔ PutHasRoom g r) (sym own)
      (subst (λ (x : FrameView). IsTrue told ↔ (fill_by (values_in x) (noted (pending_in x) r) ≤ PAGE_LEN)) framed when)

  pub frame_pins : (f : FrameView) → KeepsPins p (with_frame_under p key f)
  frame_pins f = loans_keep p key (with_frame f) some_there (λ b. ((refl, refl), refl))

  pub frame_uses : (f : FrameView) → used_of (with_frame_under p key f) ≡ used_of p
  frame_uses f =
      loans_keep_uses p key (with_frame f) once some_there
      (λ b. record { page = (refl, refl); used = refl })

  pub frame_keeps : (f : FrameView) → KeepsPool p (with_frame_under p key f)
  frame_keeps f = record { pins = frame_pins f; uses = frame_uses f; order = refl }

  -- the records are
  pub log_changes : (R : PageFrame → PageFrame → Type 0) (log : List Record)
      → R (frame_in has.buffer) (frame_of has.buffer.frame log)
      → FrameChanges R (frames_of p) (frames_of (with_log_under p key log)) u page
  log_changes R log did = record {
    was = frame_in has.buffer;
    now = frame_of has.buffer.frame log;
    there = frame_found p u page key once has;
    changes = did;
    frames = loans_change_a_frame p u page key (with_log log) once has (refl, refl);
  }

  log_pins : (log : List Record) → KeepsPins p (with_log_under p key log)
  log_pins log = loans_keep p key (with_log log) some_there (λ b. ((refl, refl), refl))

  log_uses : (log : List Record) → used_of (with_log_under p key log) ≡ used_of p
  log_uses log =
      loans_keep_uses p key (with_log log) once some_there
      (λ b. record { page = (refl, refl); used = refl })

  pub log_keeps : (log : List Record) → KeepsPool p (with_log_under p key log)
  log_keeps log = record { pins = log_pins log; uses = log_uses log; order = refl }

  -- both are
  pub both_change : (R : PageFrame → PageFrame → Type 0) (f : FrameView) (log : List Record)
      → R (frame_in has.buffer) (frame_of f log)
      → FrameChanges R (frames_of p) (frames_of (with_log_under (with_frame_under p key f) key log))
      u page
  both_change R f log did =
      let mid = with_frame_under p key f in
      let has_then : HasPage mid.buffers u page key = record {
        buffer = with_frame f has.buffer;
        stored = stored_then f;
        unit_is = has.unit_is;
        page_is = has.page_is;
      } in record {
        was = frame_in has.buffer;
        now = frame_of f log;
        there = frame_found p u page key once has;
        changes = did;
        frames = loans_change_a_frame mid u page key (with_log log) (once_then f) has_then (refl, refl)
            ∙ ap (λ (frames : Frames). with_frame_at frames u page (Some (frame_of f log)))
            (loans_change_a_frame p u page key (with_frame f) once has (refl, refl))
            ∙ put_again (frames_of p) u page (Some (frame_of f has.buffer.log))
            (Some (frame_of f log));
      }

  both_pins : (f : FrameView) (log : List Record)
      → KeepsPins p (with_log_under (with_frame_under p key f) key log)
  both_pins f log =
      let mid = with_frame_under p key f in
      both_keep p mid (with_log_under mid key log) (frame_pins f)
      (loans_keep mid key (with_log log) (some_then f) (λ b. ((refl, refl), refl)))

  both_uses : (f : FrameView) (log : List Record)
      → used_of (with_log_under (with_frame_under p key f) key log) ≡ used_of p
  both_uses f log =
      loans_keep_uses (with_frame_under p key f) key (with_log log) (once_then f) (some_then f)
      (λ b. record { page = (refl, refl); used = refl })
      ∙ frame_uses f

  pub both_stay : (f : FrameView) (log : List Record)
      → KeepsPool p (with_log_under (with_frame_under p key f) key log)
  both_stay f log = record { pins = both_pins f log; uses = both_uses f log; order = refl }

  -- ---- what was written

  -- a record came to the frame and to the records
  pub written : (r : Record) (f before : FrameView) (log new : List Record) (pushed : Bool) (g : PageFrame)
      → before ≡ has.buffer.frame → f.page ≡ before.page
      → ((k : ℕ) → pending_in f k ≡ with_pending (pending_in before) r.slot (r.tid, r.change) k)
      → frames_of p u page ≡ Some g → size_of_all g.log + size_of r ≤ 480
      → log ≡ has.buffer.log → (IsTrue pushed ↔ (size_of_all log + size_of r ≤ 480))
      → OnTrue pushed (new ≡ log ++ r ∷ [])
      → IsWrittenFrame r (frame_in has.buffer) (frame_of f new)
  written r f before log new pushed g framed same pending there fits logged when is =
      let b = has.buffer in
      let own : g ≡ frame_in b = some_is g (frame_in b)
      (sym there ∙ frame_found p u page key once has) in
      let size = ap size_of_all (ap (λ (x : PageFrame). x.log) own ∙ sym logged) in
      let added : new ≡ log ++ r ∷ [] = done_as_it_fits pushed (size_of_all log + size_of r ≤ 480)
      (new ≡ log ++ r ∷ []) when (omega (arith, fits, size)) is in
      let wrote : IsWrittenFrame r (frame_of b.frame b.log) (frame_of f (b.log ++ r ∷ [])) =
      changed_frames_are_written r b.frame f b.log (same ∙ ap (λ (x : FrameView). x.page) framed)
      (λ k. pending k ∙ ap (λ (x : FrameView). with_pending (pending_in x) r.slot (r.tid, r.change) k)
      framed) in
      subst (λ (l : List Record). IsWrittenFrame r (frame_in b) (frame_of f l))
      (sym (added ∙ ap (λ (l : List Record). l ++ r ∷ []) logged)) wrote

  pub cleared : (log : List Record) → log ≡ []
      → IsClearedFrame (frame_in has.buffer) (frame_of has.buffer.frame log)
  cleared log none = ap (frame_of has.buffer.frame) none

  pub applied : (tid : ℕ) (f before : FrameView) → before ≡ has.buffer.frame
      → AppliesTid tid before f
      → IsCommittedFrame tid (frame_in has.buffer) (frame_of f has.buffer.log)
  applied tid f before framed is =
      applied_frames_are_committed tid has.buffer.frame f has.buffer.log
      (subst (λ (x : FrameView). AppliesTid tid x f) framed is)

  pub dropped : (tid : ℕ) (f before : FrameView) (log new : List Record)
      → before ≡ has.buffer.frame → IsDropped tid before f → log ≡ has.buffer.log
      → new ≡ without_tid tid log → IsAbortedFrame tid (frame_in has.buffer) (frame_of f new)
  dropped tid f before log new framed is logged without =
      let b = has.buffer in
      let did : IsAbortedFrame tid (frame_of b.frame b.log) (frame_of f (without_tid tid b.log)) =
      dropped_frames_are_aborted tid b.frame f b.log
      (subst (λ (x : FrameView). IsDropped tid x f) framed is) in
      subst (λ (l : List Record). IsAbortedFrame tid (frame_in b) (frame_of f l))
      (sym (without ∙ ap (without_tid tid) logged)) did
