-- Frames of memory as the frames of pending writes.
use Rattle.std.proofs.Common.{◌≡◌, ℕ, inl, inr, Some, true, refl, ap}
use Rattle.ipl_base.specs.Places.{home_of}
use Rattle.ipl_format.specs.Page.{Slots, value_in}
use Rattle.ipl_model.specs.State.{Map, State}
use Rattle.ipl_meaning.specs.Chart.{Chart}
use Rattle.ipl_meaning.specs.Layout.{Layout}
use Rattle.ipl_meaning.specs.Legible.{Legibility, of, IsToldApart}
use Rattle.ipl_meaning.specs.Stands.{Says}
use Rattle.record_locks.specs.Held.{number_of}
use Rattle.page_ops.specs.Frames.{FrameView, values_in}
use Rattle.store_laws.specs.Frames.{PageFrame, logs_of}
use Rattle.store_laws.specs.Advances.{Memory, FitsOn}
use Rattle.store_laws.specs.Fits.{is_active}
use Rattle.store_laws.proofs.FitLemmas.{sessions_are_sound}
use Rattle.store_laws.proofs.FrameLemmas.{frames_tell}
use Rattle.store_laws.proofs.FullLemmas.{peaks_tell_full_pages}
use Rattle.store_laws.specs.Laws.{FramesTellState, FramesTellFull}
use Rattle.store_laws.specs.Views.{AppliedFramesAreCommitted, DroppedFramesAreAborted, ChangedFramesAreWritten}

pub applied_frames_are_committed : AppliedFramesAreCommitted
applied_frames_are_committed tid a b log is =
    record { values = is.values; pending = is.pending; log = refl }

-- a page that stays has the same values
same_values : (a b : FrameView) → b.page ≡ a.page → (slot : ℕ) → values_in b slot ≡ values_in a slot
same_values a b same slot = ap (λ (page : Slots). value_in page slot) same

pub dropped_frames_are_aborted : DroppedFramesAreAborted
dropped_frames_are_aborted tid a b log is = record {
  values = λ slot less. same_values a b is.page slot;
  pending = is.pending;
  log = refl;
}

pub changed_frames_are_written : ChangedFramesAreWritten
changed_frames_are_written r a b log page pending = record {
  values = λ slot less. same_values a b page slot;
  pending = λ slot less. pending slot;
  log = refl;
}

-- ---- what a frame tells

-- what is in a frame after it reads well, so it did before, and is one of the pages of whose names it was said
pub shown_is_said : (places : ℕ) (pages : Legibility) (c y : Chart) (it : Layout) (m : Map) (memory : Memory) (state : State)
    (u page : ℕ) (f : PageFrame) → IsToldApart pages → Says places c it (of pages m) → FitsOn places c it m y memory state
    → memory.frames u page ≡ Some f → pages.reads u page ≡ true
shown_is_said places pages c y it m memory state u page f apart says on there =
    let (low, few) = on.fits.framed.within u page f there in
    let shows = (on.fits.framed.each u page f there).shows in
    let was = rw on.shows.count at low in
    let before = on.shows.no_more u page shows.base was few shows.reads in
    elim (apart u page) [
      | inl reads ↦ reads
      | inr rotten ↦ absurd (says.rotten u page before.0 was few rotten before.1)
    ]

pub frames_tell_state : FramesTellState
frames_tell_state places c y it m memory state u page slot f on shows there less =
    let fits = on.fits in
    let (low, few) = fits.framed.within u page f there in
    frames_tell on.layout.count y on.layout (logs_of memory.frames) (number_of memory.slots) state
    (is_active memory.tables) u page slot f.values f.pending fits.pending
    (sessions_are_sound memory.slots state fits.sessions).0 fits.active
    (on.shows.pages u page (rw on.shows.count at low) few shows) low few less (fits.framed.each u page f there)

pub frames_tell_full : FramesTellFull
frames_tell_full places c y it m memory state n bytes f on shows there =
    peaks_tell_full_pages memory.slots state n bytes f.values on.fits.sessions (λ slot less.
    (frames_tell_state places c y it m memory state (home_of n).unit (home_of n).page slot f on shows
    there less).committed)
