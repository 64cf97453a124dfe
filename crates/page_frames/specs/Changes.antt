-- What calls make of the frames of a pool.
use Rattle.std.specs.Prelude.{ℕ, ◌≡◌, ◌≤◌, ◌+◌, [], Some}
use Rattle.ipl_base.specs.Places.{home_of}
use Rattle.ipl_base.specs.declared.limits.TheConstants.{PAGE_LEN}
use Rattle.ipl_format.specs.Record.{Record}
use Rattle.ipl_meaning.specs.Last.{size_of, size_of_all}
use Rattle.buffer_pool.specs.Pools.{PoolView}
use Rattle.buffer_pool.specs.Holding.{KeepsPins}
use Rattle.buffer_pool.specs.Uses.{used_of}
use Rattle.page_ops.specs.Pending.{Pendings, fill_by, with_pending}
use Rattle.store_laws.specs.Frames.{PageFrame, Frames, with_frame_at, with_frame_log}
use Rattle.store_laws.specs.NamedFrames.{ChangesPageOf}
use Rattle.page_frames.specs.Views.{frames_of}

-- the page of the record is in a frame of this unit, and its records have room for one more
pub record MayPut (frames : Frames) (unit : ℕ) (r : Record) : Type 0 where
  pub frame : PageFrame
  pub there : frames unit r.page ≡ Some frame
  pub fits : size_of_all frame.log + size_of r ≤ 480

-- what is pending once the record's change is noted
abbrev pub noted : Pendings → Record → Pendings
noted pending r = with_pending pending r.slot (r.tid, r.change)

-- the page has room for all that may become values then
abbrev pub PutHasRoom : PageFrame → Record → Type 0
PutHasRoom f r = fill_by f.values (noted f.pending r) ≤ PAGE_LEN

-- the page's frame changes so, and no other
pub record FrameChanges (R : PageFrame → PageFrame → Type 0) (old new : Frames) (unit page : ℕ)
    : Type 0 where
  pub was : PageFrame
  pub now : PageFrame
  pub there : old unit page ≡ Some was
  pub changes : R was now
  pub frames : new ≡ with_frame_at old unit page (Some now)

-- the records of the page are dropped
abbrev pub IsClearedFrame : PageFrame → PageFrame → Type 0
IsClearedFrame a b = b ≡ with_frame_log a []

-- the same pages are in frames and the same ones are held, and each was used when it was
pub record KeepsPool (old new : PoolView) : Type 0 where
  pub pins : KeepsPins old new
  pub uses : used_of new ≡ used_of old
  pub order : new.order ≡ old.order

-- ---- the pages of names

-- this is the page of the name
abbrev pub IsHome : ℕ → ℕ → ℕ → Type 0
IsHome n u page = (u ≡ (home_of n).unit) × (page ≡ (home_of n).page)

-- the frame of the name's page changes so, if it has one, and no other
pub record OnlyPageChanges (R : PageFrame → PageFrame → Type 0) (old new : Frames) (n : ℕ) : Type 0 where
  pub here : ChangesPageOf R old new n
  pub others : (u page : ℕ) → (IsHome n u page → ⊥) → new u page ≡ old u page

-- and the pool is kept beside that
pub record ChangesHome (R : PageFrame → PageFrame → Type 0) (old new : PoolView) (n : ℕ) : Type 0 where
  pub changes : OnlyPageChanges R (frames_of old) (frames_of new) n
  pub pool : KeepsPool old new
