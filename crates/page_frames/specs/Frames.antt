-- Pages that may leave their frames, and frames that are freed, taken and passed on.
use Rattle.std.specs.Prelude.{ℕ, ◌≡◌, ◌<◌, Option, Some, None, []}
use Rattle.ipl_base.specs.declared.limits.TheConstants.{PAGES}
use Rattle.slab.specs.Slab.{get, slab_len}
use Rattle.page_ops.specs.Frames.{empty_frame}
use Rattle.buffer_pool.specs.declared.pool.Buffer.{Buffer}
use Rattle.buffer_pool.specs.Pools.{PoolView}
use Rattle.buffer_pool.specs.Holding.{KeepsPins}
use Rattle.buffer_pool.specs.Uses.{used_of, CountsNoOther, CountsNoUse, IsUsedFirst, IsUsedLast}
use Rattle.store_laws.specs.Frames.{logs_of, with_frame_at}
use Rattle.store_laws.specs.Views.{frame_of}
use Rattle.page_frames.specs.Views.{frames_of}

-- the page is in a frame, and no hold keeps it there
pub record IsUnheld (p : PoolView) (u page : ℕ) : Type 0 where
  pub key : ℕ
  pub buffer : Buffer
  pub stored : get p.buffers key ≡ Some buffer
  pub unit_is : buffer.unit ≡ u
  pub page_is : buffer.page ≡ page
  pub unpinned : buffer.pins ≡ 0

-- the page left its frame, which is free now; that is no use of a page, and the same pages are held
pub record FreesFrame (old new : PoolView) (u page : ℕ) : Type 0 where
  pub frames : frames_of new ≡ with_frame_at (frames_of old) u page None
  pub free : slab_len new.buffers < new.limit
  pub uses : CountsNoUse old new
  pub pins : KeepsPins old new

-- The page was in no frame and came into one that is empty. Nothing holds it there, it is the page used
-- last, and no use of another is counted. The same pages are held.
pub record TakesFrame (old new : PoolView) (u page : ℕ) : Type 0 where
  pub frames : frames_of new ≡ with_frame_at (frames_of old) u page (Some (frame_of empty_frame []))
  pub unheld : IsUnheld new u page
  pub others : CountsNoOther u page old new
  pub last : IsUsedLast new u page
  pub pins : KeepsPins old new

-- ---- what stays

-- the page is in its frame with no hold still, the same pages are held, and each was used when it was
pub record KeepsUnheld (u page : ℕ) (old new : PoolView) : Type 0 where
  pub unheld : IsUnheld new u page
  pub pins : KeepsPins old new
  pub uses : used_of new ≡ used_of old

-- the same pages are in frames, and each was used when it was
pub record KeepsOrder (old new : PoolView) : Type 0 where
  pub order : new.order ≡ old.order
  pub uses : used_of new ≡ used_of old

-- ---- a frame for a page

-- the unit and page of the one that gives its frame, or none where a frame is free
abbrev pub Victim : Type 0
Victim = Option (ℕ × ℕ)

-- a frame is free; or none is, and of the pages that aren't held the page was used longest ago
abbrev pub IsVictimFor : PoolView → Victim → Type 0
IsVictimFor p None = slab_len p.buffers < p.limit
IsVictimFor p (Some v) = (slab_len p.buffers ≡ p.limit) × (v.1 < PAGES) × IsUnheld p v.0 v.1
    × IsUsedFirst p v.0 v.1

-- a frame is free; or the page isn't held and has no records in memory
abbrev pub MayGive : PoolView → Victim → Type 0
MayGive p None = slab_len p.buffers < p.limit
MayGive p (Some v) = (v.1 < PAGES) × IsUnheld p v.0 v.1 × (logs_of (frames_of p) v.0 v.1 ≡ [])

-- the page that gives its frame has left it, where there is one
abbrev pub Gives : Victim → PoolView → PoolView → Type 0
Gives None old new = new ≡ old
Gives (Some v) old new = FreesFrame old new v.0 v.1

-- the page has a frame, that which was free or that of the page which has left it
pub record GivesTo (victim : Victim) (old new : PoolView) (u page : ℕ) : Type 0 where
  pub between : PoolView
  pub gives : Gives victim old between
  pub takes : TakesFrame between new u page
