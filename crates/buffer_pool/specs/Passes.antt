-- A frame that goes from one page to another.
use Rattle.std.specs.Prelude.{ℕ, ◌≡◌, ◌+◌, Some, None}
use Rattle.slab.specs.Slab.{slab_len, get, Updates}
use Rattle.buffer_pool.specs.declared.pool.Pin.{Pin}
use Rattle.buffer_pool.specs.Pools.{PoolView, HasPage, CountsUse, IsSoundPool, new_buffer}
use Rattle.buffer_pool.specs.Uses.{IsUsedLast}

-- the page left its frame, as `evict` says
pub record LeavesFrame (old new : PoolView) (unit page : ℕ) : Type 0 where
  pub key : ℕ
  pub has : HasPage old.buffers unit page key
  pub buffers : Updates old.buffers new.buffers key None
  pub len : slab_len new.buffers + 1 ≡ slab_len old.buffers
  pub limit : new.limit ≡ old.limit
  pub clock : new.clock ≡ old.clock

-- the page came into a frame that was free, and is pinned, as `bring` says
pub record ComesIn (old new : PoolView) (unit page : ℕ) (pin : Pin) : Type 0 where
  pub of : (pin.unit ≡ unit) × (pin.page ≡ page)
  pub key : get old.buffers pin.key ≡ None
  pub buffers : Updates old.buffers new.buffers pin.key (Some (new_buffer unit page old.clock))
  pub len : slab_len new.buffers ≡ slab_len old.buffers + 1
  pub counts : CountsUse old new
  pub last : IsUsedLast new unit page

-- the first page left its frame, and the other came into it then
pub record Passes (old new : PoolView) (unit page to_unit to_page : ℕ) (pin : Pin) : Type 0 where
  pub between : PoolView
  pub sound : IsSoundPool between
  pub leaves : LeavesFrame old between unit page
  pub comes : ComesIn between new to_unit to_page pin
