-- Whether a frame is free, or which page may leave its frame.
use Rattle.std.specs.Prelude.{ℕ, ◌≡◌, ◌<◌, ◌≤◌, ◌==◌, nat_le, Option, Some, None, if◌then◌else◌}
use Rattle.slab.specs.Slab.{Slab, slab_len, get}
use Rattle.buffer_pool.specs.declared.pool.Buffer.{Buffer}
use Rattle.buffer_pool.specs.declared.room.Room.{Room}
use Rattle.buffer_pool.specs.declared.room.Room.TheVariants.{Free, Victim, AllPinned}
use Rattle.buffer_pool.specs.declared.room.Oldest.{Oldest}
use Rattle.buffer_pool.specs.Pools.{PoolView}

-- of the buffers without a pin none was used longer ago
pub record IsOldest (buffers : Slab Buffer) (o : Oldest) : Type 0 where
  pub key : ℕ
  pub buffer : Buffer
  pub stored : get buffers key ≡ Some buffer
  pub unpinned : buffer.pins ≡ 0
  pub unit_is : buffer.unit ≡ o.unit
  pub page_is : buffer.page ≡ o.page
  pub used_is : buffer.used ≡ o.used
  pub oldest : (k : ℕ) (b : Buffer) → get buffers k ≡ Some b → b.pins ≡ 0 → o.used ≤ b.used

-- each buffer has a pin
abbrev pub AreAllPinned : Slab Buffer → Type 0
AreAllPinned buffers = (key : ℕ) (buffer : Buffer) → get buffers key ≡ Some buffer → 0 < buffer.pins

-- a page that was used at this time, as the last one
abbrev pub used_at : ℕ → ℕ → ℕ → Oldest
used_at unit page used = record { unit = unit; page = page; used = used }

-- a frame is free; or none is, and the page is the one without a pin that was used longest ago; or all
-- are pinned
abbrev pub IsRoom : PoolView → Room → Type 0
IsRoom p Free = slab_len p.buffers < p.limit
IsRoom p (Victim unit page) =
    (slab_len p.buffers ≡ p.limit) × (used : ℕ) × IsOldest p.buffers (used_at unit page used)
IsRoom p AllPinned = (slab_len p.buffers ≡ p.limit) × AreAllPinned p.buffers

-- the older one of a page and a buffer's
abbrev pub older : Option Oldest → Buffer → Option Oldest
older None b = if b.pins == 0 then Some (used_at b.unit b.page b.used) else None
older (Some o) b =
    if b.pins == 0 then (if nat_le o.used b.used then Some o else Some (used_at b.unit b.page b.used))
    else Some o
