-- Pages that stay in their frames between calls: a pin that outlives its call is a hold.
use Rattle.std.specs.Prelude.{ℕ, ◌≡◌, ◌<◌, ◌≤◌, ◌+◌, ◌⊎◌, ◌↔◌, nat_lt, Bool, false, count_by, Option, Some}
use Rattle.std.specs.Option.{option_map_or}
use Rattle.slab.specs.Slab.{Slab, get}
use Rattle.buffer_pool.specs.declared.pool.Buffer.{Buffer}
use Rattle.buffer_pool.specs.Pools.{PoolView, HasPage, Changes, with_pin, without_pin}

-- the buffer has a pin
abbrev pub is_pinned : Option Buffer → Bool
is_pinned o = option_map_or (λ b. nat_lt 0 b.pins) o false

-- how many pages have a pin
abbrev pub pinned_count : Slab Buffer → ℕ
pinned_count buffers = count_by is_pinned buffers.slots

-- the page is in a buffer, and pinned
pub record IsHeld (buffers : Slab Buffer) (unit page : ℕ) : Type 0 where
  pub key : ℕ
  pub buffer : Buffer
  pub stored : get buffers key ≡ Some buffer
  pub unit_is : buffer.unit ≡ unit
  pub page_is : buffer.page ≡ page
  pub pinned : 0 < buffer.pins

-- between calls: a page has one pin at most, its hold, and fewer pages are held than there are frames
pub record IsAtRest (p : PoolView) : Type 0 where
  pub one : (key : ℕ) (b : Buffer) → get p.buffers key ≡ Some b → b.pins ≤ 1
  pub few : pinned_count p.buffers < p.limit

-- under the key stands a buffer of the same page, with as many pins
pub record HasPins (buffers : Slab Buffer) (key : ℕ) (b : Buffer) : Type 0 where
  pub buffer : Buffer
  pub stored : get buffers key ≡ Some buffer
  pub unit_is : buffer.unit ≡ b.unit
  pub page_is : buffer.page ≡ b.page
  pub pins_is : buffer.pins ≡ b.pins

-- the same pages are pinned, as often as before, and there are as many frames
pub record KeepsPins (old new : PoolView) : Type 0 where
  pub limit : new.limit ≡ old.limit
  pub stay : (key : ℕ) (b : Buffer) → get old.buffers key ≡ Some b → 0 < b.pins
      → HasPins new.buffers key b
  pub before : (key : ℕ) (b : Buffer) → get new.buffers key ≡ Some b → 0 < b.pins
      → HasPins old.buffers key b

-- ---- what a hold and its end do

-- this is the page
abbrev pub IsSamePage : ℕ → ℕ → ℕ → ℕ → Type 0
IsSamePage unit page v q = (v ≡ unit) × (q ≡ page)

-- the page's buffer has one pin more, and it is held beside those that were
pub record PinsPage (old new : PoolView) (unit page : ℕ) : Type 0 where
  pub key : ℕ
  pub has : HasPage old.buffers unit page key
  pub changes : Changes old.buffers new.buffers key (with_pin old.clock)
  pub held : (v q : ℕ)
      → IsHeld new.buffers v q ↔ (IsHeld old.buffers v q ⊎ IsSamePage unit page v q)
  pub count : pinned_count new.buffers ≡ pinned_count old.buffers + 1

-- the page's buffer has one pin fewer, and the others that were held are
pub record ReleasesPage (old new : PoolView) (unit page : ℕ) : Type 0 where
  pub key : ℕ
  pub has : HasPage old.buffers unit page key
  pub changes : Changes old.buffers new.buffers key without_pin
  pub held : (v q : ℕ)
      → IsHeld new.buffers v q ↔ (IsHeld old.buffers v q × ¬ IsSamePage unit page v q)
  pub count : pinned_count new.buffers + 1 ≡ pinned_count old.buffers
