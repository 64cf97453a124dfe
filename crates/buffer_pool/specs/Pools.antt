-- What a contract sees of a pool of frames.
use Rattle.std.specs.Prelude.{ℕ, ◌≡◌, ◌≢◌, ◌<◌, ◌≤◌, ◌+◌, ◌-◌, ◌↔◌, min, List, [], length, Some, Contains}
use Rattle.ipl_base.specs.declared.limits.TheConstants.{PAGES, FRAMES}
use Rattle.slab.specs.Slab.{Slab, slab_len, get}
use Rattle.page_ops.specs.Frames.{empty_frame}
use Rattle.buffer_pool.specs.declared.pool.Buffer.{Buffer}
use Rattle.buffer_pool.specs.declared.pool.Pin.{Pin}
use Rattle.buffer_pool.specs.declared.pool.Pool.TheInside.{Inside}
use Rattle.buffer_pool.specs.Index.{page_number, key_of, numbers_of, EachIsAboveTheLast}

-- the buffers under their keys, how many there may be, the clock that orders their uses, and the
-- numbers of the pages that are in buffers, in rising order
pub record PoolView : Type 0 where
  pub buffers : Slab Buffer
  pub limit : ℕ
  pub clock : ℕ
  pub order : List ℕ

abbrev pub view_of : Inside → PoolView
view_of p = record {
  buffers = p.buffers;
  limit = p.limit;
  clock = p.clock;
  order = numbers_of p.index;
}

-- the pool with other buffers
abbrev pub with_buffers : PoolView → Slab Buffer → PoolView
with_buffers p buffers = record p { buffers = buffers }

-- a use is counted by the clock, and there are as many frames as before
pub record CountsUse (old new : PoolView) : Type 0 where
  pub limit : new.limit ≡ old.limit
  pub clock : new.clock ≡ min (old.clock + 1) 18446744073709551615

-- no page comes in or leaves, and no use is counted
pub record CountsNothing (old new : PoolView) : Type 0 where
  pub len : slab_len new.buffers ≡ slab_len old.buffers
  pub limit : new.limit ≡ old.limit
  pub clock : new.clock ≡ old.clock
  pub order : new.order ≡ old.order

-- a use came before this time, or the clock was at its last number, at which it stays
pub record IsUsedBefore (used now : ℕ) : Type 0 where
  pub past : used ≤ now
  pub apart : now < 18446744073709551615 → used < now

-- all uses of buffers did
abbrev pub AreBefore : Slab Buffer → ℕ → Type 0
AreBefore buffers now = (key : ℕ) (buffer : Buffer) → get buffers key ≡ Some buffer
    → IsUsedBefore buffer.used now

-- ---- which buffer has a page

-- the buffer under a key has the page
pub record HasPage (buffers : Slab Buffer) (unit page key : ℕ) : Type 0 where
  pub buffer : Buffer
  pub stored : get buffers key ≡ Some buffer
  pub unit_is : buffer.unit ≡ unit
  pub page_is : buffer.page ≡ page

-- some buffer has the page
pub record IsThere (buffers : Slab Buffer) (unit page : ℕ) : Type 0 where
  pub key : ℕ
  pub has : HasPage buffers unit page key

-- no buffer has the page
abbrev pub IsAbsent : Slab Buffer → ℕ → ℕ → Type 0
IsAbsent buffers unit page = (key : ℕ) → HasPage buffers unit page key → ⊥

-- a page has one buffer at most
abbrev pub AreOnce : Slab Buffer → Type 0
AreOnce buffers = (unit page key other : ℕ)
    → HasPage buffers unit page key → HasPage buffers unit page other → key ≡ other

-- ---- what always holds

-- No page has two buffers, pages are 0 to 14, and there are no more buffers than the limit, at most
-- 64. The order rises, and has the numbers of the pages that are in buffers, and no others.
pub record IsSoundPool (p : PoolView) : Type 0 where
  pub once : AreOnce p.buffers
  pub pages : (key : ℕ) (buffer : Buffer) → get p.buffers key ≡ Some buffer → buffer.page < PAGES
  pub holds : slab_len p.buffers ≤ p.limit
  pub few : p.limit ≤ FRAMES
  pub rising : EachIsAboveTheLast p.order
  pub listed : (unit page : ℕ) → page < PAGES
      → Contains p.order (page_number unit page) ↔ IsThere p.buffers unit page

-- the buffer under a key has the page of this number
pub record HasNumber (buffers : Slab Buffer) (number key : ℕ) : Type 0 where
  pub buffer : Buffer
  pub stored : get buffers key ≡ Some buffer
  pub number_is : page_number buffer.unit buffer.page ≡ number

-- the index lists the page of each buffer, with the buffer's key, and nothing else
pub record ListsBuffers (index : List (ℕ × ℕ)) (buffers : Slab Buffer) : Type 0 where
  pub found : (number key : ℕ) → key_of index number ≡ Some key → HasNumber buffers number key
  pub listed : (key : ℕ) (buffer : Buffer) → get buffers key ≡ Some buffer
      → key_of index (page_number buffer.unit buffer.page) ≡ Some key
  pub pages : (key : ℕ) (buffer : Buffer) → get buffers key ≡ Some buffer → buffer.page < PAGES
  pub len : length index ≡ slab_len buffers

-- the buffers keep to the limit, their room is reserved, the index is theirs, and the clock counted
-- their uses
pub record IsPoolSound (p : Inside) : Type 0 where
  pub holds : slab_len p.buffers ≤ p.limit
  pub reserved : p.limit ≤ p.buffers.capacity
  pub few : p.limit ≤ FRAMES
  pub indexed : ListsBuffers p.index p.buffers
  pub counted : AreBefore p.buffers p.clock

-- ---- what calls ask and do

-- the page may leave its buffer: it isn't pinned, and has no records in memory
abbrev pub MayLeave : Slab Buffer → ℕ → ℕ → Type 0
MayLeave buffers unit page = (key : ℕ) (buffer : Buffer) → get buffers key ≡ Some buffer
    → buffer.unit ≡ unit → buffer.page ≡ page → (buffer.pins ≡ 0) × (buffer.log ≡ [])

-- a page that was just brought in: its frame is empty, and it is pinned
abbrev pub new_buffer : ℕ → ℕ → ℕ → Buffer
new_buffer unit page clock = record {
  unit = unit;
  page = page;
  pins = 1;
  used = clock;
  frame = empty_frame;
  log = [];
}

-- one more pin, set now
abbrev pub with_pin : ℕ → Buffer → Buffer
with_pin clock buffer = record buffer { pins = buffer.pins + 1; used = clock }

-- used now
abbrev pub with_use : ℕ → Buffer → Buffer
with_use clock buffer = record buffer { used = clock }

-- one pin fewer
abbrev pub without_pin : Buffer → Buffer
without_pin buffer = record buffer { pins = buffer.pins - 1 }

-- the buffer under a key changes so, and no other
pub record Changes (old new : Slab Buffer) (key : ℕ) (change : Buffer → Buffer) : Type 0 where
  pub here : (buffer : Buffer) → get old key ≡ Some buffer → get new key ≡ Some (change buffer)
  pub others : (other : ℕ) → other ≢ key → get new other ≡ get old other

-- a page's buffer has so few pins that one more can be counted
abbrev pub MayPin : Slab Buffer → ℕ → ℕ → Type 0
MayPin buffers unit page = (key : ℕ) (buffer : Buffer) → get buffers key ≡ Some buffer
    → buffer.unit ≡ unit → buffer.page ≡ page → buffer.pins < 4294967295

-- the pin's page is in its buffer, and pinned
pub record IsPinned (buffers : Slab Buffer) (pin : Pin) : Type 0 where
  pub buffer : Buffer
  pub stored : get buffers pin.key ≡ Some buffer
  pub unit_is : buffer.unit ≡ pin.unit
  pub page_is : buffer.page ≡ pin.page
  pub held : 0 < buffer.pins
