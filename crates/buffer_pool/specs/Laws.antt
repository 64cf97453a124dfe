-- The buffers as a function of unit and page, and what the calls leave of it.
use Rattle.std.specs.Prelude.{ℕ, ◌≡◌, ◌==◌, ◌&&◌, List, [], ◌∷◌, Option, Some, None, if◌then◌else◌}
use Rattle.slab.specs.Slab.{Slab, get, Updates}
use Rattle.buffer_pool.specs.declared.pool.Buffer.{Buffer}
use Rattle.buffer_pool.specs.declared.pool.Pin.{Pin}
use Rattle.buffer_pool.specs.Pools.{HasPage, IsAbsent, AreOnce, Changes, MayLeave, IsPinned, new_buffer}
use Rattle.buffer_pool.specs.Lending.{changed_at}

-- the first buffer that has the page
abbrev pub buffer_in : List (Option Buffer) → ℕ → ℕ → Option Buffer
buffer_in [] u page = None
buffer_in (None ∷ rest) u page = buffer_in rest u page
buffer_in (Some b ∷ rest) u page =
    if (b.unit == u) && (b.page == page) then Some b else buffer_in rest u page

-- the buffer of each page
abbrev pub buffer_of : Slab Buffer → ℕ → ℕ → Option Buffer
buffer_of buffers u page = buffer_in buffers.slots u page

-- a buffer under a key is its page's, and a page's buffer stands under a key
pub record TellsBuffers (buffers : Slab Buffer) : Type 0 where
  pub found : (u page key : ℕ) (b : Buffer) → get buffers key ≡ Some b → b.unit ≡ u → b.page ≡ page
      → buffer_of buffers u page ≡ Some b
  pub stands : (u page : ℕ) (b : Buffer) → buffer_of buffers u page ≡ Some b
      → (key : ℕ) × (get buffers key ≡ Some b) × (b.unit ≡ u) × (b.page ≡ page)

abbrev pub BuffersAreTold : Type 0
BuffersAreTold = (buffers : Slab Buffer) → AreOnce buffers → TellsBuffers buffers

-- a pinned page stays when another page leaves its frame
abbrev pub PinnedStay : Type 0
PinnedStay = (old new : Slab Buffer) (unit page key : ℕ) (pin : Pin) → MayLeave old unit page
    → HasPage old unit page key → Updates old new key None → IsPinned old pin → IsPinned new pin

-- ---- the buffers as a function, after each call

-- a page has this buffer now, or none
abbrev pub with_buffer : (ℕ → ℕ → Option Buffer) → ℕ → ℕ → Option Buffer → ℕ → ℕ → Option Buffer
with_buffer buffers u page o v q = if (v == u) && (q == page) then o else buffers v q

-- a page that was in no frame is brought in
abbrev pub BringsAddABuffer : Type 0
BringsAddABuffer = (old new : Slab Buffer) (unit page key clock : ℕ) → AreOnce old
    → IsAbsent old unit page → get old key ≡ None
    → Updates old new key (Some (new_buffer unit page clock))
    → buffer_of new ≡ with_buffer (buffer_of old) unit page (Some (new_buffer unit page clock))

-- a page leaves its frame
abbrev pub EvictsTakeABuffer : Type 0
EvictsTakeABuffer = (old new : Slab Buffer) (unit page key : ℕ) → AreOnce old
    → HasPage old unit page key → Updates old new key None
    → buffer_of new ≡ with_buffer (buffer_of old) unit page None

-- the buffer has the page that it had
abbrev pub SamePage : Buffer → Buffer → Type 0
SamePage a b = (a.unit ≡ b.unit) × (a.page ≡ b.page)

-- a page's buffer is changed by a pin
abbrev pub PinsChangeABuffer : Type 0
PinsChangeABuffer = (old new : Slab Buffer) (key : ℕ) (change : Buffer → Buffer) (was : Buffer)
    → AreOnce old → get old key ≡ Some was → SamePage (change was) was → Changes old new key change
    → buffer_of new ≡ with_buffer (buffer_of old) was.unit was.page (Some (change was))

-- or by what is written through its frame or its records
abbrev pub LoansChangeABuffer : Type 0
LoansChangeABuffer = (old : Slab Buffer) (key : ℕ) (change : Buffer → Buffer) (was : Buffer)
    → AreOnce old → get old key ≡ Some was → SamePage (change was) was
    → buffer_of (changed_at old key change)
    ≡ with_buffer (buffer_of old) was.unit was.page (Some (change was))
