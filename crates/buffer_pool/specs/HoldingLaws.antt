-- What calls keep of pins, and that a pool at rest has a frame without one.
use Rattle.std.specs.Prelude.{ℕ, ◌≡◌, ◌<◌, [], IsSome, Some, None}
use Rattle.slab.specs.Slab.{get, Updates}
use Rattle.buffer_pool.specs.declared.pool.Buffer.{Buffer}
use Rattle.buffer_pool.specs.declared.room.Room.TheVariants.{AllPinned}
use Rattle.buffer_pool.specs.Pools.{PoolView, HasPage, Changes, MayLeave, MayPin, new_buffer, with_buffers, with_pin, without_pin}
use Rattle.buffer_pool.specs.Rooms.{IsRoom}
use Rattle.buffer_pool.specs.Lending.{changed_at}
use Rattle.buffer_pool.specs.Laws.{SamePage}
use Rattle.buffer_pool.specs.Holding.{pinned_count, IsAtRest, KeepsPins}

-- nothing done
abbrev pub NothingKeepsPins : Type 0
NothingKeepsPins = (p : PoolView) → KeepsPins p p

-- two calls in a row
abbrev pub BothKeepPins : Type 0
BothKeepPins = (old mid new : PoolView) → KeepsPins old mid → KeepsPins mid new → KeepsPins old new

-- as many pages have pins then
abbrev pub KeptPinsAreAsMany : Type 0
KeptPinsAreAsMany = (old new : PoolView) → KeepsPins old new
    → pinned_count new.buffers ≡ pinned_count old.buffers

-- and the pool is at rest where it was
abbrev pub KeptPinsRest : Type 0
KeptPinsRest = (old new : PoolView) → KeepsPins old new → IsAtRest old → IsAtRest new

-- a page is pinned, and unpinned after calls that keep pins
abbrev pub PinsGivenBackAreKept : Type 0
PinsGivenBackAreKept = (old pinned later new : PoolView) (unit page key : ℕ)
    → HasPage old.buffers unit page key → pinned.limit ≡ old.limit
    → Changes old.buffers pinned.buffers key (with_pin old.clock) → KeepsPins pinned later
    → new.limit ≡ later.limit → Changes later.buffers new.buffers key without_pin
    → KeepsPins old new

-- a page is brought in, and unpinned after calls that keep pins
abbrev pub PagesBroughtKeepPins : Type 0
PagesBroughtKeepPins = (old brought later new : PoolView) (unit page key : ℕ)
    → get old.buffers key ≡ None → brought.limit ≡ old.limit
    → Updates old.buffers brought.buffers key (Some (new_buffer unit page old.clock))
    → KeepsPins brought later
    → new.limit ≡ later.limit → Changes later.buffers new.buffers key without_pin
    → KeepsPins old new

-- a page without a pin leaves its frame
abbrev pub EvictionsKeepPins : Type 0
EvictionsKeepPins = (old new : PoolView) (unit page key : ℕ) → MayLeave old.buffers unit page
    → HasPage old.buffers unit page key → Updates old.buffers new.buffers key None
    → new.limit ≡ old.limit → KeepsPins old new

-- a buffer's frame or records change, or the time of its last use
abbrev pub ChangesKeepPins : Type 0
ChangesKeepPins = (old new : PoolView) (key : ℕ) (change : Buffer → Buffer)
    → IsSome (get old.buffers key)
    → ((b : Buffer) → SamePage (change b) b × ((change b).pins ≡ b.pins))
    → Changes old.buffers new.buffers key change → new.limit ≡ old.limit → KeepsPins old new

-- so does what is written through a frame or records that were lent
abbrev pub LoansKeepPins : Type 0
LoansKeepPins = (p : PoolView) (key : ℕ) (change : Buffer → Buffer) → IsSome (get p.buffers key)
    → ((b : Buffer) → SamePage (change b) b × ((change b).pins ≡ b.pins))
    → KeepsPins p (with_buffers p (changed_at p.buffers key change))

-- with no pages in frames none is pinned, and it is at rest
abbrev pub EmptyPoolsRest : Type 0
EmptyPoolsRest = (p : PoolView) → p.buffers.slots ≡ [] → 0 < p.limit
    → (pinned_count p.buffers ≡ 0) × IsAtRest p

-- at rest a page may be pinned
abbrev pub PagesAtRestMayBePinned : Type 0
PagesAtRestMayBePinned = (p : PoolView) (unit page : ℕ) → IsAtRest p → MayPin p.buffers unit page

-- and not all frames have pins
abbrev pub ARestingPoolHasRoom : Type 0
ARestingPoolHasRoom = (p : PoolView) → IsAtRest p → IsRoom p AllPinned → ⊥
