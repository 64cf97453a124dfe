-- When pages in buffers were used, and what calls do to that.
use Rattle.std.specs.Prelude.{ℕ, ◌≡◌, ◌≤◌, Option, Some, None, IsSome}
use Rattle.std.specs.Option.{option_map}
use Rattle.slab.specs.Slab.{slab_len, get, Updates}
use Rattle.buffer_pool.specs.declared.pool.Buffer.{Buffer}
use Rattle.buffer_pool.specs.declared.room.Room.TheVariants.{Victim}
use Rattle.buffer_pool.specs.Pools.{PoolView, HasPage, IsAbsent, AreOnce, Changes, CountsUse, IsUsedBefore, new_buffer, with_buffers, with_use}
use Rattle.buffer_pool.specs.Rooms.{IsRoom}
use Rattle.buffer_pool.specs.Lending.{changed_at}
use Rattle.buffer_pool.specs.Laws.{buffer_of, SamePage}
use Rattle.buffer_pool.specs.Holding.{IsHeld, IsSamePage}

-- when a page was used last, if it is in a buffer
abbrev pub used_of : PoolView → ℕ → ℕ → Option ℕ
used_of p unit page = option_map (λ b. b.used) (buffer_of p.buffers unit page)

-- the page is in a buffer, and each other page in one was used before it
pub record IsUsedLast (p : PoolView) (unit page : ℕ) : Type 0 where
  pub used : ℕ
  pub there : used_of p unit page ≡ Some used
  pub last : (v q other : ℕ) → ¬ IsSamePage unit page v q → used_of p v q ≡ Some other
      → IsUsedBefore other used

-- the page is in a buffer, nothing holds it there, and of such pages none was used longer ago
pub record IsUsedFirst (p : PoolView) (unit page : ℕ) : Type 0 where
  pub used : ℕ
  pub there : used_of p unit page ≡ Some used
  pub unheld : ¬ IsHeld p.buffers unit page
  pub first : (v q other : ℕ) → ¬ IsHeld p.buffers v q → used_of p v q ≡ Some other
      → used ≤ other

-- a use of the page is counted, and nothing else changes
pub record UsesPage (old new : PoolView) (unit page : ℕ) : Type 0 where
  pub key : ℕ
  pub has : HasPage old.buffers unit page key
  pub changes : Changes old.buffers new.buffers key (with_use old.clock)
  pub len : slab_len new.buffers ≡ slab_len old.buffers
  pub counts : CountsUse old new
  pub order : new.order ≡ old.order

-- no page comes in or leaves, and a use is counted, which is of this page
pub record CountsUseOf (old new : PoolView) (unit page : ℕ) : Type 0 where
  pub len : slab_len new.buffers ≡ slab_len old.buffers
  pub counts : CountsUse old new
  pub last : IsUsedLast new unit page
  pub order : new.order ≡ old.order

-- no use is counted: each page in a buffer then was in one, and was used when it was
abbrev pub CountsNoUse : PoolView → PoolView → Type 0
CountsNoUse old new = (v q used : ℕ) → used_of new v q ≡ Some used → used_of old v q ≡ Some used

-- none is of another page
abbrev pub CountsNoOther : ℕ → ℕ → PoolView → PoolView → Type 0
CountsNoOther unit page old new = (v q used : ℕ) → ¬ IsSamePage unit page v q
    → used_of new v q ≡ Some used → used_of old v q ≡ Some used

-- ---- laws

-- the buffer has the page that it had, and was used when it was
pub record SameUse (a b : Buffer) : Type 0 where
  pub page : SamePage a b
  pub used : a.used ≡ b.used

-- a pin that is given back is no use
abbrev pub ChangesKeepUses : Type 0
ChangesKeepUses = (old new : PoolView) (key : ℕ) (change : Buffer → Buffer)
    → AreOnce old.buffers → IsSome (get old.buffers key) → ((b : Buffer) → SameUse (change b) b)
    → Changes old.buffers new.buffers key change → used_of new ≡ used_of old

-- nor is what is written through a frame or records that were lent
abbrev pub LoansKeepUses : Type 0
LoansKeepUses = (p : PoolView) (key : ℕ) (change : Buffer → Buffer) → AreOnce p.buffers
    → IsSome (get p.buffers key) → ((b : Buffer) → SameUse (change b) b)
    → used_of (with_buffers p (changed_at p.buffers key change)) ≡ used_of p

-- a page that is brought in is no use of another
abbrev pub BringsCountNoOther : Type 0
BringsCountNoOther = (old new : PoolView) (unit page key clock : ℕ) → AreOnce old.buffers
    → IsAbsent old.buffers unit page → get old.buffers key ≡ None
    → Updates old.buffers new.buffers key (Some (new_buffer unit page clock))
    → CountsNoOther unit page old new

-- nor is a page that is pinned or touched
abbrev pub ChangesCountNoOther : Type 0
ChangesCountNoOther = (old new : PoolView) (unit page key : ℕ) (change : Buffer → Buffer)
    → AreOnce old.buffers → HasPage old.buffers unit page key
    → ((b : Buffer) → SamePage (change b) b) → Changes old.buffers new.buffers key change
    → CountsNoOther unit page old new

-- and one that leaves is none
abbrev pub EvictionsCountNoUse : Type 0
EvictionsCountNoUse = (old new : PoolView) (unit page key : ℕ) → AreOnce old.buffers
    → HasPage old.buffers unit page key → Updates old.buffers new.buffers key None
    → CountsNoUse old new

-- the page that was used last still is where no use is counted
abbrev pub KeptUsesAreLast : Type 0
KeptUsesAreLast = (old new : PoolView) (unit page : ℕ) → used_of new ≡ used_of old
    → IsUsedLast old unit page → IsUsedLast new unit page

-- the page that is offered to leave was used first of those that aren't held
abbrev pub VictimsAreUsedFirst : Type 0
VictimsAreUsedFirst = (p : PoolView) (unit page : ℕ) → AreOnce p.buffers
    → IsRoom p (Victim unit page) → IsUsedFirst p unit page
