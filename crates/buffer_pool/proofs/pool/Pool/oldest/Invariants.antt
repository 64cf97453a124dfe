use Rattle.std.proofs.Common.{◌≡◌, ℕ, Some, Contains}
use Rattle.slab.specs.Slab.{get}
use Rattle.buffer_pool.specs.declared.pool.Buffer.{Buffer}
use Rattle.buffer_pool.proofs.RoomLemmas.{SoFar}
use Rattle.buffer_pool.proofs.pool.Pool.oldest.Given as goal

-- the oldest so far, and the entries that are left are the slab's
abbrev pub invariant-loop-key : goal.invariant-loop-key
invariant-loop-key l =
    (goal.iterator-loop-key).can_next l._key-iterator ×
    (goal.iterator-loop-key).is_finite l._key-iterator ×
    SoFar l.self.buffers l._key-iterator l.oldest ×
    ((key : ℕ) (s : Buffer) → Contains l._key-iterator (key, s) → get l.self.buffers key ≡ Some s)
