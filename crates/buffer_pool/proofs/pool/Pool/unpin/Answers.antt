use Rattle.std.proofs.Common.{◌≡◌, Some, refl, sym, subst}
use Rattle.slab.specs.Slab.{get}
use Rattle.buffer_pool.specs.Pools.{PoolView, without_pin}
use Rattle.buffer_pool.proofs.SoundLemmas.{sound_changed}
use Rattle.buffer_pool.proofs.pool.Pool.unpin.Goals as goal

pub invariant_of-self : goal.invariant_of-self
invariant_of-self c =
    let p = c.self.inside in
    let key = c.args.pin.key in
    let was = c.requires.buffer in
    let there = subst (λ (v : PoolView). get v.buffers key ≡ Some was) (sym c.self.view_is)
    c.requires.stored in
    let did = c.drop_pin.ensures in
    sound_changed p c.drop_pin.new.buffers key without_pin was c.self.invariant there
    did.changes refl refl refl did.len did.capacity
