use Rattle.std.proofs.Common.{◌≡◌, ◌+◌, Option, OnSome, ◌∙◌, subst}
use Rattle.slab.specs.Slab.{slab_len}
use Rattle.buffer_pool.specs.declared.pool.Buffer.{Buffer}
use Rattle.buffer_pool.proofs.SoundLemmas.{has_inside, sound_removed}
use Rattle.buffer_pool.proofs.UseLemmas.{before_removed}
use Rattle.buffer_pool.proofs.pool.Pool.evict.Goals as goal

pub invariant_of-self : goal.invariant_of-self
invariant_of-self c =
    let p = c.self.inside in
    let key = c.in-Some.key in
    let took = c.try_remove.ensures in
    let has = has_inside p c.args.self.now c.self.invariant c.self.view_is c.args.unit c.args.page key
    c.in-Some.ensures.found in
    let len = subst (λ (o : Option Buffer). OnSome o
    (slab_len c.try_remove.new.self + 1 ≡ slab_len p.buffers)) (took.value ∙ has.stored) took.len in
    sound_removed p c.args.self.now c.self.invariant c.self.view_is c.try_remove.new.self
    c.remove.new.self key c.args.unit c.args.page c.page_number.result p.clock c.page_number.ensures
    c.in-Some.ensures.found took.updates c.remove.ensures.removed c.remove.ensures.len len took.capacity
    (before_removed p.buffers c.try_remove.new.self key p.clock c.self.invariant.counted took.updates)

pub unreachable-requires : goal.unreachable-requires
unreachable-requires c = c.in-None.ensures.none c.requires.there.key c.requires.there.has
