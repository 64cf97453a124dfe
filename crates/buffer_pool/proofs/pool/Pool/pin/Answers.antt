use Rattle.std.proofs.Common.{refl, subst, arith}
use Rattle.buffer_pool.specs.Pools.{PoolView, view_of, with_pin}
use Rattle.buffer_pool.specs.Uses.{CountsUseOf}
use Rattle.buffer_pool.proofs.SoundLemmas.{has_inside, sound_used, last_used}
use Rattle.buffer_pool.proofs.pool.Pool.pin.Goals as goal

pub invariant_of-self : goal.invariant_of-self
invariant_of-self c =
    let p = c.self.inside in
    let key = c.in-Some.key in
    let did = c.add_pin.ensures in
    let has = has_inside p c.args.self.now c.self.invariant c.self.view_is c.args.unit c.args.page key
    c.in-Some.ensures.found in
    sound_used p c.add_pin.new.buffers key c.saturating_add-self-inside.result (with_pin p.clock)
    has.buffer c.self.invariant has.stored did.changes refl refl refl did.len did.capacity
    (omega arith) c.saturating_add-self-inside.ensures

pub unreachable-requires : goal.unreachable-requires
unreachable-requires c = c.in-None.ensures.none c.requires.there.key c.requires.there.has

pub returns-clause-uses : goal.returns-clause-uses
returns-clause-uses c =
    let p = c.self.inside in
    let key = c.in-Some.key in
    let did = c.add_pin.ensures in
    let has = has_inside p c.args.self.now c.self.invariant c.self.view_is c.args.unit c.args.page key
    c.in-Some.ensures.found in
    let new : PoolView = view_of (record { buffers = c.add_pin.new.buffers; index = p.index; limit = p.limit; clock = c.saturating_add-self-inside.result }) in
    subst (λ (v : PoolView). CountsUseOf v new c.args.unit c.args.page) c.self.view_is (record {
      len = did.len;
      counts = record { limit = refl; clock = c.saturating_add-self-inside.ensures };
      last = last_used p new key c.args.unit c.args.page (with_pin p.clock) has.buffer
          c.self.invariant has.stored did.changes (refl, refl) refl has.unit_is has.page_is;
      order = refl;
    })
