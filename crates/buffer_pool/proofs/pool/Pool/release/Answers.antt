use Rattle.std.proofs.Common.{refl, ◌∙◌, arith, ap}
use Rattle.slab.specs.Slab.{get}
use Rattle.buffer_pool.specs.Pools.{PoolView, view_of, without_pin}
use Rattle.buffer_pool.proofs.SoundLemmas.{has_inside, once_pool, sound_changed, changes_seen}
use Rattle.buffer_pool.proofs.HeldLemmas.{one_pin, releases_page, release_rests}
use Rattle.buffer_pool.proofs.pool.Pool.release.Goals as goal

pub drop_pin-requires : goal.drop_pin-requires
drop_pin-requires c =
    let v = c.args.self.now in
    let found = c.in-Some.ensures.found in
    let once = once_pool c.self.inside v c.self.invariant c.self.view_is in
    let one = one_pin v v c.args.unit c.args.page c.in-Some.key found once c.requires.held
    c.requires.rest in (
      found.buffer,
      ap (λ (w : PoolView). get w.buffers c.in-Some.key) c.self.view_is ∙ found.stored,
      omega (arith, one),
    )

pub invariant_of-self : goal.invariant_of-self
invariant_of-self c =
    let p = c.self.inside in
    let did = c.drop_pin.ensures in
    let has = has_inside p c.args.self.now c.self.invariant c.self.view_is c.args.unit c.args.page
    c.in-Some.key c.in-Some.ensures.found in
    sound_changed p c.drop_pin.new.buffers c.in-Some.key without_pin has.buffer
    c.self.invariant has.stored did.changes refl refl refl did.len did.capacity

pub unreachable-requires : goal.unreachable-requires
unreachable-requires c =
    let held = c.requires.held in
    c.in-None.ensures.none held.key (record {
      buffer = held.buffer;
      stored = held.stored;
      unit_is = held.unit_is;
      page_is = held.page_is;
    })

pub returns-clause-releases : goal.returns-clause-releases
returns-clause-releases c =
    let p = c.self.inside in
    let v = c.args.self.now in
    let new : PoolView = view_of (record { buffers = c.drop_pin.new.buffers; index = p.index; limit = p.limit; clock = p.clock }) in
    releases_page v new c.args.unit c.args.page c.in-Some.key c.in-Some.ensures.found
    (once_pool p v c.self.invariant c.self.view_is) c.requires.held c.requires.rest
    (changes_seen p v new.buffers c.in-Some.key without_pin c.self.view_is c.drop_pin.ensures.changes)

pub returns-clause-rest : goal.returns-clause-rest
returns-clause-rest c =
    let p = c.self.inside in
    let v = c.args.self.now in
    let new : PoolView = view_of (record { buffers = c.drop_pin.new.buffers; index = p.index; limit = p.limit; clock = p.clock }) in
    release_rests v new c.args.unit c.args.page c.in-Some.key c.in-Some.ensures.found
    (once_pool p v c.self.invariant c.self.view_is) c.requires.held c.requires.rest
    (changes_seen p v new.buffers c.in-Some.key without_pin c.self.view_is c.drop_pin.ensures.changes)
    (ap (λ (w : PoolView). w.limit) c.self.view_is)
