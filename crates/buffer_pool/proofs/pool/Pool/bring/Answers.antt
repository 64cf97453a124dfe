use Rattle.std.proofs.Common.{refl, sym, ◌∙◌, ap, subst, arith}
use Rattle.buffer_pool.specs.Index.{key_of}
use Rattle.buffer_pool.specs.declared.pool.Buffer.{Buffer}
use Rattle.buffer_pool.specs.Pools.{AreBefore, PoolView, view_of}
use Rattle.buffer_pool.proofs.IndexedLemmas.{are_once}
use Rattle.buffer_pool.proofs.SoundLemmas.{is_not_listed, sound_added}
use Rattle.buffer_pool.proofs.UseLemmas.{before_used, used_last}
use Rattle.buffer_pool.proofs.pool.Pool.bring.Goals as goal

pub add-requires-clause-absent : goal.add-requires-clause-absent
add-requires-clause-absent c =
    ap (key_of c.self.inside.index) c.page_number.ensures
    ∙ is_not_listed c.self.inside c.args.self.now c.self.invariant c.self.view_is c.args.unit
    c.args.page c.requires.page c.requires.absent

pub invariant_of-self : goal.invariant_of-self
invariant_of-self c =
    let p = c.self.inside in
    let insert = c.insert_reserved-key in
    let put = insert.ensures in
    sound_added p c.args.self.now c.self.invariant c.self.view_is insert.new.self
    c.add.new.self insert.result c.args.unit c.args.page c.page_number.result
    c.saturating_add-self-inside.result _ refl refl c.page_number.ensures c.requires.page
    c.requires.absent c.requires.free put.was_vacant put.updates c.add.ensures.added c.add.ensures.len
    put.len put.capacity
    (subst (AreBefore insert.new.self) (sym c.saturating_add-self-inside.ensures)
    (before_used p.buffers insert.new.self insert.result p.clock _ c.self.invariant.counted
    (omega arith) put.updates refl))

pub returns-clause-last : goal.returns-clause-last
returns-clause-last c =
    let p = c.self.inside in
    let insert = c.insert_reserved-key in
    let put = insert.ensures in
    let now : Buffer = record { unit = c.args.unit; page = c.args.page; pins = 1; used = p.clock; frame = c.empty.result; log = c.empty-2.result } in
    let new : PoolView = view_of (record { buffers = insert.new.self; index = c.add.new.self; limit = p.limit; clock = c.saturating_add-self-inside.result }) in
    let sound = sound_added p c.args.self.now c.self.invariant c.self.view_is insert.new.self
    c.add.new.self insert.result c.args.unit c.args.page c.page_number.result
    c.saturating_add-self-inside.result now refl refl c.page_number.ensures c.requires.page
    c.requires.absent c.requires.free put.was_vacant put.updates c.add.ensures.added c.add.ensures.len
    put.len put.capacity
    (subst (AreBefore insert.new.self) (sym c.saturating_add-self-inside.ensures)
    (before_used p.buffers insert.new.self insert.result p.clock now c.self.invariant.counted
    (omega arith) put.updates refl)) in
    used_last p.buffers new c.args.unit c.args.page insert.result p.clock now
    (are_once c.add.new.self insert.new.self sound.indexed) c.self.invariant.counted put.updates refl
    refl refl
