use Rattle.std.proofs.Common.{refl, ◌∙◌, ap, arith}
use Rattle.buffer_pool.specs.Index.{key_of}
use Rattle.buffer_pool.proofs.SoundLemmas.{is_not_listed}
use Rattle.buffer_pool.proofs.PassLemmas.{absent_between, between_sound, passed_sound, passes, between}
use Rattle.buffer_pool.proofs.pool.Pool.pass.Goals as goal

pub add-requires-clause-absent : goal.add-requires-clause-absent
add-requires-clause-absent c =
    let p = c.self.inside in
    let v = c.args.self.now in
    let key = c.in-Some.key in
    let less = c.remove.new.self in
    let has = c.in-Some.ensures.found in
    let out = c.remove.ensures in
    ap (key_of less) c.page_number-in-Some.ensures
    ∙ is_not_listed (between p v c.self.invariant c.self.view_is key c.args.unit c.args.page less
    c.page_number.result c.page_number.ensures has out.removed out.len) _
    (between_sound p v c.self.invariant c.self.view_is key c.args.unit c.args.page less
    c.page_number.result c.page_number.ensures has out.removed out.len) refl c.args.to_unit
    c.args.to_page c.requires.to_page
    (absent_between p v c.self.invariant c.self.view_is key c.args.unit c.args.page less
    c.page_number.result c.page_number.ensures has out.removed out.len c.args.to_unit c.args.to_page
    c.requires.absent)

pub invariant_of-self : goal.invariant_of-self
invariant_of-self c =
    let out = c.remove.ensures in
    let did = c.give_buffer.ensures in
    passed_sound c.self.inside c.args.self.now c.self.invariant c.self.view_is c.in-Some.key
    c.args.unit c.args.page c.remove.new.self c.page_number.result c.page_number.ensures
    c.in-Some.ensures.found out.removed out.len c.give_buffer.new.buffers c.add.new.self
    c.saturating_add-self-inside.result c.args.to_unit c.args.to_page c.page_number-in-Some.result
    c.page_number-in-Some.ensures c.requires.to_page c.requires.absent did.changes did.len
    did.capacity c.add.ensures.added c.add.ensures.len (omega arith)
    c.saturating_add-self-inside.ensures

pub unreachable-requires : goal.unreachable-requires
unreachable-requires c = c.in-None.ensures.none c.requires.there.key c.requires.there.has

pub returns : goal.returns
returns c =
    let out = c.remove.ensures in
    let did = c.give_buffer.ensures in
    passes c.self.inside c.args.self.now c.self.invariant c.self.view_is c.in-Some.key
    c.args.unit c.args.page c.remove.new.self c.page_number.result c.page_number.ensures
    c.in-Some.ensures.found out.removed out.len c.give_buffer.new.buffers c.add.new.self
    c.saturating_add-self-inside.result c.args.to_unit c.args.to_page c.page_number-in-Some.result
    c.page_number-in-Some.ensures c.requires.to_page c.requires.absent did.changes did.len
    did.capacity c.add.ensures.added c.add.ensures.len (omega arith)
    c.saturating_add-self-inside.ensures c.facts.ensures
