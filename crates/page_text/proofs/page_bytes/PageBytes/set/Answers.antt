use Rattle.std.proofs.Common.{◌∙◌, ◌+◌, ◌++◌, ap, set, Some, arith, ℕ, take, drop, length}
use Rattle.ipl_base.specs.declared.limits.TheConstants.{VERSION}
use Rattle.ipl_format.specs.Page.{slot_bytes}
use Rattle.page_text.specs.Texts.{page_in}
use Rattle.page_text.proofs.ViewLemmas.{are_bounds, indexed_view, view_indexed}
use Rattle.page_text.proofs.ChangeLemmas.{fits_there, was_set, room_for}
use Rattle.page_text.proofs.page_bytes.PageBytes.set.Goals as goal

pub resize-start-requires-clause-bounds : goal.resize-start-requires-clause-bounds
resize-start-requires-clause-bounds c =
    let p = c.self.inside in
    are_bounds p.bytes p.bounds (page_in p.bytes p.bounds) c.self.invariant

pub resize-start-requires-clause-room : goal.resize-start-requires-clause-room
resize-start-requires-clause-room c =
    let p = c.self.inside in
    room_for p.bytes p.bounds (page_in p.bytes p.bounds) c.args.slot
    (Some c.args.value.now) c.self.invariant c.requires.slot
    (fits_there p.bytes p.bounds c.args.self.now c.args.slot
    (Some c.args.value.now) c.self.view_is c.requires.room)

pub put_record-requires-clause-room : goal.put_record-requires-clause-room
put_record-requires-clause-room c =
    let p = c.self.inside in
    let page = page_in p.bytes p.bounds in
    let room = room_for p.bytes p.bounds page c.args.slot
    (Some c.args.value.now) c.self.invariant c.requires.slot
    (fits_there p.bytes p.bounds c.args.self.now c.args.slot
    (Some c.args.value.now) c.self.view_is c.requires.room) in
    let bounds = are_bounds p.bytes p.bounds page c.self.invariant in
    let rise = bounds.rise (c.args.slot + 1) 64 (omega (arith, c.requires.slot)) (omega arith) in
    omega (arith, room, rise, c.resize-start.ensures.start)

pub invariant_of-self : goal.invariant_of-self
invariant_of-self c =
    let p = c.self.inside in
    let page = page_in p.bytes p.bounds in
    let did = c.resize-start.ensures in
    let value = c.args.value.now in
    let now = c.put_record.new.bytes in
    view_indexed now c.resize-start.new.bounds (set page c.args.slot (Some value)) (did.bounds.count
    ∙ c.self.told.1)
    (was_set p.bytes p.bounds page c.args.slot value c.resize-start.new.bytes now
    c.resize-start.new.bounds c.self.invariant c.requires.slot c.requires.short
    (fits_there p.bytes p.bounds c.args.self.now c.args.slot
    (Some c.args.value.now) c.self.view_is c.requires.room) did.front did.tail
    (c.put_record.ensures ∙ ap (λ (at : ℕ). take at c.resize-start.new.bytes
    ++ slot_bytes VERSION c.args.slot (Some value) ++ drop
    (at + (3 + length value)) c.resize-start.new.bytes) did.start)
    did.bounds)

pub returns-clause-set : goal.returns-clause-set
returns-clause-set c =
    let p = c.self.inside in
    let page = page_in p.bytes p.bounds in
    let did = c.resize-start.ensures in
    let value = c.args.value.now in
    let now = c.put_record.new.bytes in
    indexed_view now c.resize-start.new.bounds (set page c.args.slot (Some value)) (did.bounds.count
    ∙ c.self.told.1)
    (was_set p.bytes p.bounds page c.args.slot value c.resize-start.new.bytes now
    c.resize-start.new.bounds c.self.invariant c.requires.slot c.requires.short
    (fits_there p.bytes p.bounds c.args.self.now c.args.slot
    (Some c.args.value.now) c.self.view_is c.requires.room) did.front did.tail
    (c.put_record.ensures ∙ ap (λ (at : ℕ). take at c.resize-start.new.bytes
    ++ slot_bytes VERSION c.args.slot (Some value) ++ drop
    (at + (3 + length value)) c.resize-start.new.bytes) did.start)
    did.bounds)
    ∙ ap (λ v. set v.page c.args.slot (Some value)) c.self.view_is

pub returns-clause-page : goal.returns-clause-page
returns-clause-page c = (invariant_of-self c).slots
