use Rattle.std.proofs.Common.{◌≡◌, ◌+◌, suc, map, length, ◌<◌, ◌∙◌, ap, sym, arith}
use Rattle.std.specs.Option.{option_map}
use Rattle.std.proofs.lemmas.List.{length-map}
use Rattle.record_locks.specs.Standing.{slot_of, keeps_from}
use Rattle.ipl_model.proofs.RuleSlotLemmas.{first_here, first_later, first_from}
use Rattle.record_locks.proofs.SlotLemmas.{slot_read}
use Rattle.record_locks.proofs.scan.find_holder.Goals as goal

pub returns-then-is_holder : goal.returns-then-is_holder
returns-then-is_holder c =
    let slots = map slot_of c.args.slots.now in
    let within : c.loop-i.i < length slots = omega (arith, length-map c.args.slots.now slot_of) in
    sym (ap (option_map (λ e. e.0)) c.loop-i.invariant
    ∙ first_here c.args.s (keeps_from c.args.for_write c.args.name.0) c.loop-i.i slots (slot_of c.index-slots-i.result) within
    (slot_read c.args.slots.now c.loop-i.i c.index-slots-i.result c.loop-i-test.true c.index-slots-i.is)
    (sym c.is_holder.ensures ∙ c.if-is_holder.true))

pub loop-i-preserved : goal.loop-i-preserved
loop-i-preserved c =
    let slots = map slot_of c.args.slots.now in
    let within : c.loop-i.i < length slots = omega (arith, length-map c.args.slots.now slot_of) in
    let next : suc c.loop-i.i ≡ c.loop-i.i + 1 = omega arith in
    c.loop-i.invariant
    ∙ first_later c.args.s (keeps_from c.args.for_write c.args.name.0) c.loop-i.i slots (slot_of c.index-slots-i.result) within
    (slot_read c.args.slots.now c.loop-i.i c.index-slots-i.result c.loop-i-test.true c.index-slots-i.is)
    (sym c.is_holder.ensures ∙ c.if-is_holder.false)
    ∙ ap (λ i. first_from c.args.s (keeps_from c.args.for_write c.args.name.0) i slots) next
