use Rattle.std.proofs.Common.{◌+◌, drop, sym, ◌∙◌}
use Rattle.log_records.specs.View.{record_of}
use Rattle.selective_merge.specs.Packs.{among}
use Rattle.page_ops.proofs.RebuildLemmas.{making_past}
use Rattle.selective_merge.specs.Logs.{nth_record}
use Rattle.selective_merge.proofs.PageLemmas.{none_counted, made_next, taken_off, earlier_made, last_made, last_full}
use Rattle.selective_merge.proofs.pages.take_record.Goals as goal

pub returns-then-not-is_counted-clause-made : goal.returns-then-not-is_counted-clause-made
returns-then-not-is_counted-clause-made c = λ base so.
    let committed = among c.args.status.now.numbers in
    making_past committed c.args.page
    (made_next committed c.args.page c.args.log.now c.args.i c.requires.within so)
    (λ slot low. none_counted committed c.args.page (nth_record c.args.log.now c.args.i)
    (sym c.is_counted.ensures ∙ c.if-not-is_counted.true) slot)

pub returns-then-not-take-clause-made : goal.returns-then-not-take-clause-made
returns-then-not-take-clause-made c = λ base so.
    let committed = among c.args.status.now.numbers in
    let log = c.args.log.now in
    earlier_made committed c.args.page log (drop (c.args.i + 1) log) base c.args.coming.now
    c.take.new.self c.args.slots.now (nth_record log c.args.i)
    (made_next committed c.args.page log c.args.i c.requires.within so)
    (sym c.is_counted.ensures ∙ c.if-not-is_counted.false) c.take.result
    (taken_off _ _ _ _ _ c.slot.ensures.slot c.slot.ensures.within c.take.ensures.slots
    c.take.ensures.taken c.take.ensures.last) c.if-not-take.true

pub returns-clause-made : goal.returns-clause-made
returns-clause-made c = λ base so.
    let committed = among c.args.status.now.numbers in
    let log = c.args.log.now in
    last_made committed c.args.page log (drop (c.args.i + 1) log) base c.args.coming.now
    c.take.new.self c.args.slots.now (nth_record log c.args.i)
    (made_next committed c.args.page log c.args.i c.requires.within so)
    (sym c.is_counted.ensures ∙ c.if-not-is_counted.false) c.take.result
    (taken_off _ _ _ _ _ c.slot.ensures.slot c.slot.ensures.within c.take.ensures.slots
    c.take.ensures.taken c.take.ensures.last) c.if-not-take.false c.apply_where_room.new.map
    c.apply_where_room.ensures.page (record_of c.get.result) c.get.ensures.is
    c.apply_where_room.result c.apply_where_room.ensures.done

pub returns-clause-full : goal.returns-clause-full
returns-clause-full c = λ base so.
    let committed = among c.args.status.now.numbers in
    let log = c.args.log.now in
    last_full committed c.args.page log (drop (c.args.i + 1) log) base c.args.coming.now
    c.take.new.self c.args.slots.now (nth_record log c.args.i)
    (made_next committed c.args.page log c.args.i c.requires.within so)
    (sym c.is_counted.ensures ∙ c.if-not-is_counted.false) c.take.result
    (taken_off _ _ _ _ _ c.slot.ensures.slot c.slot.ensures.within c.take.ensures.slots
    c.take.ensures.taken c.take.ensures.last) c.if-not-take.false c.apply_where_room.new.map
    c.apply_where_room.ensures.page (record_of c.get.result) c.get.ensures.is
    c.apply_where_room.result c.apply_where_room.ensures.kept c.apply_where_room.ensures.full
