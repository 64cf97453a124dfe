use Rattle.std.proofs.Common.{arith}
use Rattle.page_text.proofs.WriteLemmas.{written_none, written_more, written_all, next_fits}
use Rattle.page_text.proofs.first_version.write_first.Goals as goal

pub loop-slot-init : goal.loop-slot-init
loop-slot-init c = written_none 1 c.args.map.now c.args.out.now

pub write_slot-end-requires-clause-room : goal.write_slot-end-requires-clause-room
write_slot-end-requires-clause-room c =
    let l = c.loop-slot in
    next_fits 1 c.args.map.now c.args.out.now l.slot l.out l.end c.requires c.loop-slot-test.true
    l.invariant

pub loop-slot-preserved : goal.loop-slot-preserved
loop-slot-preserved c =
    let l = c.loop-slot in
    written_more 1 c.args.map.now c.args.out.now l.slot l.out c.write_slot-end.new.out l.end
    c.write_slot-end.result c.requires.slots c.loop-slot-test.true l.invariant
    c.write_slot-end.ensures.text c.write_slot-end.ensures.end

pub returns : goal.returns
returns c =
    let l = c.loop-slot in
    let all = written_all 1 c.args.map.now c.args.out.now l.slot l.out l.end c.requires
    (omega (arith, c.loop-slot-test.false)) l.invariant in
    record { text = all.text; rest = all.rest; end = all.size }
