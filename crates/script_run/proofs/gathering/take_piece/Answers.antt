use Rattle.std.proofs.Common.{get_or, refl}
use Rattle.script_run.proofs.GatherLemmas.{gathers_none, gathers_more, gathers_whole}
use Rattle.script_run.proofs.gathering.take_piece.Goals as goal

pub loop-byte-init : goal.loop-byte-init
loop-byte-init c = gathers_none c.args.commands.now.items c.args.line.now

pub loop-byte-preserved : goal.loop-byte-preserved
loop-byte-preserved c =
    let i = c.loop-byte.byte-index in
    gathers_more c.args.piece.now i (get_or c.args.piece.now i 0) c.args.commands.now.items c.loop-byte.commands.items
    c.take_byte.new.commands.items c.args.line.now c.loop-byte.line c.take_byte.new.line c.loop-byte-test.true refl
    c.loop-byte.invariant c.in_ok-take_byte.ensures

pub returns : goal.returns
returns c =
    gathers_whole c.args.piece.now c.loop-byte.byte-index c.args.commands.now.items c.loop-byte.commands.items
    c.args.line.now c.loop-byte.line c.loop-byte-test.false c.loop-byte.invariant
