use Rattle.std.proofs.Common.{arith}
use Rattle.store_trait.proofs.OnwardLemmas.{onward_none}
use Rattle.script_run.proofs.ReadLemmas.{piece_read}
use Rattle.script_run.proofs.GatherLemmas.{reading_next, reading_last}
use Rattle.script_run.proofs.gathering.take_next.Goals as goal

pub returns-in_ok-take_piece-in-Ok-clause-goes : goal.returns-in_ok-take_piece-in-Ok-clause-goes
returns-in_ok-take_piece-in-Ok-clause-goes g c = λ script reading.
    let told = g.D.Chip.told in
    let new = c.take_piece.new in
    let r = c.in-Ok.ensures in
    reading_next script c.args.commands.now.items new.commands.items c.args.line.now new.line c.read_script.new.buf
    (told c.args.desk.now) (told c.read_script.new.self) c.in-Ok.count r.bytes.0 r.bytes.2
    c.in_ok-take_piece-in-Ok.ensures reading

pub returns-in_ok-take_piece-in-Ok-clause-ends : goal.returns-in_ok-take_piece-in-Ok-clause-ends
returns-in_ok-take_piece-in-Ok-clause-ends g c = λ none script reading.
    let told = g.D.Chip.told in
    let new = c.take_piece.new in
    let r = c.in-Ok.ensures in
    reading_last script c.args.commands.now.items new.commands.items c.args.line.now new.line c.read_script.new.buf
    (told c.args.desk.now) (told c.read_script.new.self) c.in-Ok.count r.bytes.0 r.bytes.2
    c.in_ok-take_piece-in-Ok.ensures reading none

pub returns-in_ok-take_piece-in-Ok-clause-read : goal.returns-in_ok-take_piece-in-Ok-clause-read
returns-in_ok-take_piece-in-Ok-clause-read g c =
    let told = g.D.Chip.told in
    let new = told c.read_script.new.self in
    let r = c.in-Ok.ensures in
    piece_read (told c.args.desk.now) new new _ c.in-Ok.count c.read_script.new.buf r.bytes.0 r.bytes.1 r.bytes.2
    (onward_none new) (omega (arith, r.bound))
