use Rattle.std.proofs.Common.{◌<◌, take, refl}
use Rattle.txn_status.specs.Marking.{mark_sector}
use Rattle.selective_merge.specs.Moving.{tables_of}
use Rattle.txn_status.proofs.RoomLemmas.{room_left}
use Rattle.restart.proofs.CloseCleanLemmas.{mark_tidies}
use Rattle.restart.proofs.MarkLemmas.{mark_closes, mark_ends}
use Rattle.restart.proofs.closing.write_mark.Goals as goal

pub returns-clause-steps : goal.returns-clause-steps
returns-clause-steps g c =
    let old = g.C.Chip.told c.args.chip.now in
    let new = g.C.Chip.told c.mark.new.chip in
    let t = tables_of c.args.parts.now in
    let payload = take c.known_units-len.result c.known_units-len.new.payload in
    let room : t.status.first < 256 = (room_left t.status c.requires.room).0 in
    mark_closes old.places t c.mark.new.self c.mark.new.counter payload c.mark.result old new c.requires.known
    c.facts.ensures.least room c.known_units-len.ensures.spelled c.known_units-len.ensures.known
    c.mark.ensures.marked.done c.mark.ensures.writes.accounts.cause c.mark.ensures.steps

pub returns-clause-tidy : goal.returns-clause-tidy
returns-clause-tidy g c =
    let old = g.C.Chip.told c.args.chip.now in
    let new = g.C.Chip.told c.mark.new.chip in
    let t = tables_of c.args.parts.now in
    let room : t.status.first < 256 = (room_left t.status c.requires.room).0 in
    mark_tidies old.places t c.mark.new.self c.mark.new.counter c.mark.result old new c.requires.known room
    c.mark.ensures.marked.done c.mark.ensures.writes.accounts.cause c.mark.ensures.writes.tidy

pub returns-clause-ends : goal.returns-clause-ends
returns-clause-ends g c =
    let status = c.args.parts.now.status in
    let payload = take c.known_units-len.result c.known_units-len.new.payload in
    mark_ends status.place status.first (mark_sector status.generation c.args.parts.now.counter payload) c.mark.result
    (g.C.Chip.told c.args.chip.now) (g.C.Chip.told c.mark.new.chip) refl c.mark.ensures.adds
