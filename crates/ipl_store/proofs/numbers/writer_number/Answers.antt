use Rattle.record_locks.specs.Held.{number_of, written_of}
use Rattle.ipl_store.proofs.WriterLemmas.{idle_number, own_number}
use Rattle.ipl_store.proofs.numbers.writer_number.Goals as goal

pub returns-then-is_empty : goal.returns-then-is_empty
returns-then-is_empty c =
    let slots = c.args.sessions.now in
    idle_number c.written.result.now (written_of slots c.args.s) (number_of slots c.args.s)
    c.is_empty.result c.written.ensures.names c.is_empty.ensures c.if-is_empty.true

pub returns : goal.returns
returns c =
    let slots = c.args.sessions.now in
    rw c.number.ensures
    (own_number c.written.result.now (written_of slots c.args.s) (number_of slots c.args.s)
    c.is_empty.result c.written.ensures.names c.is_empty.ensures c.if-is_empty.false)
