use Rattle.std.proofs.Common.{arith}
use Rattle.page_frames.proofs.WrittenLemmas.{writers_first, writers_done}
use Rattle.page_frames.proofs.sizes.written_slots.Goals as goal

pub loop-s-init : goal.loop-s-init
loop-s-init c = writers_first c.args.sessions.now c.args.first c.facts.ensures.all

pub returns-clause-none : goal.returns-clause-none
returns-clause-none c =
    writers_done c.args.sessions.now c.args.first c.loop-s.s c.loop-s.writers
    (omega (arith, c.loop-s-test.false, c.count-s-end.ensures.count)) c.loop-s.invariant
