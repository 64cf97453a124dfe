use Rattle.chip_mem.proofs.SectorLemmas.{erased_there}
use Rattle.chip_mem.proofs.replay.put_bytes.Goals as goal

pub returns-in-Erase : goal.returns-in-Erase
returns-in-Erase c x was = erased_there c.args.event.now c.in-Erase.q c.args.p c.args.s x c.in-Erase.is c.if-q-p-2.true
