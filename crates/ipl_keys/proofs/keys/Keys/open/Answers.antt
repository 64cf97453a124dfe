use Rattle.std.proofs.Common.{Err, Ok}
use Rattle.ipl_store.specs.Calls.{numbers_of}
use Rattle.ipl_store.specs.Memories.{places_of}
use Rattle.ipl_keys.proofs.OpenLemmas.{opens_keys}
use Rattle.ipl_keys.proofs.keys.Keys.open.Goals as goal

pub returns-in-Ok-clause-keys : goal.returns-in-Ok-clause-keys
returns-in-Ok-clause-keys g c =
    opens_keys (places_of c.args.memory) (numbers_of c.args.memory.store) (g.C.Chip.told c.args.chip.now)
    (g.C.Chip.told c.open.new.chip) _ c.in-Ok.ensures.opens

pub returns-in-Err-clause-keys : goal.returns-in-Err-clause-keys
returns-in-Err-clause-keys g c =
    opens_keys (places_of c.args.memory) (numbers_of c.args.memory.store) (g.C.Chip.told c.args.chip.now)
    (g.C.Chip.told c.open.new.chip) (Err c.in-Err.unopened) c.in-Err.ensures.opens
