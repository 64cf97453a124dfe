use Rattle.keys_example.proofs.StayLemmas.{stays}
use Rattle.keys_example.proofs.serving.done.Goals as goal

pub returns-in-None : goal.returns-in-None
returns-in-None g c = stays c.args.keys.now.store (g.C.Chip.told c.args.chip.now) c.requires
