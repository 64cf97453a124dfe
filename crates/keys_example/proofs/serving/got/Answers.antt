use Rattle.keys_example.proofs.StayLemmas.{key_stays}
use Rattle.keys_example.proofs.serving.got.Goals as goal

pub returns-in-Ok : goal.returns-in-Ok
returns-in-Ok g c = key_stays c.get.follows.holds-at-none.calls

pub returns-in-Err : goal.returns-in-Err
returns-in-Err g c = key_stays c.get.follows.holds-at-none.calls
