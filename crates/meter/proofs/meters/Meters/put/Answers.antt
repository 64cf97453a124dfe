use Rattle.meter.proofs.SoundLemmas.{key_sound}
use Rattle.meter.proofs.meters.Meters.put.Goals as goal

pub commit-requires : goal.commit-requires
commit-requires g c = key_sound c.put.ensures.calls

pub returns-in_err-put : goal.returns-in_err-put
returns-in_err-put g c = key_sound c.put.ensures.calls

pub returns : goal.returns
returns g c = c.commit.ensures
