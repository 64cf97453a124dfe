use Rattle.meter.proofs.SoundLemmas.{key_sound}
use Rattle.meter.proofs.meters.Meters.last.Goals as goal

pub returns : goal.returns
returns g c = key_sound c.get.follows.holds-at-none.calls
