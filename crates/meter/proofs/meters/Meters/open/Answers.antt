use Rattle.meter.proofs.SoundLemmas.{session_sound}
use Rattle.meter.proofs.meters.Meters.open.Goals as goal

pub returns : goal.returns
returns g c = session_sound c.begin.result c.begin.ensures.calls
