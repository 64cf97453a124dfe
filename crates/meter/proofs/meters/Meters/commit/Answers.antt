use Rattle.meter.proofs.SoundLemmas.{session_sound}
use Rattle.meter.proofs.meters.Meters.commit.Goals as goal

pub begin-requires : goal.begin-requires
begin-requires g c = record { sound = session_sound c.commit.result c.commit.ensures.calls }

pub returns-in_err-commit : goal.returns-in_err-commit
returns-in_err-commit g c = session_sound c.commit.result c.commit.ensures.calls

pub returns-in_err-begin : goal.returns-in_err-begin
returns-in_err-begin g c = session_sound c.begin.result c.begin.ensures.calls

pub returns : goal.returns
returns g c = session_sound c.begin.result c.begin.ensures.calls
