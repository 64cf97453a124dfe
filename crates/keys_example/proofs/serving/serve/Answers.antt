use Rattle.keys_example.proofs.StayLemmas.{sound_still}
use Rattle.keys_example.proofs.serving.serve.Goals as goal

pub loop-line-init : goal.loop-line-init
loop-line-init g c = record { sound = c.in_ok-keys.ensures }

pub loop-line-preserved : goal.loop-line-preserved
loop-line-preserved g c = record { sound = sound_still c.answer.ensures }
