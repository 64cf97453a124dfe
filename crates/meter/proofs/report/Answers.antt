use Rattle.meter.proofs.report.Goals as goal

pub loop-meter-init : goal.loop-meter-init
loop-meter-init g c = record { sound = c.in_ok-meters.ensures }

pub loop-meter-preserved : goal.loop-meter-preserved
loop-meter-preserved g c = record { sound = c.say.ensures }

pub say-requires : goal.say-requires
say-requires g c = c.loop-meter.invariant.sound

pub close-requires : goal.close-requires
close-requires g c = c.loop-meter.invariant.sound
