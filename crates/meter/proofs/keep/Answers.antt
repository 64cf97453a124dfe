use Rattle.meter.proofs.keep.Goals as goal

pub loop-line-init : goal.loop-line-init
loop-line-init g c = record { sound = c.in_ok-meters.ensures }

pub loop-line-preserved : goal.loop-line-preserved
loop-line-preserved g c = record { sound = c.take-taken.ensures }

pub take-taken-requires : goal.take-taken-requires
take-taken-requires g c = c.loop-line.invariant.sound

pub close-requires : goal.close-requires
close-requires g c = c.loop-line.invariant.sound
