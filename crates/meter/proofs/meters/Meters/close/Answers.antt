use Rattle.meter.proofs.SoundLemmas.{sound_still, session_sound, lent_again}
use Rattle.meter.proofs.meters.Meters.close.Goals as goal

pub close-requires : goal.close-requires
close-requires g c = record { sound = session_sound c.commit.result c.commit.ensures.calls }

pub into_memory-requires : goal.into_memory-requires
into_memory-requires g c =
    let did = c.close.ensures.closes in
    ((g.C.Chip.told c.close.new.chip).places, sound_still did.2.sound did.2.counts)

pub returns : goal.returns
returns g c =
    let did = c.close.ensures.closes in
    let places = (g.C.Chip.told c.close.new.chip).places in
    lent_again places c.into_memory.result
    (c.into_memory.ensures.memory places (sound_still did.2.sound did.2.counts))
