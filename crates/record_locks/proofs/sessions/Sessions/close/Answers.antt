use Rattle.std.proofs.Common.{◌<◌, None, length, refl, arith, ap}
use Rattle.bounded_vec.proofs.WriteLemmas.{item_written}
use Rattle.record_locks.proofs.SoundLemmas.{sound_less}
use Rattle.record_locks.specs.Held.{SessionSlots}
use Rattle.record_locks.proofs.sessions.Sessions.close.Goals as goal

pub invariant_of-self : goal.invariant_of-self
invariant_of-self c =
    let within : c.args.s < length c.self.inside.slots.items = omega (arith, ap (λ (v : SessionSlots). length v) c.self.view_is) in
    rw (item_written c.self.inside.slots.items c.deref_mut.result.now c.args.s None c.deref_mut.ensures.value)
    (sound_less c.self.inside.slots.items c.args.s None c.self.invariant within (λ p. omega arith) refl (λ q. omega arith))
