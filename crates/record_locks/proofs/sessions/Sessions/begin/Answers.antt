use Rattle.std.proofs.Common.{◌<◌, Some, length, ap, subst, sym, refl, arith}
use Rattle.bounded_vec.proofs.WriteLemmas.{item_written}
use Rattle.record_locks.specs.Held.{Held, slot_peaks, SessionSlots}
use Rattle.record_locks.specs.Locks.{IsSized, written_in}
use Rattle.record_locks.proofs.SoundLemmas.{sound_less}
use Rattle.record_locks.proofs.sessions.Sessions.begin.Goals as goal

pub invariant_of-self : goal.invariant_of-self
invariant_of-self c =
    let within : c.args.s < length c.self.inside.slots.items = omega (arith, ap (λ (v : SessionSlots). length v) c.self.view_is) in
    rw (item_written c.self.inside.slots.items c.deref_mut.result.now c.args.s (Some c.new.result) c.deref_mut.ensures.value)
    (sound_less c.self.inside.slots.items c.args.s (Some c.new.result) c.self.invariant within
    (λ p. omega (arith, ap (λ (h : Held). written_in p (Some h)) c.new.ensures))
    (subst (λ (h : Held). IsSized (Some h)) (sym c.new.ensures) refl)
    (λ q. omega (arith, ap (λ (h : Held). slot_peaks (Some h) q) c.new.ensures)))
