use Rattle.std.proofs.Common.{◌≡◌, sym, subst, rules, arith, replicate, None}
use Rattle.record_locks.specs.Locks.{AreSoundSlots}
use Rattle.record_locks.proofs.SoundLemmas.{sound_none}
use Rattle.record_locks.proofs.sessions.Sessions.reset.Goals as goal

pub invariant_of-self : goal.invariant_of-self
invariant_of-self c =
    let none : c.fill.new.slots.items ≡ replicate c.len-sessions.result None = search rules in
    subst AreSoundSlots (sym none) (sound_none c.len-sessions.result (omega (arith, c.len-sessions.ensures.count, c.self.invariant.all)))
