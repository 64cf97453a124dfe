use Rattle.std.proofs.Common.{◌≡◌, sym, subst, rules, replicate, None}
use Rattle.record_locks.specs.Locks.{AreSoundSlots}
use Rattle.record_locks.proofs.SoundLemmas.{sound_none}
use Rattle.record_locks.proofs.sessions.Sessions.new.Goals as goal

pub invariant_of-result : goal.invariant_of-result
invariant_of-result c =
    let none : c.fill.new.slots.items ≡ replicate c.args.sessions None = search rules in
    subst AreSoundSlots (sym none) (sound_none c.args.sessions c.requires)
