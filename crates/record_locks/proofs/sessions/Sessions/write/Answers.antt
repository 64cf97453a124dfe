use Rattle.std.proofs.Common.{◌≡◌, ◌<◌, Option, None, length, sym, ◌∙◌, ap, subst, arith, set, get_or}
use Rattle.bounded_vec.proofs.WriteLemmas.{item_written}
use Rattle.record_locks.specs.Held.{Held, SessionSlots, held_at}
use Rattle.record_locks.specs.Locks.{AreSoundSlots, refuses_write}
use Rattle.record_locks.proofs.CallLemmas.{write_may, sound_written, lent_held}
use Rattle.record_locks.proofs.sessions.Sessions.write.Goals as goal

pub write_in-requires-clause-room : goal.write_in-requires-clause-room
write_in-requires-clause-room c =
    let slots = c.self.inside.slots.items in
    let within : c.args.s < length slots = omega (arith, ap (λ (v : SessionSlots). length v) c.self.view_is) in
    let own = get_or c.deref_mut.result.now c.args.s c.index-deref_mut-s.result in
    let held : held_at slots c.args.s ≡ own = lent_held slots c.deref_mut.result.now c.args.s c.index-deref_mut-s.result within c.deref_mut.ensures.value in
    let none : refuses_write slots c.args.s c.args.name.0 c.args.size ≡ None =
    ap (λ (v : SessionSlots). refuses_write v c.args.s c.args.name.0 c.args.size) c.self.view_is ∙ sym c.refuses_write.ensures ∙ c.in_default.is in
    write_may slots c.args.s c.args.name.0 c.args.size own c.self.invariant none held

pub invariant_of-self : goal.invariant_of-self
invariant_of-self c =
    let slots = c.self.inside.slots.items in
    let within : c.args.s < length slots = omega (arith, ap (λ (v : SessionSlots). length v) c.self.view_is) in
    let own = get_or c.deref_mut.result.now c.args.s c.index-deref_mut-s.result in
    let held : held_at slots c.args.s ≡ own = lent_held slots c.deref_mut.result.now c.args.s c.index-deref_mut-s.result within c.deref_mut.ensures.value in
    let none : refuses_write slots c.args.s c.args.name.0 c.args.size ≡ None =
    ap (λ (v : SessionSlots). refuses_write v c.args.s c.args.name.0 c.args.size) c.self.view_is ∙ sym c.refuses_write.ensures ∙ c.in_default.is in
    rw (item_written slots c.deref_mut.result.now c.args.s c.write_in.new.slot c.deref_mut.ensures.value)
    (subst (λ (o : Option Held). AreSoundSlots (set slots c.args.s o)) (sym c.write_in.ensures)
    (sound_written slots c.args.s c.args.name.0 c.args.size own c.self.invariant within none held))
