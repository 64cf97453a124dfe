use Rattle.std.proofs.Common.{◌≡◌, ◌<◌, Option, None, length, sym, ◌∙◌, ap, subst, arith, set, get_or}
use Rattle.bounded_vec.proofs.WriteLemmas.{item_written}
use Rattle.record_locks.specs.Held.{Held, SessionSlots, held_at}
use Rattle.record_locks.specs.Locks.{AreSoundSlots, refuses_share}
use Rattle.record_locks.proofs.CallLemmas.{share_may, sound_shared, lent_held}
use Rattle.record_locks.proofs.sessions.Sessions.share.Goals as goal

pub share_in-requires : goal.share_in-requires
share_in-requires c =
    let slots = c.self.inside.slots.items in
    let within : c.args.s < length slots = omega (arith, ap (λ (v : SessionSlots). length v) c.self.view_is) in
    let own = get_or c.deref_mut.result.now c.args.s c.index-deref_mut-s.result in
    let held : held_at slots c.args.s ≡ own = lent_held slots c.deref_mut.result.now c.args.s c.index-deref_mut-s.result within c.deref_mut.ensures.value in
    let none : refuses_share slots c.args.s c.args.name.0 ≡ None =
    ap (λ (v : SessionSlots). refuses_share v c.args.s c.args.name.0) c.self.view_is ∙ sym c.refuses_share.ensures ∙ c.in_default.is in
    share_may slots c.args.s c.args.name.0 own none held

pub invariant_of-self : goal.invariant_of-self
invariant_of-self c =
    let slots = c.self.inside.slots.items in
    let within : c.args.s < length slots = omega (arith, ap (λ (v : SessionSlots). length v) c.self.view_is) in
    let own = get_or c.deref_mut.result.now c.args.s c.index-deref_mut-s.result in
    let held : held_at slots c.args.s ≡ own = lent_held slots c.deref_mut.result.now c.args.s c.index-deref_mut-s.result within c.deref_mut.ensures.value in
    rw (item_written slots c.deref_mut.result.now c.args.s c.share_in.new.slot c.deref_mut.ensures.value)
    (subst (λ (o : Option Held). AreSoundSlots (set slots c.args.s o)) (sym c.share_in.ensures)
    (sound_shared slots c.args.s c.args.name.0 own c.self.invariant within held))
