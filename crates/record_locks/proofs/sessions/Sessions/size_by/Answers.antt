use Rattle.std.proofs.Common.{◌≡◌, ◌<◌, Option, length, ◌∙◌, ap, subst, sym, arith}
use Rattle.record_locks.specs.Held.{Held, SessionSlots, held_at, slot_peaks}
use Rattle.record_locks.specs.Locks.{AreSoundSlots}
use Rattle.record_locks.proofs.TotalLemmas.{one_writer}
use Rattle.record_locks.proofs.PeakLemmas.{one_is_all}
use Rattle.record_locks.proofs.CallLemmas.{lent_held}
use Rattle.record_locks.proofs.sessions.Sessions.size_by.Goals as goal

pub returns : goal.returns
returns c =
    let slots = c.self.inside.slots.items in
    let within : c.args.s < length slots = omega (arith, ap (λ (v : SessionSlots). length v) c.self.view_is) in
    let held : held_at c.args.self.now c.args.s ≡ c.index-deref-s.result =
    ap (λ (v : SessionSlots). held_at v c.args.s) (sym c.self.view_is)
    ∙ lent_held slots c.deref.result.now c.args.s c.index-deref-s.result within c.deref.ensures.0 ∙ sym c.index-deref-s.is in
    let once = one_writer c.args.self.now (subst AreSoundSlots c.self.view_is c.self.invariant) in
    omega (
      arith,
      c.saturating_sub.ensures,
      c.peak_in_slot.ensures.peak,
      ap (λ (o : Option Held). slot_peaks o c.args.name.0) held,
      one_is_all c.args.self.now c.args.s c.args.name.0 once c.requires.wrote,
    )
