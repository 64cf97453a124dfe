use Rattle.std.proofs.Common.{◌≤◌, ◌∙◌, ap, sym, subst, arith}
use Rattle.std.specs.List.{sum_by}
use Rattle.ipl_model.specs.Peaks.{weights}
use Rattle.record_locks.specs.Held.{SessionSlots, peaks_in, slot_weight}
use Rattle.record_locks.specs.Locks.{AreSoundSlots}
use Rattle.record_locks.proofs.PeakLemmas.{slots_weigh}
use Rattle.record_locks.proofs.sessions.Sessions.pending.Goals as goal

pub returns-clause-weight : goal.returns-clause-weight
returns-clause-weight c =
    let sound = subst AreSoundSlots c.self.view_is c.self.invariant in
    c.weigh_pending.ensures.weight ∙ ap (λ (slots : SessionSlots). sum_by (λ o. slot_weight o c.args.unit) slots) (c.deref.ensures.0 ∙ c.self.view_is)
    ∙ sym (slots_weigh c.args.self.now c.args.unit sound.once)

pub returns-clause-few : goal.returns-clause-few
returns-clause-few c =
    let sound = subst AreSoundSlots c.self.view_is c.self.invariant in
    let few : weights (peaks_in c.args.self.now) c.args.unit ≤ 48 = sound.few c.args.unit in
    let is = c.weigh_pending.ensures.weight ∙ ap (λ (slots : SessionSlots). sum_by (λ o. slot_weight o c.args.unit) slots) (c.deref.ensures.0 ∙ c.self.view_is)
    ∙ sym (slots_weigh c.args.self.now c.args.unit sound.once) in
    omega (arith, few, is)
