use Rattle.std.proofs.Common.{◌≡◌, map, ◌∙◌, ap}
use Rattle.std.specs.FinMap.{empty}
use Rattle.ipl_model.specs.State as rules
use Rattle.ipl_model.specs.Slots.{opened}
use Rattle.ipl_model.specs.Plain.{state_of, newest_first, slot_of}
use Rattle.ipl_model.proofs.plain_model.PlainModel.copy.Goals as goal

pub returns-clause-state : goal.returns-clause-state
unfolding state_of
returns-clause-state c =
    let log : newest_first c.in_ok-committed.committed.items ≡ newest_first c.args.self.now.committed.items =
    c.in_ok-committed.ensures ∙ ap newest_first c.deref.ensures.value in
    let slots : map slot_of c.copy_slots.new.into ≡ map slot_of c.args.self.now.sessions = c.in_ok-copy_slots.ensures in
    λ i. record { map = rules.with_writes (log i) empty; sessions = opened (slots i) }
