use Rattle.std.proofs.Common.{map, ◌∙◌, ap, sym}
use Rattle.ipl_model.specs.Plain.{state_of, slot_of}
use Rattle.ipl_model.proofs.RuleSlotLemmas.{opened_at}
use Rattle.ipl_model.proofs.SlotLemmas.{slot_read, past_slots}
use Rattle.ipl_model.proofs.plain_model.PlainModel.session.Goals as goal

pub returns-in-None : goal.returns-in-None
unfolding state_of
returns-in-None c =
    sym (opened_at (map slot_of c.args.self.now.sessions) c.args.s ∙ past_slots c.args.self.now.sessions c.args.s c.in-None.ensures.lookup.3)

pub returns-in-Some : goal.returns-in-Some
unfolding state_of
returns-in-Some c =
    ap slot_of c.as_ref.ensures.value
    ∙ sym (opened_at (map slot_of c.args.self.now.sessions) c.args.s
    ∙ slot_read c.args.self.now.sessions c.args.s c.in-Some.slot.now c.in-Some.ensures.lookup.3.0 c.in-Some.ensures.lookup.1)
