use Rattle.std.proofs.Common.{◌∙◌}
use Rattle.lab.proofs.SuitsLemmas.{sound_of, suits_of}
use Rattle.lab.proofs.calls.called.Goals as goal

pub answer-requires : goal.answer-requires
answer-requires c = record { sound = sound_of c.args.desk.now c.args.store.now c.requires }

pub returns-in_err-line : goal.returns-in_err-line
returns-in_err-line c = suits_of c.args.desk.now c.answer.new.desk c.answer.new.store
    c.answer.ensures.sound c.answer.ensures.places

pub returns-in_err-say : goal.returns-in_err-say
returns-in_err-say c = suits_of c.args.desk.now c.say.new.desk c.answer.new.store
    c.answer.ensures.sound (c.say.ensures ∙ c.answer.ensures.places)

pub returns : goal.returns
returns c = suits_of c.args.desk.now c.say.new.desk c.answer.new.store
    c.answer.ensures.sound (c.say.ensures ∙ c.answer.ensures.places)
