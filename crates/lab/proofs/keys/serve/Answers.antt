use Rattle.std.proofs.Common.{◌∙◌}
use Rattle.lab.proofs.SuitsLemmas.{sound_of, suits_of}
use Rattle.lab.proofs.keys.serve.Goals as goal

pub answer-requires : goal.answer-requires
answer-requires c = record { sound = sound_of c.args.desk.now c.args.keys.now.store c.requires }

pub returns-in_err-answer : goal.returns-in_err-answer
returns-in_err-answer c = suits_of c.args.desk.now c.answer.new.desk c.answer.new.keys.store
    c.answer.ensures.sound c.answer.ensures.places

pub returns : goal.returns
returns c = suits_of c.args.desk.now c.say.new.desk c.answer.new.keys.store
    c.answer.ensures.sound (c.say.ensures ∙ c.answer.ensures.places)
