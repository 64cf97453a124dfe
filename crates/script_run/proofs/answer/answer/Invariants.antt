use Rattle.script_run.proofs.answer.answer.Given as goal

abbrev pub ghost-list : goal.ghost-list
ghost-list g a = g.places

abbrev pub ghost-answer_one : goal.ghost-answer_one
ghost-answer_one g a = g.places
