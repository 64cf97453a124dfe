use Rattle.script_run.proofs.answer.answer_line.Given as goal

abbrev pub ghost-answer : goal.ghost-answer
ghost-answer g a = g.places
