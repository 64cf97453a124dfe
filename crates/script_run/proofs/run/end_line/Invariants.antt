use Rattle.script_run.proofs.run.end_line.Given as goal

abbrev pub ghost-answer_line : goal.ghost-answer_line
ghost-answer_line g a = g.places
