use Rattle.script_run.proofs.answer.list.Given as goal

abbrev pub ghost-say_rows : goal.ghost-say_rows
ghost-say_rows g a = g.places
