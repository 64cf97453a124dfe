use Rattle.script_run.proofs.run.take_next.Given as goal

abbrev pub ghost-take_piece : goal.ghost-take_piece
ghost-take_piece g a = g.places
