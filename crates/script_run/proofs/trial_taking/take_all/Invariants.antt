use Rattle.script_run.proofs.trial_taking.take_all.Given as goal

abbrev pub ghost-take_below : goal.ghost-take_below
ghost-take_below g a = g.places
