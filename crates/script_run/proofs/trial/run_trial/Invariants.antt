use Rattle.script_run.proofs.trial.run_trial.Given as goal

abbrev pub ghost-do_all : goal.ghost-do_all
ghost-do_all g a = g.places

abbrev pub ghost-take_all : goal.ghost-take_all
ghost-take_all g a = g.places
