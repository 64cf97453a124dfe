use Rattle.ipl_cli.proofs.top.trial_over.Given as goal

abbrev pub ghost-run_trial : goal.ghost-run_trial
ghost-run_trial g a = (g.D.Chip.told a.desk.now).places
