use Rattle.ipl_cli.proofs.top.run_closing.Given as goal

abbrev pub ghost-run_script : goal.ghost-run_script
ghost-run_script g a = (g.D.Chip.told a.desk.now).places
