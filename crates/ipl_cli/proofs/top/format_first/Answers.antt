use Rattle.ipl_cli.proofs.AnewLemmas.{was_formatted, not_formatted}
use Rattle.ipl_cli.proofs.top.format_first.Goals as goal

pub returns-in-Ok : goal.returns-in-Ok
returns-in-Ok g c = record {
  formats = was_formatted (g.D.Chip.told c.args.desk.now) (g.D.Chip.told c.format.new.chip)
      c.requires.fits c.format.ensures.counts c.in-Ok.ensures.formats c.in-Ok.ensures.contents;
}

pub returns-in-Err : goal.returns-in-Err
returns-in-Err g c = record {
  formats = rw c.format_end.ensures
      (not_formatted (g.D.Chip.told c.args.desk.now) (g.D.Chip.told c.format.new.chip)
      c.requires.fits c.format.ensures.counts c.in-Err.fault c.in-Err.ensures.geometry.0
      c.in-Err.ensures.fails.stopped c.in-Err.ensures.fails.worn c.in-Err.ensures.formats);
}
