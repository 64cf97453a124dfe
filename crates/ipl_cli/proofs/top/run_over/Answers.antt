use Rattle.std.proofs.Common.{Ok, Err, ap}
use Rattle.ipl_cli.proofs.CloseLemmas.{runs_over}
use Rattle.ipl_cli.proofs.top.run_over.Goals as goal

pub end_of-requires : goal.end_of-requires
end_of-requires g c = record { lasting = λ is. c.in-Err.ensures.runs.run.unspent (ap Err is) }

pub returns-in-Ok : goal.returns-in-Ok
returns-in-Ok g c = record {
  runs = runs_over c.args.closes (Ok tt) c.args.store.now c.run_closing.new.store (g.D.Chip.told c.args.desk.now)
      (g.D.Chip.told c.run_closing.new.desk) c.in-Ok.ensures.runs;
  closed = c.in-Ok.ensures.runs.closed;
  last = c.in-Ok.ensures.runs.last;
}

pub returns-in-Err : goal.returns-in-Err
returns-in-Err g c = record {
  runs = rw c.end_of.ensures
      (runs_over c.args.closes (Err c.in-Err.stop) c.args.store.now c.run_closing.new.store
      (g.D.Chip.told c.args.desk.now) (g.D.Chip.told c.run_closing.new.desk) c.in-Err.ensures.runs);
  closed = tt;
  last = tt;
}
