use Rattle.std.proofs.Common.{Err, Ok, ap}
use Rattle.store_trait.proofs.DrawLemmas.{numbers_last}
use Rattle.ipl_cli.proofs.TrialLemmas.{tries_over}
use Rattle.ipl_cli.proofs.top.trial_over.Goals as goal

pub end_of-requires : goal.end_of-requires
end_of-requires g c =
    record { lasting = λ is. numbers_last c.in-Err.ensures.along.draws c.requires.left (ap Err is) }

pub returns-in-Ok : goal.returns-in-Ok
returns-in-Ok g c = record {
  tries = tries_over c.args.seed c.args.count c.unit_count-units.result c.args.store.now
      c.run_trial.new.store (g.D.Chip.told c.args.desk.now) (g.D.Chip.told c.run_trial.new.desk)
      c.unit_count-units.ensures c.requires.left (Ok tt) c.in-Ok.ensures.run
      c.in-Ok.ensures.along c.in-Ok.ensures.completes tt;
}

pub returns-in-Err : goal.returns-in-Err
returns-in-Err g c = record {
  tries = rw c.end_of.ensures
      (tries_over c.args.seed c.args.count c.unit_count-units.result c.args.store.now
      c.run_trial.new.store (g.D.Chip.told c.args.desk.now) (g.D.Chip.told c.run_trial.new.desk)
      c.unit_count-units.ensures c.requires.left (Err c.in-Err.stop)
      c.in-Err.ensures.run c.in-Err.ensures.along c.in-Err.ensures.completes
      c.in-Err.ensures.stops);
}
