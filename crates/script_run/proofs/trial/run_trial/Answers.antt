use Rattle.std.proofs.Common.{arith, subst}
use Rattle.std.proofs.lemmas.Result.{err_from_is_err_and}
use Rattle.chip_trait.specs.Told.{adds_all}
use Rattle.ipl_model.specs.Run.{after_all}
use Rattle.store_trait.proofs.OnwardLemmas.{further_onward}
use Rattle.script_run.proofs.AlongLemmas.{along_more, along_then, along_stop}
use Rattle.script_run.proofs.SaidLemmas.{along_lines}
use Rattle.script_run.proofs.CompleteLemmas.{completes_more, completes_then, completes_stop}
use Rattle.script_run.specs.TrialSource.{WordSource}
use Rattle.script_run.specs.TrialWords.{commands_from, trial_commands}
use Rattle.script_run.specs.Trial.{IsDone, IsCutShort}
use Rattle.script_run.proofs.TrialLemmas.{trial_cut, trial_lost, trial_ends, completes_saying}
use Rattle.script_run.proofs.trial.run_trial.Goals as goal

pub returns-in_err-do_all-clause-run : goal.returns-in_err-do_all-clause-run
returns-in_err-do_all-clause-run g c = λ limits state h holds.
    let stop = err_from_is_err_and c.from_residual.result c.from_residual.ensures.1 in
    let failed = c.in_err-do_all.ensures in
    let k = g.S.Store.keeping g.places g.S.Store.all in
    let old = g.D.Chip.told c.args.desk.now in
    let new = g.D.Chip.told c.do_all.new.desk in
    rw stop.1 (rw stop.2 (trial_cut k limits state (trial_commands c.args.units c.args.seed c.args.count)
    c.args.store.now h c.do_all.new.store old new _ failed.stops
    (subst
    (λ (source : WordSource).
    IsCutShort k limits state (commands_from source c.args.count) c.args.store.now h c.do_all.new.store old new)
    c.of-commands.ensures (failed.does limits state h holds))))

pub returns-in_err-do_all-clause-completes : goal.returns-in_err-do_all-clause-completes
returns-in_err-do_all-clause-completes g c = λ known limits keeps.
    completes_more (completes_stop c.from_residual.result c.from_residual.ensures.1
    (c.in_err-do_all.ensures.completes known limits keeps)) (omega arith)

pub returns-in_err-take_all-clause-run : goal.returns-in_err-take_all-clause-run
returns-in_err-take_all-clause-run g c = λ limits state h holds.
    let residual = c.from_residual-in_err-take_all in
    let stop = err_from_is_err_and residual.result residual.ensures.1 in
    let failed = c.in_err-take_all.ensures in
    let worked = c.in_ok-do_all.ensures in
    let k = g.S.Store.keeping g.places g.S.Store.all in
    let commands = trial_commands c.args.units c.args.seed c.args.count in
    let old = g.D.Chip.told c.args.desk.now in
    let between = g.D.Chip.told c.do_all.new.desk in
    let done = subst
    (λ (source : WordSource).
    IsDone k limits state (commands_from source c.args.count) c.new-tally.result c.args.store.now h
    c.do_all.new.tally c.do_all.new.store old between) c.of-commands.ensures (worked.does limits state h holds) in
    rw stop.1 (rw stop.2 (trial_lost k limits state commands c.args.store.now h c.do_all.new.store
    c.take_all.new.store old between (g.D.Chip.told c.take_all.new.desk) c.new-tally.result c.do_all.new.tally done _
    failed.stops worked.along.beside.writes
    (failed.takes limits (after_all limits state commands) (adds_all done.leaves.added h) done.holds)))

pub returns-in_err-take_all-clause-completes : goal.returns-in_err-take_all-clause-completes
returns-in_err-take_all-clause-completes g c = λ known limits keeps.
    let residual = c.from_residual-in_err-take_all in
    completes_more (completes_then (c.in_ok-do_all.ensures.completes known limits keeps) (further_onward _ _ c.in_ok-do_all.ensures.along.beside)
    (λ now. completes_stop residual.result residual.ensures.1 (c.in_err-take_all.ensures.completes known limits now)))
    (omega arith)

pub returns-clause-run : goal.returns-clause-run
returns-clause-run g c = λ limits state h holds.
    let worked = c.in_ok-do_all.ensures in
    let k = g.S.Store.keeping g.places g.S.Store.all in
    let commands = trial_commands c.args.units c.args.seed c.args.count in
    let old = g.D.Chip.told c.args.desk.now in
    let between = g.D.Chip.told c.do_all.new.desk in
    let done = subst
    (λ (source : WordSource).
    IsDone k limits state (commands_from source c.args.count) c.new-tally.result c.args.store.now h
    c.do_all.new.tally c.do_all.new.store old between) c.of-commands.ensures (worked.does limits state h holds) in
    trial_ends k limits state commands c.args.store.now h c.do_all.new.store c.take_all.new.store old between
    (g.D.Chip.told c.take_all.new.desk) (g.D.Chip.told c.say_lines.new.desk) c.new-tally.result c.do_all.new.tally
    c.new-records.result c.take_all.new.records c.summary_lines.result done
    (c.in_ok-take_all.ensures.takes limits (after_all limits state commands) (adds_all done.leaves.added h) done.holds)
    c.new-tally.ensures c.new-records.ensures.none c.summary_lines.ensures.lines c.say_lines.result c.say_lines.ensures.says
    c.say_lines.ensures.stop

pub returns-clause-completes : goal.returns-clause-completes
returns-clause-completes g c = λ known limits keeps.
    completes_saying (g.S.Store.keeping g.places known) limits _ _ _ _ _ _ _ _ _
    (completes_then (c.in_ok-do_all.ensures.completes known limits keeps) (further_onward _ _ c.in_ok-do_all.ensures.along.beside)
    (λ now. c.in_ok-take_all.ensures.completes known limits now)) c.say_lines.ensures.says c.say_lines.ensures.stop (omega arith)

pub returns-in_err-take_all-clause-along : goal.returns-in_err-take_all-clause-along
returns-in_err-take_all-clause-along g c =
    let residual = c.from_residual-in_err-take_all in
    along_more (along_then c.in_ok-do_all.ensures.along
    (along_stop residual.result residual.ensures.1 c.in_err-take_all.ensures.along)) (omega arith)

pub returns-clause-along : goal.returns-clause-along
returns-clause-along g c =
    along_lines (g.S.Store.keeping g.places g.S.Store.all) _ _ c.args.store.now c.take_all.new.store _ (g.D.Chip.told c.args.desk.now)
    (g.D.Chip.told c.take_all.new.desk) (g.D.Chip.told c.say_lines.new.desk) c.say_lines.result
    (along_then c.in_ok-do_all.ensures.along c.in_ok-take_all.ensures.along) c.say_lines.ensures.says
    c.say_lines.ensures.onward c.say_lines.ensures.stop c.say_lines.ensures.cause (omega arith)
