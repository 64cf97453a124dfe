use Rattle.std.proofs.Common.{ℕ, Err, Ok, refl, subst}
use Rattle.std.proofs.lemmas.Result.{err_from_is_err_and}
use Rattle.store_trait.proofs.OnwardLemmas.{onward_counts, onward_then, further_onward}
use Rattle.ipl_cli.proofs.AnewLemmas.{formatted_running, formatted_number}
use Rattle.ipl_cli.proofs.TrialLemmas.{trial_not_started, trial_not_started_cause, tried_left, tried_cause}
use Rattle.std.specs.Prelude.{is_ok}
use Rattle.ipl_cli.proofs.LawfulLemmas.{formatted_adds, unstarted_adds}
use Rattle.ipl_cli.specs.Trials.{TrialLeaves}
use Rattle.ipl_cli.proofs.top.trial.Goals as goal

pub trial_over-requires-clause-running : goal.trial_over-requires-clause-running
trial_over-requires-clause-running g c = formatted_running (g.D.Chip.told c.args.desk.now)
    (g.D.Chip.told c.start_formatted.new.desk) c.in_ok-store.store c.in_ok-store.ensures.starts

pub trial_over-requires-clause-left : goal.trial_over-requires-clause-left
trial_over-requires-clause-left g c = formatted_number (g.D.Chip.told c.args.desk.now)
    (g.D.Chip.told c.start_formatted.new.desk) c.in_ok-store.store c.in_ok-store.ensures.starts

pub returns-in_err-store-clause-leaves : goal.returns-in_err-store-clause-leaves
returns-in_err-store-clause-leaves g c =
    let e = err_from_is_err_and c.from_residual.result c.from_residual.ensures.1 in
    rw (e.1, e.2) (trial_not_started (g.D.Chip.told c.args.desk.now)
    (g.D.Chip.told c.start_formatted.new.desk) c.args.seed c.args.count c.args.sessions c.in_err-store.field-0.0
    c.in_err-store.ensures.stops)

pub returns-in_err-store-clause-cause : goal.returns-in_err-store-clause-cause
returns-in_err-store-clause-cause g c =
    let e = err_from_is_err_and c.from_residual.result c.from_residual.ensures.1 in
    rw (e.1, e.2) (trial_not_started_cause (g.D.Chip.told c.args.desk.now)
    (g.D.Chip.told c.start_formatted.new.desk) c.args.seed c.args.count c.args.frames c.args.sessions c.args.numbers
    c.in_err-store.field-0.0 c.in_err-store.ensures.stops)

pub returns-in_err-trial_over-clause-leaves : goal.returns-in_err-trial_over-clause-leaves
returns-in_err-trial_over-clause-leaves g c =
    let e = err_from_is_err_and c.from_residual-in_err-trial_over.result
    c.from_residual-in_err-trial_over.ensures.1 in
    let old = g.D.Chip.told c.args.desk.now in
    let new = g.D.Chip.told c.trial_over.new.desk in
    rw (e.1, e.2) (subst (λ (n : ℕ). TrialLeaves n c.args.seed c.args.count (Err c.in_err-trial_over.field-0.0) old new)
    c.in_ok-store.ensures.sessions
    (tried_left old (g.D.Chip.told c.start_formatted.new.desk) c.in_ok-store.store c.in_ok-store.ensures.starts
    c.trial_over.new.store new c.args.seed c.args.count (Err c.in_err-trial_over.field-0.0)
    c.in_err-trial_over.ensures.tries))

pub returns-in_err-trial_over-clause-cause : goal.returns-in_err-trial_over-clause-cause
returns-in_err-trial_over-clause-cause g c =
    let e = err_from_is_err_and c.from_residual-in_err-trial_over.result
    c.from_residual-in_err-trial_over.ensures.1 in
    rw (e.1, e.2) (tried_cause (g.D.Chip.told c.args.desk.now)
    (g.D.Chip.told c.start_formatted.new.desk) c.in_ok-store.store c.in_ok-store.ensures.starts
    c.trial_over.new.store (g.D.Chip.told c.trial_over.new.desk)
    c.args.seed c.args.count c.args.frames c.args.sessions c.args.numbers (Err c.in_err-trial_over.field-0.0)
    c.in_err-trial_over.ensures.tries)

pub returns-clause-leaves : goal.returns-clause-leaves
returns-clause-leaves g c =
    let old = g.D.Chip.told c.args.desk.now in
    let new = g.D.Chip.told c.trial_over.new.desk in
    subst (λ (n : ℕ). TrialLeaves n c.args.seed c.args.count (Ok tt) old new) c.in_ok-store.ensures.sessions
    (tried_left old (g.D.Chip.told c.start_formatted.new.desk) c.in_ok-store.store c.in_ok-store.ensures.starts
    c.trial_over.new.store new c.args.seed c.args.count (Ok tt) c.in_ok-trial_over.ensures.tries)

pub returns-in_err-store-clause-further : goal.returns-in_err-store-clause-further
returns-in_err-store-clause-further g c =
    let old = g.D.Chip.told c.args.desk.now in
    let mid = g.D.Chip.told c.start_formatted.new.desk in
    further_onward old mid (onward_counts old mid c.start_formatted.ensures.counts)

pub returns-in_err-trial_over-clause-further : goal.returns-in_err-trial_over-clause-further
returns-in_err-trial_over-clause-further g c =
    let old = g.D.Chip.told c.args.desk.now in
    let mid = g.D.Chip.told c.start_formatted.new.desk in
    let new = g.D.Chip.told c.trial_over.new.desk in
    further_onward old new (onward_then old mid new
    (onward_counts old mid c.start_formatted.ensures.counts)
    c.in_err-trial_over.ensures.tries.onward)

pub returns-clause-further : goal.returns-clause-further
returns-clause-further g c =
    let old = g.D.Chip.told c.args.desk.now in
    let mid = g.D.Chip.told c.start_formatted.new.desk in
    let new = g.D.Chip.told c.trial_over.new.desk in
    further_onward old new (onward_then old mid new
    (onward_counts old mid c.start_formatted.ensures.counts)
    c.in_ok-trial_over.ensures.tries.onward)

pub returns-in_err-store-clause-lawful : goal.returns-in_err-store-clause-lawful
returns-in_err-store-clause-lawful g c =
    unstarted_adds c.in_err-store.field-0.0 (g.D.Chip.told c.args.desk.now)
    (g.D.Chip.told c.start_formatted.new.desk) c.in_err-store.ensures.stops

pub returns-in_err-trial_over-clause-lawful : goal.returns-in_err-trial_over-clause-lawful
returns-in_err-trial_over-clause-lawful g c =
    formatted_adds (g.D.Chip.told c.args.desk.now) (g.D.Chip.told c.start_formatted.new.desk)
    (g.D.Chip.told c.trial_over.new.desk) c.in_ok-store.store c.trial_over.new.store
    (is_ok c.in_err-trial_over.ensures.tries.result) c.in_ok-store.ensures.starts
    c.in_err-trial_over.ensures.tries.tidy

pub returns-clause-lawful : goal.returns-clause-lawful
returns-clause-lawful g c =
    formatted_adds (g.D.Chip.told c.args.desk.now) (g.D.Chip.told c.start_formatted.new.desk)
    (g.D.Chip.told c.trial_over.new.desk) c.in_ok-store.store c.trial_over.new.store
    (is_ok c.in_ok-trial_over.ensures.tries.result) c.in_ok-store.ensures.starts
    c.in_ok-trial_over.ensures.tries.tidy

pub returns-clause-framed : goal.returns-clause-framed
returns-clause-framed g c = record {
  store = c.in_ok-store.store;
  frames_are = c.in_ok-store.ensures.frames;
  sessions_are = c.in_ok-store.ensures.sessions;
  numbers_are = c.in_ok-store.ensures.numbers;
  started = g.D.Chip.told c.start_formatted.new.desk;
  starts = c.in_ok-store.ensures.starts;
  then = c.trial_over.new.store;
  last = g.D.Chip.told c.trial_over.new.desk;
  does = c.in_ok-trial_over.ensures.tries;
  noted = refl;
}
