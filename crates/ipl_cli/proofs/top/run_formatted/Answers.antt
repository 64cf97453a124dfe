use Rattle.std.proofs.Common.{ℕ, Err, Ok, refl, subst}
use Rattle.std.proofs.lemmas.Result.{err_from_is_err_and}
use Rattle.store_trait.proofs.OnwardLemmas.{onward_counts, further_onward, further_then}
use Rattle.ipl_cli.proofs.AnewLemmas.{not_started_left, not_started_cause, formatted_left, formatted_cause, formatted_running, formatted_number}
use Rattle.std.specs.Prelude.{is_ok}
use Rattle.ipl_cli.proofs.LawfulLemmas.{formatted_adds, unstarted_adds, formatted_closed}
use Rattle.ipl_cli.specs.Top.{FormattedLeaves}
use Rattle.ipl_cli.proofs.top.run_formatted.Goals as goal

pub run_over-requires-clause-running : goal.run_over-requires-clause-running
run_over-requires-clause-running g c = formatted_running (g.D.Chip.told c.args.desk.now)
    (g.D.Chip.told c.start_formatted.new.desk) c.in_ok-store.store c.in_ok-store.ensures.starts

pub run_over-requires-clause-left : goal.run_over-requires-clause-left
run_over-requires-clause-left g c = formatted_number (g.D.Chip.told c.args.desk.now)
    (g.D.Chip.told c.start_formatted.new.desk) c.in_ok-store.store c.in_ok-store.ensures.starts

pub returns-in_err-store-clause-leaves : goal.returns-in_err-store-clause-leaves
returns-in_err-store-clause-leaves g c =
    let e = err_from_is_err_and c.from_residual.result c.from_residual.ensures.1 in
    rw (e.1, e.2) (not_started_left (g.D.Chip.told c.args.desk.now)
    (g.D.Chip.told c.start_formatted.new.desk) c.args.sessions c.in_err-store.field-0.0
    c.in_err-store.ensures.stops)

pub returns-in_err-store-clause-cause : goal.returns-in_err-store-clause-cause
returns-in_err-store-clause-cause g c =
    let e = err_from_is_err_and c.from_residual.result c.from_residual.ensures.1 in
    rw (e.1, e.2) (not_started_cause (g.D.Chip.told c.args.desk.now)
    (g.D.Chip.told c.start_formatted.new.desk) c.args.frames c.args.sessions c.args.numbers c.args.closes c.in_err-store.field-0.0
    c.in_err-store.ensures.stops)

pub returns-in_err-run_over-clause-leaves : goal.returns-in_err-run_over-clause-leaves
returns-in_err-run_over-clause-leaves g c =
    let e = err_from_is_err_and c.from_residual-in_err-run_over.result
    c.from_residual-in_err-run_over.ensures.1 in
    let old = g.D.Chip.told c.args.desk.now in
    let new = g.D.Chip.told c.run_over.new.desk in
    rw (e.1, e.2) (subst (λ (n : ℕ). FormattedLeaves n (Err c.in_err-run_over.field-0.0) old new) c.in_ok-store.ensures.sessions
    (formatted_left old
    (g.D.Chip.told c.start_formatted.new.desk) c.in_ok-store.store c.in_ok-store.ensures.starts
    c.run_over.new.store new
    (Err c.in_err-run_over.field-0.0) c.in_err-run_over.ensures.runs))

pub returns-in_err-run_over-clause-cause : goal.returns-in_err-run_over-clause-cause
returns-in_err-run_over-clause-cause g c =
    let e = err_from_is_err_and c.from_residual-in_err-run_over.result
    c.from_residual-in_err-run_over.ensures.1 in
    rw (e.1, e.2) (formatted_cause (g.D.Chip.told c.args.desk.now)
    (g.D.Chip.told c.start_formatted.new.desk) c.in_ok-store.store c.in_ok-store.ensures.starts
    c.run_over.new.store (g.D.Chip.told c.run_over.new.desk)
    c.args.frames c.args.sessions c.args.numbers c.args.closes (Err c.in_err-run_over.field-0.0) c.in_err-run_over.ensures.runs)

pub returns-clause-leaves : goal.returns-clause-leaves
returns-clause-leaves g c =
    let old = g.D.Chip.told c.args.desk.now in
    let new = g.D.Chip.told c.run_over.new.desk in
    subst (λ (n : ℕ). FormattedLeaves n (Ok tt) old new) c.in_ok-store.ensures.sessions
    (formatted_left old (g.D.Chip.told c.start_formatted.new.desk) c.in_ok-store.store c.in_ok-store.ensures.starts
    c.run_over.new.store new (Ok tt) c.in_ok-run_over.ensures.runs)

pub returns-in_err-store-clause-further : goal.returns-in_err-store-clause-further
returns-in_err-store-clause-further g c =
    let old = g.D.Chip.told c.args.desk.now in
    let mid = g.D.Chip.told c.start_formatted.new.desk in
    further_onward old mid (onward_counts old mid c.start_formatted.ensures.counts)

pub returns-in_err-run_over-clause-further : goal.returns-in_err-run_over-clause-further
returns-in_err-run_over-clause-further g c =
    let old = g.D.Chip.told c.args.desk.now in
    let mid = g.D.Chip.told c.start_formatted.new.desk in
    further_then old mid (g.D.Chip.told c.run_over.new.desk)
    (further_onward old mid (onward_counts old mid c.start_formatted.ensures.counts))
    c.in_err-run_over.ensures.runs.run.further

pub returns-clause-further : goal.returns-clause-further
returns-clause-further g c =
    let old = g.D.Chip.told c.args.desk.now in
    let mid = g.D.Chip.told c.start_formatted.new.desk in
    further_then old mid (g.D.Chip.told c.run_over.new.desk)
    (further_onward old mid (onward_counts old mid c.start_formatted.ensures.counts))
    c.in_ok-run_over.ensures.runs.run.further

pub returns-in_err-run_over-clause-lawful : goal.returns-in_err-run_over-clause-lawful
returns-in_err-run_over-clause-lawful g c =
    formatted_adds (g.D.Chip.told c.args.desk.now) (g.D.Chip.told c.start_formatted.new.desk)
    (g.D.Chip.told c.run_over.new.desk) c.in_ok-store.store c.run_over.new.store
    (is_ok c.in_err-run_over.ensures.runs.result) c.in_ok-store.ensures.starts
    c.in_err-run_over.ensures.runs.run.tidy

pub returns-clause-lawful : goal.returns-clause-lawful
returns-clause-lawful g c =
    formatted_adds (g.D.Chip.told c.args.desk.now) (g.D.Chip.told c.start_formatted.new.desk)
    (g.D.Chip.told c.run_over.new.desk) c.in_ok-store.store c.run_over.new.store
    (is_ok c.in_ok-run_over.ensures.runs.result) c.in_ok-store.ensures.starts
    c.in_ok-run_over.ensures.runs.run.tidy

pub returns-in_err-store-clause-lawful : goal.returns-in_err-store-clause-lawful
returns-in_err-store-clause-lawful g c =
    unstarted_adds c.in_err-store.field-0.0 (g.D.Chip.told c.args.desk.now)
    (g.D.Chip.told c.start_formatted.new.desk) c.in_err-store.ensures.stops

pub returns-clause-framed : goal.returns-clause-framed
returns-clause-framed g c = record {
  store = c.in_ok-store.store;
  frames_are = c.in_ok-store.ensures.frames;
  sessions_are = c.in_ok-store.ensures.sessions;
  numbers_are = c.in_ok-store.ensures.numbers;
  started = g.D.Chip.told c.start_formatted.new.desk;
  starts = c.in_ok-store.ensures.starts;
  then = c.run_over.new.store;
  last = g.D.Chip.told c.run_over.new.desk;
  does = record { over = c.in_ok-run_over.ensures.runs; last = c.in_ok-run_over.ensures.last };
  noted = refl;
}

pub returns-clause-closed : goal.returns-clause-closed
returns-clause-closed g c = λ is.
    formatted_closed (g.D.Chip.told c.args.desk.now) (g.D.Chip.told c.start_formatted.new.desk)
    (g.D.Chip.told c.run_over.new.desk) c.in_ok-store.store c.in_ok-store.ensures.starts (c.in_ok-run_over.ensures.closed is).ends
