use Rattle.std.proofs.Common.{ℕ, Err, Ok, refl, subst}
use Rattle.std.proofs.lemmas.Result.{err_from_is_err_and}
use Rattle.store_trait.proofs.OnwardLemmas.{onward_counts, further_onward, further_then}
use Rattle.ipl_cli.proofs.StartLemmas.{opened_left, opened_cause, opened_running, opened_number}
use Rattle.std.specs.Prelude.{is_ok}
use Rattle.ipl_cli.proofs.CloseLemmas.{closed_since}
use Rattle.ipl_cli.proofs.EndLemmas.{opened_marks, opened_clean}
use Rattle.ipl_cli.proofs.LawfulLemmas.{opened_adds}
use Rattle.ipl_cli.specs.Top.{OpenedLeaves}
use Rattle.ipl_cli.proofs.top.run_opened.Goals as goal

pub run_over-requires-clause-running : goal.run_over-requires-clause-running
run_over-requires-clause-running g c = opened_running (g.D.Chip.told c.args.desk.now)
    (g.D.Chip.told c.start_opened.new.desk) c.in_ok-store.store c.in_ok-store.ensures.starts

pub run_over-requires-clause-left : goal.run_over-requires-clause-left
run_over-requires-clause-left g c = opened_number (g.D.Chip.told c.args.desk.now)
    (g.D.Chip.told c.start_opened.new.desk) c.in_ok-store.store c.in_ok-store.ensures.starts

pub returns-in_err-run_over-clause-leaves : goal.returns-in_err-run_over-clause-leaves
returns-in_err-run_over-clause-leaves g c =
    let e = err_from_is_err_and c.from_residual-in_err-run_over.result
    c.from_residual-in_err-run_over.ensures.1 in
    let old = g.D.Chip.told c.args.desk.now in
    let new = g.D.Chip.told c.run_over.new.desk in
    rw (e.1, e.2) (subst (λ (n : ℕ). OpenedLeaves n (Err c.in_err-run_over.field-0.0) old new) c.in_ok-store.ensures.sessions
    (opened_left old
    (g.D.Chip.told c.start_opened.new.desk) c.in_ok-store.store c.in_ok-store.ensures.starts
    c.run_over.new.store new
    (Err c.in_err-run_over.field-0.0) c.in_err-run_over.ensures.runs))

pub returns-in_err-run_over-clause-cause : goal.returns-in_err-run_over-clause-cause
returns-in_err-run_over-clause-cause g c =
    let e = err_from_is_err_and c.from_residual-in_err-run_over.result
    c.from_residual-in_err-run_over.ensures.1 in
    rw (e.1, e.2) (opened_cause (g.D.Chip.told c.args.desk.now)
    (g.D.Chip.told c.start_opened.new.desk) c.in_ok-store.store c.in_ok-store.ensures.starts
    c.run_over.new.store (g.D.Chip.told c.run_over.new.desk)
    c.args.frames c.args.sessions c.args.numbers c.args.closes (Err c.in_err-run_over.field-0.0)
    c.in_err-run_over.ensures.runs)

pub returns-clause-leaves : goal.returns-clause-leaves
returns-clause-leaves g c =
    let old = g.D.Chip.told c.args.desk.now in
    let new = g.D.Chip.told c.run_over.new.desk in
    subst (λ (n : ℕ). OpenedLeaves n (Ok tt) old new) c.in_ok-store.ensures.sessions
    (opened_left old (g.D.Chip.told c.start_opened.new.desk) c.in_ok-store.store c.in_ok-store.ensures.starts
    c.run_over.new.store new (Ok tt) c.in_ok-run_over.ensures.runs)

pub returns-in_err-store-clause-further : goal.returns-in_err-store-clause-further
returns-in_err-store-clause-further g c =
    let old = g.D.Chip.told c.args.desk.now in
    let mid = g.D.Chip.told c.start_opened.new.desk in
    further_onward old mid (onward_counts old mid c.start_opened.ensures.counts)

pub returns-in_err-run_over-clause-further : goal.returns-in_err-run_over-clause-further
returns-in_err-run_over-clause-further g c =
    let old = g.D.Chip.told c.args.desk.now in
    let mid = g.D.Chip.told c.start_opened.new.desk in
    further_then old mid (g.D.Chip.told c.run_over.new.desk)
    (further_onward old mid (onward_counts old mid c.start_opened.ensures.counts))
    c.in_err-run_over.ensures.runs.run.further

pub returns-clause-further : goal.returns-clause-further
returns-clause-further g c =
    let old = g.D.Chip.told c.args.desk.now in
    let mid = g.D.Chip.told c.start_opened.new.desk in
    further_then old mid (g.D.Chip.told c.run_over.new.desk)
    (further_onward old mid (onward_counts old mid c.start_opened.ensures.counts))
    c.in_ok-run_over.ensures.runs.run.further

pub returns-in_err-run_over-clause-lawful : goal.returns-in_err-run_over-clause-lawful
returns-in_err-run_over-clause-lawful g c =
    opened_adds (g.D.Chip.told c.args.desk.now) (g.D.Chip.told c.start_opened.new.desk)
    (g.D.Chip.told c.run_over.new.desk) c.in_ok-store.store c.run_over.new.store
    (is_ok c.in_err-run_over.ensures.runs.result) c.in_ok-store.ensures.starts
    c.in_err-run_over.ensures.runs.run.tidy

pub returns-clause-lawful : goal.returns-clause-lawful
returns-clause-lawful g c =
    opened_adds (g.D.Chip.told c.args.desk.now) (g.D.Chip.told c.start_opened.new.desk)
    (g.D.Chip.told c.run_over.new.desk) c.in_ok-store.store c.run_over.new.store
    (is_ok c.in_ok-run_over.ensures.runs.result) c.in_ok-store.ensures.starts
    c.in_ok-run_over.ensures.runs.run.tidy

pub returns-clause-framed : goal.returns-clause-framed
returns-clause-framed g c = record {
  store = c.in_ok-store.store;
  frames_are = c.in_ok-store.ensures.frames;
  sessions_are = c.in_ok-store.ensures.sessions;
  numbers_are = c.in_ok-store.ensures.numbers;
  started = g.D.Chip.told c.start_opened.new.desk;
  starts = c.in_ok-store.ensures.starts;
  then = c.run_over.new.store;
  last = g.D.Chip.told c.run_over.new.desk;
  does = record { over = c.in_ok-run_over.ensures.runs; last = c.in_ok-run_over.ensures.last };
  noted = refl;
}

pub returns-clause-closed : goal.returns-clause-closed
returns-clause-closed g c = λ is.
    let tidies = c.in_ok-store.ensures.starts.tries.tidy.tidies in
    let closed = c.in_ok-run_over.ensures.closed is in record {
      ends = closed_since tidies.added (g.D.Chip.told c.args.desk.now) (g.D.Chip.told c.start_opened.new.desk)
          (g.D.Chip.told c.run_over.new.desk) tidies.history closed.ends;
      marked = opened_marks (g.D.Chip.told c.args.desk.now) (g.D.Chip.told c.start_opened.new.desk)
          c.in_ok-store.store c.in_ok-store.ensures.starts (g.D.Chip.told c.run_over.new.desk) closed.marked;
      clean = opened_clean (g.D.Chip.told c.args.desk.now) (g.D.Chip.told c.start_opened.new.desk)
          c.in_ok-store.store c.in_ok-store.ensures.starts c.run_over.new.store (g.D.Chip.told c.run_over.new.desk)
          c.in_ok-run_over.ensures.runs closed.counted;
    }
