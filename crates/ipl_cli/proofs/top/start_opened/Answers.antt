use Rattle.std.proofs.Common.{ℕ, true, Err, subst}
use Rattle.std.proofs.lemmas.Result.{err_from_is_err_and}
use Rattle.ipl_cli.specs.Runs.{IsNotOpened, MakesStore}
use Rattle.ipl_cli.proofs.StartLemmas.{closed_left, closed_cause, unopened_left, unopened_ends}
use Rattle.std.proofs.Common.{refl, ◌∙◌}
use Rattle.ipl_cli.proofs.LawfulLemmas.{adds_nothing, by_no_mark, unopened_adds}
use Rattle.ipl_cli.proofs.top.start_opened.Given.{Over}
use Rattle.ipl_cli.proofs.top.start_opened.Goals as goal

pub open_over-requires : goal.open_over-requires
open_over-requires g c =
    let made = rw c.units.ensures at c.in_ok-store.ensures.closes in record { sound = made.1 }

pub returns-in_err-store-clause-leaves : goal.returns-in_err-store-clause-leaves
returns-in_err-store-clause-leaves g c =
    let e = err_from_is_err_and c.from_residual.result c.from_residual.ensures.1 in
    rw (e.1, e.2) (closed_left (g.D.Chip.told c.args.desk.now) c.args.sessions c.in_err-store.field-0.0
    (subst (λ (n : ℕ). MakesStore n (Err c.in_err-store.field-0.0)) c.units.ensures
    c.in_err-store.ensures.closes))

pub returns-in_err-store-clause-cause : goal.returns-in_err-store-clause-cause
returns-in_err-store-clause-cause g c =
    let e = err_from_is_err_and c.from_residual.result c.from_residual.ensures.1 in
    rw (e.1, e.2) (λ closes. closed_cause (g.D.Chip.told c.args.desk.now) c.args.frames c.args.sessions c.args.numbers closes
    c.in_err-store.field-0.0 (subst (λ (n : ℕ). MakesStore n (Err c.in_err-store.field-0.0))
    c.units.ensures c.in_err-store.ensures.closes))

-- it has room for as many numbers as were asked for
unopened : (g : Over) (c : goal.After-from_residual-in_err-started g) → IsNotOpened true c.args.numbers c.in_err-started.field-0.0
    (g.D.Chip.told c.args.desk.now) (g.D.Chip.told c.open_over.new.desk)
unopened g c = subst (λ (n : ℕ). IsNotOpened true n c.in_err-started.field-0.0 (g.D.Chip.told c.args.desk.now)
    (g.D.Chip.told c.open_over.new.desk)) c.in_ok-store.ensures.numbers c.in_err-started.ensures.opens

pub returns-in_err-started-clause-leaves : goal.returns-in_err-started-clause-leaves
returns-in_err-started-clause-leaves g c =
    let e = err_from_is_err_and c.from_residual-in_err-started.result
    c.from_residual-in_err-started.ensures.1 in
    rw (e.1, e.2) (unopened_left c.args.sessions c.args.numbers (g.D.Chip.told c.args.desk.now)
    (g.D.Chip.told c.open_over.new.desk) c.in_err-started.field-0.0 (unopened g c))

pub returns-in_err-started-clause-cause : goal.returns-in_err-started-clause-cause
returns-in_err-started-clause-cause g c =
    let e = err_from_is_err_and c.from_residual-in_err-started.result
    c.from_residual-in_err-started.ensures.1 in
    rw (e.1, e.2) (λ closes. unopened_ends c.args.numbers (g.D.Chip.told c.args.desk.now)
    (g.D.Chip.told c.open_over.new.desk) c.in_err-started.field-0.0 (unopened g c)
    c.args.frames c.args.sessions closes)

pub returns-in_err-started-clause-counts : goal.returns-in_err-started-clause-counts
returns-in_err-started-clause-counts g c = c.in_err-started.ensures.opens.tries.accounts.counts

pub returns-clause-starts : goal.returns-clause-starts
returns-clause-starts g c = c.in_ok-started.ensures.opens

pub returns-clause-counts : goal.returns-clause-counts
returns-clause-counts g c = c.in_ok-started.ensures.opens.tries.accounts.counts

pub returns-in_err-store-clause-lawful : goal.returns-in_err-store-clause-lawful
returns-in_err-store-clause-lawful g c =
    let e = err_from_is_err_and c.from_residual.result c.from_residual.ensures.1 in
    let old = g.D.Chip.told c.args.desk.now in rw e.1 (by_no_mark old old (adds_nothing old old refl))

pub returns-in_err-started-clause-lawful : goal.returns-in_err-started-clause-lawful
returns-in_err-started-clause-lawful g c =
    let e = err_from_is_err_and c.from_residual-in_err-started.result
    c.from_residual-in_err-started.ensures.1 in
    rw e.1 (unopened_adds c.args.numbers c.in_err-started.field-0.0 (g.D.Chip.told c.args.desk.now)
    (g.D.Chip.told c.open_over.new.desk) (unopened g c))

pub returns-clause-frames : goal.returns-clause-frames
returns-clause-frames g c = c.in_ok-started.ensures.frames ∙ c.in_ok-store.ensures.frames

pub returns-clause-sessions : goal.returns-clause-sessions
returns-clause-sessions g c = c.in_ok-started.ensures.sessions ∙ c.in_ok-store.ensures.sessions

pub returns-clause-numbers : goal.returns-clause-numbers
returns-clause-numbers g c = c.in_ok-started.ensures.numbers ∙ c.in_ok-store.ensures.numbers
