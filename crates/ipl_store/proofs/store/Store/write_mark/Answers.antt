use Rattle.std.proofs.Common.{Err, Ok, ◌∙◌, ap}
use Rattle.std.proofs.lemmas.Result.{err_from_is_err_and}
use Rattle.ipl_store.proofs.ClosingLemmas.{done_marking, failed_marking, marked_roomy, marks_store}
use Rattle.ipl_store.proofs.store.Store.write_mark.Goals as goal

pub returns-in_err-written-clause-marks : goal.returns-in_err-written-clause-marks
returns-in_err-written-clause-marks g c =
    let did = c.close-written.ensures in
    let parts = c.args.self.now.transactions.pages.parts in
    let e = err_from_is_err_and c.from_residual.result c.from_residual.ensures.1 in
    let ends = failed_marking c.close-written.result c.in_err-written.field-0.0
    c.from_residual.result c.in_err-written.was (e.1 ∙ ap Err e.2) in
    marks_store c.args.self.now c.close-written.new.parts
    (g.C.Chip.told c.args.chip.now) (g.C.Chip.told c.close-written.new.chip) c.close-written.result
    c.from_residual.result ends did.steps did.tidy did.ends did.costs
    did.accounts (marked_roomy c.close-written.result parts c.close-written.new.parts did.leaves)
    did.leaves.rest did.leaves.drawn.1

pub returns-clause-marks : goal.returns-clause-marks
returns-clause-marks g c =
    let did = c.close-written.ensures in
    let parts = c.args.self.now.transactions.pages.parts in
    let ends = done_marking c.close-written.result c.in_ok-written.field-0 c.in_ok-written.was in
    marks_store c.args.self.now c.close-written.new.parts
    (g.C.Chip.told c.args.chip.now) (g.C.Chip.told c.close-written.new.chip) c.close-written.result
    (Ok tt) ends did.steps did.tidy did.ends did.costs did.accounts
    (marked_roomy c.close-written.result parts c.close-written.new.parts did.leaves)
    did.leaves.rest did.leaves.drawn.1
