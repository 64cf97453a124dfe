use Rattle.std.proofs.Common.{◌∙◌, Ok, Err, ap, subst}
use Rattle.std.proofs.lemmas.Result.{err_from_is_err_and}
use Rattle.place_taking.specs.declared.taking.Tried.{Tried}
use Rattle.place_taking.specs.Turns.{TriesNext}
use Rattle.place_taking.proofs.TurnLemmas.{tried_more}
use Rattle.place_taking.proofs.taking.take_in_turn.Goals as goal

pub returns-in_err-place : goal.returns-in_err-place
returns-in_err-place g c =
    let e = err_from_is_err_and c.from_residual.result c.from_residual.ensures.1 in
    rw (e.1 ∙ ap Err e.2) (c.loop.invariant.later (Err c.in_err-place.field-0.0) c.take_next.new.directory
    (g.C.Chip.told c.take_next.new.chip) c.in_err-place.ensures)

pub returns-in-Erased : goal.returns-in-Erased
returns-in-Erased g c =
    let now = g.C.Chip.told c.loop.chip in
    let mid = g.C.Chip.told c.take_next.new.chip in
    c.loop.invariant.later (Ok c.in-Erased.place) c.take_next.new.directory mid
    (subst (λ (tried : Tried). TriesNext c.loop.directory now (Ok tried) c.take_next.new.directory mid)
    c.in-Erased.is c.in_ok-place.ensures)

pub loop-preserved : goal.loop-preserved
loop-preserved g c =
    let now = g.C.Chip.told c.loop.chip in
    let mid = g.C.Chip.told c.take_next.new.chip in
    tried_more c.args.directory.now c.loop.directory c.take_next.new.directory c.retire.new.self
    c.in-Worn.place (g.C.Chip.told c.args.chip.now) now mid c.loop.counter c.spares-end.result
    c.loop.invariant
    (subst (λ (tried : Tried). TriesNext c.loop.directory now (Ok tried) c.take_next.new.directory mid)
    c.in-Worn.is c.in_ok-place.ensures)
    c.retire.ensures
