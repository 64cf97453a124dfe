use Rattle.std.proofs.Common.{Err, ap, ◌∙◌}
use Rattle.std.proofs.lemmas.Result.{err_from_is_err_and}
use Rattle.selective_merge.specs.Moving.{tables_of}
use Rattle.selective_merge.proofs.RoomLemmas.{merged_room, unmerged_room}
use Rattle.selective_merge.proofs.placing.merged_spot.Goals as goal

pub returns-in_err-merge_learnt : goal.returns-in_err-merge_learnt
returns-in_err-merge_learnt g c =
    let e = err_from_is_err_and c.from_residual.result c.from_residual.ensures.1 in
    rw (e.1 ∙ ap Err e.2) (unmerged_room _ c.args.unit (tables_of c.args.parts.now)
    (tables_of c.merge_learnt.new.parts) c.in_err-merge_learnt.field-0.0 (g.C.Chip.told c.args.chip.now)
    (g.C.Chip.told c.merge_learnt.new.chip) c.in_err-merge_learnt.ensures)

pub returns : goal.returns
returns g c =
    merged_room _ c.args.unit (tables_of c.args.parts.now) (tables_of c.merge_learnt.new.parts) c.in-Some.spot
    (g.C.Chip.told c.args.chip.now) (g.C.Chip.told c.merge_learnt.new.chip) c.in-Some.ensures.some
    c.in_ok-merge_learnt.ensures
