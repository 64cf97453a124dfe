use Rattle.std.proofs.Common.{◌∙◌, ap, Err, slice_index, subst, sym}
use Rattle.std.proofs.lemmas.Result.{err_from_is_err_and}
use Rattle.ipl_meaning.specs.Tables.{Tables}
use Rattle.overflow.specs.Lists.{spots_in}
use Rattle.unit_log.specs.Looks.{IsLogRead}
use Rattle.unit_log.specs.Kept.{records_kept}
use Rattle.selective_merge.specs.Merging.{MergesUnit}
use Rattle.selective_merge.specs.Often.{all_of, base_of, log_of}
use Rattle.selective_merge.specs.Moving.{tables_of}
use Rattle.selective_merge.proofs.LearntLemmas.{learnt_behind}
use Rattle.selective_merge.proofs.UnitMergeLemmas.{merged_unlearnt, merges_behind}
use Rattle.selective_merge.proofs.merging.merge.Goals as goal

pub returns-in_err-learn : goal.returns-in_err-learn
returns-in_err-learn g c =
    let old = g.C.Chip.told c.args.chip.now in
    let new = g.C.Chip.told c.learn.new.chip in
    let t = tables_of c.args.parts.now in
    let scratch = c.learn.new.parts.scratch in
    let read = c.in_err-learn.ensures in
    let fault = c.in_err-learn.field-0.0 in
    let e = err_from_is_err_and c.from_residual.result c.from_residual.ensures.1 in
    rw (e.1 ∙ ap Err e.2) (subst (λ (after : Tables). MergesUnit (all_of t c.args.unit) c.args.unit t after (Err fault) old new)
    (sym read.same) (merged_unlearnt c.args.unit t scratch.home (records_kept scratch.sectors) fault old new c.requires.known
    read.looks.reads read.looks.cause read.learns read.often))

pub returns : goal.returns
returns g c =
    let old = g.C.Chip.told c.args.chip.now in
    let mid = g.C.Chip.told c.learn.new.chip in
    let new = g.C.Chip.told c.merge_learnt.new.chip in
    let after = tables_of c.merge_learnt.new.parts in
    let t = tables_of c.args.parts.now in
    let read = c.in_ok-learn.ensures in
    merges_behind (IsLogRead (slice_index t.places.current c.args.unit) (spots_in t.overflow c.args.unit))
    c.args.unit t after c.merge_learnt.result old mid new (log_of t c.args.unit)
    (base_of t c.args.unit) read.looks.reads read.often
    (subst (λ (s : Tables). MergesUnit (base_of s c.args.unit) c.args.unit s after c.merge_learnt.result mid new) read.same
    c.merge_learnt.ensures)

pub merge_learnt-requires-clause-learnt : goal.merge_learnt-requires-clause-learnt
merge_learnt-requires-clause-learnt g c =
    let read = c.in_ok-learn.ensures in
    let scratch = c.learn.new.parts.scratch in
    learnt_behind _ c.args.unit (tables_of c.args.parts.now) (tables_of c.learn.new.parts)
    (g.C.Chip.told c.args.chip.now) (g.C.Chip.told c.learn.new.chip) scratch.home (records_kept scratch.sectors) read.looks.reads
    read.same read.learns read.stands
