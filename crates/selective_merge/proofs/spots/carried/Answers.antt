use Rattle.std.proofs.Common.{◌∙◌, refl}
use Rattle.std.proofs.lemmas.Result.{err_from_is_err_and}
use Rattle.unit_log.specs.Kept.{records_kept}
use Rattle.selective_merge.specs.Moving.{tables_of}
use Rattle.selective_merge.proofs.LearntLemmas.{counted, counted_by}
use Rattle.selective_merge.proofs.spots.carried.Goals as goal

pub returns-in_err-learn-clause-exact : goal.returns-in_err-learn-clause-exact
returns-in_err-learn-clause-exact g c = λ x told it mirrors.
    let e = err_from_is_err_and c.from_residual.result c.from_residual.ensures.1 in
    rw e.1 (e.2 ∙ c.in_err-learn.ensures.learns x told it (tables_of c.args.parts.now)
    (record { mirrors = mirrors; directory_is = refl; overflow_is = refl }))

pub returns-clause-exact : goal.returns-clause-exact
returns-clause-exact g c = λ x told it mirrors.
    let t = tables_of c.args.parts.now in
    let read = c.in_ok-learn.ensures in
    let scratch = c.learn.new.parts.scratch in
    counted scratch.home (it.units c.args.unit) c.args.unit t.active (records_kept scratch.sectors) c.packed_count.result
    (counted_by t (tables_of c.learn.new.parts) (records_kept scratch.sectors) c.packed_count.result read.same
    c.packed_count.ensures.count)
    (read.learns x told it t (record { mirrors = mirrors; directory_is = refl; overflow_is = refl }))
