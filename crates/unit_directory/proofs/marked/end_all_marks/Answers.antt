use Rattle.std.proofs.Common.{◌≡◌, ◌<◌, ◌+◌, ℕ, suc, List, length, get_or, slice_set, ◌∙◌, ap, arith}
use Rattle.ipl_meaning.specs.Tables.{unmarked_written}
use Rattle.unit_directory.proofs.MarkedLemmas.{changed, changed_next, changed_all}
use Rattle.unit_directory.proofs.marked.end_all_marks.Goals as goal

pub loop-i-preserved : goal.loop-i-preserved
loop-i-preserved c =
    let all = c.args.all.now in
    let i = c.loop-i.i in
    let within : i < length all = omega (arith, c.loop-i-test.true) in
    let next : suc i ≡ i + 1 = omega arith in
    ap (slice_set c.loop-i.all i) c.unmarked.ensures
    ∙ ap (λ (l : List ℕ). slice_set l i (unmarked_written (get_or l i 0))) c.loop-i.invariant
    ∙ changed_next unmarked_written i 0 all within
    ∙ ap (λ (n : ℕ). changed unmarked_written n all) next

pub returns : goal.returns
returns c =
    let all : c.loop-i.i ≡ length c.args.all.now = omega arith in
    c.loop-i.invariant
    ∙ ap (λ (n : ℕ). changed unmarked_written n c.args.all.now) all
    ∙ changed_all unmarked_written c.args.all.now
