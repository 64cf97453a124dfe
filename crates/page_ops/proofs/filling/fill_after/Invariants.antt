use Rattle.std.specs.Prelude.{◌+◌, ◌==◌, if◌then◌else◌}
use Rattle.ipl_base.specs.Sizes.{size_in_page}
use Rattle.ipl_format.specs.Page.{value_in}
use Rattle.page_ops.proofs.FillLemmas.{IsFillSoFar}
use Rattle.page_ops.proofs.filling.fill_after.Given as goal

abbrev pub invariant-loop-k : goal.invariant-loop-k
invariant-loop-k l = IsFillSoFar (value_in l.page)
    (λ k. 1 + (if k == l.slot then l.size else size_in_page (value_in l.values k))) l.k l.fill
