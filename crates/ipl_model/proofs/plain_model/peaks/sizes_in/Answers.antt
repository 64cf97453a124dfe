use Rattle.std.proofs.Common.{◌%◌, set, List, ℕ, ◌∙◌, ap₂}
use Rattle.ipl_base.specs.declared.limits.TheConstants.{SLOTS}
use Rattle.ipl_model.proofs.PeakLemmas.{sizes_none, log_sizes_more, log_sizes_same}
use Rattle.ipl_model.proofs.plain_model.peaks.sizes_in.Goals.{then-write-page, else-write-page}
use Rattle.ipl_model.proofs.plain_model.peaks.sizes_in.Goals as goal

pub loop-write-init : goal.loop-write-init
loop-write-init c = sizes_none c.args.page

pub loop-write-preserved : goal.loop-write-preserved
loop-write-preserved c = elim c.if-write-page.branch [
  | then-write-page w ↦
      w.sizes-is ∙ ap₂ (λ (xs : List ℕ) (v : ℕ). set xs (c.write-item.result.name % SLOTS) v) c.loop-write.invariant w.size_in_page.ensures.size
      ∙ log_sizes_more c.args.committed.now c.loop-write.write-index c.write-item.result c.loop-write-test.true c.write-item.is c.args.page w.if-write-page.true
  | else-write-page w ↦
      w.sizes-is ∙ c.loop-write.invariant
      ∙ log_sizes_same c.args.committed.now c.loop-write.write-index c.write-item.result c.loop-write-test.true c.write-item.is c.args.page w.if-write-page.false
]
