use Rattle.std.proofs.Common.{◌%◌, max, set, get_or, List, ℕ, ◌∙◌, ap, ap₂}
use Rattle.ipl_base.specs.declared.limits.TheConstants.{SLOTS}
use Rattle.ipl_model.specs.Plain.{records_of}
use Rattle.ipl_model.proofs.PeakLemmas.{rooms_none, log_rooms_more, log_rooms_same}
use Rattle.ipl_model.proofs.plain_model.peaks.rooms_in.Goals.{then-write-page, else-write-page}
use Rattle.ipl_model.proofs.plain_model.peaks.rooms_in.Goals as goal

pub loop-write-init : goal.loop-write-init
loop-write-init c = c.sizes_in-rooms.ensures ∙ rooms_none (records_of c.args.committed.now) c.args.page

pub loop-write-preserved : goal.loop-write-preserved
loop-write-preserved c = elim c.if-write-page.branch [
  | then-write-page w ↦
      let slot = c.write-item.result.name % SLOTS in
      w.rooms-is ∙ ap (λ (xs : List ℕ). set xs slot w.max.result) c.loop-write.invariant
      ∙ log_rooms_more c.args.log.now c.loop-write.write-index c.write-item.result c.loop-write-test.true c.write-item.is c.args.committed.now c.args.page w.max.result w.if-write-page.true
      (w.max.ensures ∙ ap₂ (λ (xs : List ℕ) (v : ℕ). max (get_or xs slot 0) v) c.loop-write.invariant w.size_in_page.ensures.size)
  | else-write-page w ↦
      w.rooms-is ∙ c.loop-write.invariant
      ∙ log_rooms_same c.args.log.now c.loop-write.write-index c.write-item.result c.loop-write-test.true c.write-item.is c.args.committed.now c.args.page w.if-write-page.false
]
