use Rattle.std.proofs.Common.{◌+◌, take, sym, arith}
use Rattle.ipl_model.specs.Peaks.{peaks_of}
use Rattle.ipl_model.proofs.WeightLemmas.{weights_none, weights_most}
use Rattle.ipl_model.specs.Plain.{newest_first}
use Rattle.ipl_model.proofs.PeakLemmas.{log_weighs_more, log_weighs_same}
use Rattle.ipl_model.proofs.plain_model.peaks.weights.Goals.{then-write-unit, else-write-unit}
use Rattle.ipl_model.proofs.plain_model.peaks.weights.Goals as goal

pub loop-i-init : goal.loop-i-init
loop-i-init c = sym (weights_none c.args.unit)

pub overflow_add-total : goal.overflow_add-total
overflow_add-total c =
    let more = log_weighs_more c.args.log.now c.loop-i.i c.index-log-i.result c.loop-i-test.true c.index-log-i.is c.args.unit c.weight_added-total.result
    c.if-write-unit.true c.weight_added-total.ensures in
    omega (arith, c.loop-i.invariant, more, weights_most (peaks_of (newest_first (take (c.loop-i.i + 1) c.args.log.now))) c.args.unit)

pub loop-i-preserved : goal.loop-i-preserved
loop-i-preserved c = elim c.if-write-unit.branch [
  | then-write-unit w ↦
      let more = log_weighs_more c.args.log.now c.loop-i.i c.index-log-i.result c.loop-i-test.true c.index-log-i.is c.args.unit w.weight_added-total.result
      w.if-write-unit.true w.weight_added-total.ensures in
      omega (arith, w.total-is, c.loop-i.invariant, more)
  | else-write-unit w ↦
      let same = log_weighs_same c.args.log.now c.loop-i.i c.index-log-i.result c.loop-i-test.true c.index-log-i.is c.args.unit w.if-write-unit.false in
      omega (arith, w.total-is, c.loop-i.invariant, same)
]
