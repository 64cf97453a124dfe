use Rattle.std.proofs.Common.{◌≡◌, ◌<◌, ◌≤◌, ◌+◌, ◌∙◌, List, ℕ, length, take, set, sym, ap, subst, arith}
use Rattle.std.proofs.Math.ListN.{length-set}
use Rattle.std.proofs.lemmas.List.{length-replicate}
use Rattle.ipl_model.specs.Plain.{AreRecordSizes}
use Rattle.ipl_model.proofs.PeakLemmas.{records_none, log_records_more, log_records_same}
use Rattle.ipl_model.proofs.plain_model.peaks.record_sizes.Goals.{then-name-len, else-name-len}
use Rattle.ipl_model.proofs.plain_model.peaks.record_sizes.Goals as goal

pub loop-write-init : goal.loop-write-init
loop-write-init c =
    let zeros = c.in_ok-sizes.ensures.items_if_clones_equal (λ y is. is) in
    (ap length zeros ∙ length-replicate _ _, records_none c.args.names c.in_ok-sizes.sizes.items zeros)

pub loop-write-preserved : goal.loop-write-preserved
loop-write-preserved c =
    let (long, are) = c.loop-write.invariant in
    let log = c.args.committed.now in
    let i = c.loop-write.write-index in
    let old = c.loop-write.sizes.items in
    let one = c.write-item.result in
    elim c.if-name-len.branch [
      | then-name-len w ↦
          let inside : one.name < length old = omega (arith, w.if-name-len.true, c.len.ensures, c.loop-write.sizes.ok) in
          let same = ap (λ v. v.items) w.sizes-is ∙ ap (set old one.name) w.size_in_page.ensures.size in (
            ap length same ∙ (length-set old one.name _ ∙ long),
            subst (AreRecordSizes (take (i + 1) log)) (sym same)
                (log_records_more log i one c.loop-write-test.true c.write-item.is old inside are),
          )
      | else-name-len w ↦
          let outside : length old ≤ one.name = omega (arith, w.if-name-len.false, c.len.ensures, c.loop-write.sizes.ok) in
          let same = ap (λ v. v.items) w.sizes-is in (
            ap length same ∙ long,
            subst (AreRecordSizes (take (i + 1) log)) (sym same)
                (log_records_same log i one c.loop-write-test.true c.write-item.is old outside are),
          )
    ]
