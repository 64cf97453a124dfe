use Rattle.std.proofs.Common.{◌+◌, ◌-◌, ◌∙◌, ℕ, length, ap, subst, arith}
use Rattle.ipl_base.specs.Sizes.{size_in_page}
use Rattle.ipl_model.specs.Peaks.{with_peak}
use Rattle.ipl_format.specs.Page.{Slots, value_in}
use Rattle.record_locks.specs.Held.{peaks_in}
use Rattle.page_frames.proofs.FillLemmas.{peaks_here, IsGrownSoFar, grown_first, grown_more, grown_same, grown_all, name_here}
use Rattle.page_frames.proofs.filling.fill_with.Goals as goal
use Rattle.page_frames.proofs.filling.fill_with.Goals.{then-written-gt0, else-written-gt0}

pub loop-slot-init : goal.loop-slot-init
loop-slot-init c =
    let peaks = peaks_here (with_peak (peaks_in c.args.sessions.now) c.args.name.0 (1 + c.args.size)) c.args.name.0 in
    subst (λ (p : Slots). IsGrownSoFar (value_in p) peaks 0 (length c.text-fill.result.now)) c.committed-page.ensures.page
    (grown_first peaks c.committed-page.result.now _ c.text-fill.ensures.text c.text-fill.ensures.fits)

pub loop-slot-preserved : goal.loop-slot-preserved
loop-slot-preserved c =
    let k = c.loop-slot.slot in
    let so = c.loop-slot.invariant in
    let peak = c.written_size-written.ensures.size
    ∙ ap (λ (n : ℕ). with_peak (peaks_in c.args.sessions.now) c.args.name.0 (1 + c.args.size) n - 1)
    (name_here c.args.name.0 k c.loop-slot-test.true) in
    elim c.if-written-gt0.branch [
      | then-written-gt0 w ↦
          grown_more so w.slot_size.result c.written_size-written.result
          (w.slot_size.ensures.size
          ∙ ap (λ (p : Slots). size_in_page (value_in p k)) c.committed-page.ensures.page)
          peak c.written_size-written.ensures.few w.saturating_sub-fill.ensures w.fill-is
      | else-written-gt0 w ↦ grown_same so peak w.if-written-gt0.false w.fill-is
    ]

pub returns : goal.returns
returns c =
    grown_all (omega (arith, c.loop-slot.auto.slot-end, c.loop-slot-test.false)) c.loop-slot.invariant
