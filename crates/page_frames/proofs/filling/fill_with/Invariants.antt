use Rattle.std.specs.Prelude.{◌+◌}
use Rattle.ipl_model.specs.Peaks.{with_peak}
use Rattle.record_locks.specs.Held.{peaks_in}
use Rattle.page_ops.specs.Frames.{values_in}
use Rattle.page_frames.proofs.FillLemmas.{peaks_here, IsGrownSoFar}
use Rattle.page_frames.proofs.filling.fill_with.Given as goal

-- so far the text, and what the slots before this one may come to take more
abbrev pub invariant-loop-slot : goal.invariant-loop-slot
invariant-loop-slot l = IsGrownSoFar (values_in l.frame)
    (peaks_here (with_peak (peaks_in l.sessions) l.name.0 (1 + l.size)) l.name.0) l.slot l.fill
