use Rattle.std.proofs.Common.{List, ℕ, ◌-◌, max, ◌∙◌, ap}
use Rattle.std.specs.List.{sum, range_with_len}
use Rattle.std.proofs.lemmas.List.Sums.{sum-map}
use Rattle.ipl_base.specs.declared.limits.TheConstants.{SLOTS}
use Rattle.ipl_base.specs.Sizes.{size_in_page}
use Rattle.ipl_model.specs.Peaks.{peaks_of, values_at, peaks_at, fill_of}
use Rattle.ipl_model.specs.Plain.{newest_first, records_of}
use Rattle.ipl_model.proofs.plain_model.peaks.fill.Goals as goal

pub returns : goal.returns
unfolding fill_of
returns c =
    c.total.ensures ∙ ap (λ (xs : List ℕ). sum xs) c.rooms_in.ensures
    ∙ sum-map (λ slot. max (size_in_page (values_at (records_of c.args.committed.now) c.args.page slot)) (peaks_at (peaks_of (newest_first c.args.log.now)) c.args.page slot - 1)) (range_with_len 0 SLOTS)
