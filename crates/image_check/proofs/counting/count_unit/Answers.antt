use Rattle.std.proofs.Common.{◌∙◌}
use Rattle.chip_trait.proofs.CountsLemmas.{counts_none}
use Rattle.unit_io.specs.ReadsAt.{Anywhere}
use Rattle.unit_io.proofs.ReadsAtLemmas.{at_then, at_wider}
use Rattle.image_check.specs.Checked.{fault_of_unit, records_of_unit}
use Rattle.image_check.proofs.CountLemmas.{log_reads, cause_exit, read_exit, handed_cause, whole_by, whole_then}
use Rattle.image_check.proofs.counting.count_unit.Goals as goal

pub returns-in_err-header-clause-told : goal.returns-in_err-header-clause-told
returns-in_err-header-clause-told g c = λ x told it t are.
    read_exit _ (fault_of_unit x it c.args.unit) (records_of_unit x it c.args.unit)
    c.from_residual.result c.from_residual.ensures.1 (c.in_err-header.ensures.exact x told it t are.mirrored)

pub returns-in_err-header-clause-reads : goal.returns-in_err-header-clause-reads
returns-in_err-header-clause-reads g c =
    at_wider _ Anywhere (g.C.Chip.told c.args.chip.now) (g.C.Chip.told c.read_live.new.chip) (λ p s is. tt)
    c.read_live.ensures.looks.reads

pub returns-in_err-header-clause-cause : goal.returns-in_err-header-clause-cause
returns-in_err-header-clause-cause g c =
    let old = g.C.Chip.told c.args.chip.now in
    let new = g.C.Chip.told c.read_live.new.chip in
    cause_exit old old new _ c.from_residual.result c.from_residual.ensures.1 (counts_none old)
    (log_reads _ old new _ c.in_err-header.ensures.looks.cause)

pub returns-clause-told : goal.returns-clause-told
returns-clause-told g c = λ x told it t are.
    let looks = c.read_live.ensures.looks.reads in
    c.count_pages.ensures.told x (looks.contents ∙ told) it
    (whole_then looks.counts c.current-place.ensures.place
    (whole_by are c.requires.unit (c.in_ok-header.ensures.exact x told it t are.mirrored)))

pub returns-clause-reads : goal.returns-clause-reads
returns-clause-reads g c =
    at_then Anywhere (g.C.Chip.told c.args.chip.now) (g.C.Chip.told c.read_live.new.chip) (g.C.Chip.told c.count_pages.new.chip)
    (at_wider _ Anywhere (g.C.Chip.told c.args.chip.now) (g.C.Chip.told c.read_live.new.chip) (λ p s is. tt)
    c.read_live.ensures.looks.reads) c.count_pages.ensures.reads

pub returns-clause-cause : goal.returns-clause-cause
returns-clause-cause g c =
    handed_cause (g.C.Chip.told c.args.chip.now) (g.C.Chip.told c.read_live.new.chip) (g.C.Chip.told c.count_pages.new.chip)
    c.count_pages.result c.read_live.ensures.looks.reads.counts c.count_pages.ensures.cause
