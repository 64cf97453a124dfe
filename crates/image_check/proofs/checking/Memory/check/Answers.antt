use Rattle.std.proofs.Common.{◌≡◌, ◌∙◌, ℕ, false, refl, sym}
use Rattle.ipl_meaning.specs.Chart.{chart_of}
use Rattle.ipl_meaning.specs.LaidOut.{layout_in}
use Rattle.unit_io.specs.ReadsAt.{Anywhere}
use Rattle.unit_io.proofs.ReadsAtLemmas.{at_then}
use Rattle.restart.proofs.LookLemmas.{cause_alone}
use Rattle.image_check.proofs.EndLemmas.{all_tables, sized_by, looked_tells, looked_cause, counted_tells, counted_cause, all_checked}
use Rattle.image_check.proofs.checking.Memory.check.Goals as goal

pub count_units-requires : goal.count_units-requires
count_units-requires g c =
    record { sized = sized_by c.requires.fits c.survey.ensures.looks.only.reads.counts c.in_ok-survey.ensures.known }

-- ---- how the chip is laid out

pub returns-in_err-survey-clause-checks : goal.returns-in_err-survey-clause-checks
returns-in_err-survey-clause-checks g c = λ x told.
    looked_tells x _ c.from_residual.result c.from_residual.ensures.1 (cause_alone false c.requires.made.most c.in_err-survey.ensures.looks.only.cause)
    (c.in_err-survey.ensures.fault x told)

pub returns-in_err-survey-clause-cause : goal.returns-in_err-survey-clause-cause
returns-in_err-survey-clause-cause g c =
    looked_cause c.from_residual.result c.from_residual.ensures.1 (cause_alone false c.requires.made.most c.in_err-survey.ensures.looks.only.cause)

-- ---- the pages

pub returns-in_err-records-clause-checks : goal.returns-in_err-records-clause-checks
returns-in_err-records-clause-checks g c = λ x told.
    let looks = c.survey.ensures.looks.only.reads in
    counted_tells _ x _ c.from_residual-in_err-records.result c.from_residual-in_err-records.ensures.1
    (c.in_ok-survey.ensures.bytes x told) (c.in_ok-survey.ensures.fault x told)
    (c.in_err-records.ensures.told x (looks.contents ∙ told) (layout_in (chart_of x) (g.C.Chip.told c.args.chip.now).places) _
    (all_tables looks.counts (c.in_ok-survey.ensures.mirrors x told)))

pub returns-in_err-records-clause-cause : goal.returns-in_err-records-clause-cause
returns-in_err-records-clause-cause g c =
    counted_cause (g.C.Chip.told c.args.chip.now) (g.C.Chip.told c.survey.new.chip) (g.C.Chip.told c.count_units.new.chip) _
    c.from_residual-in_err-records.result c.from_residual-in_err-records.ensures.1
    c.survey.ensures.looks.only.reads.counts c.in_err-records.ensures.cause

pub returns-in_err-records-clause-looks : goal.returns-in_err-records-clause-looks
returns-in_err-records-clause-looks g c =
    at_then Anywhere (g.C.Chip.told c.args.chip.now) (g.C.Chip.told c.survey.new.chip) (g.C.Chip.told c.count_units.new.chip)
    c.survey.ensures.looks.only.reads c.count_units.ensures.reads

pub returns-clause-checks : goal.returns-clause-checks
returns-clause-checks g c = λ x told.
    let looks = c.survey.ensures.looks.only.reads in
    let counted = c.in_ok-records.ensures.told x (looks.contents ∙ told) (layout_in (chart_of x) (g.C.Chip.told c.args.chip.now).places) _
    (all_tables looks.counts (c.in_ok-survey.ensures.mirrors x told)) in
    all_checked x _ (c.in_ok-survey.ensures.bytes x told) (c.in_ok-survey.ensures.fault x told) counted.0 _ counted.1

pub returns-clause-looks : goal.returns-clause-looks
returns-clause-looks g c =
    at_then Anywhere (g.C.Chip.told c.args.chip.now) (g.C.Chip.told c.survey.new.chip) (g.C.Chip.told c.count_units.new.chip)
    c.survey.ensures.looks.only.reads c.count_units.ensures.reads
