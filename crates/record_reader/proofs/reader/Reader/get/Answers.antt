use Rattle.std.proofs.Common.{◌∙◌, ◌/◌, ◌%◌, arith, ap}
use Rattle.chip_trait.proofs.CountsLemmas.{counts_none}
use Rattle.ipl_format.specs.Page.{Slots, value_in}
use Rattle.image_check.proofs.CountLemmas.{cause_exit}
use Rattle.record_reader.specs.Reading.{page_fault}
use Rattle.record_reader.proofs.PageLemmas.{answers_exit, answers_fault, answers_held, copied, fault_exit}
use Rattle.record_reader.proofs.reader.Reader.get.Goals as goal

pub bring-requires-clause-page : goal.bring-requires-clause-page
bring-requires-clause-page g c = omega (arith, c.requires.name)

pub bring-requires-clause-reads : goal.bring-requires-clause-reads
bring-requires-clause-reads g c = c.requires.reads

-- ---- the page isn't read

pub returns-in_err-bring-clause-answers : goal.returns-in_err-bring-clause-answers
returns-in_err-bring-clause-answers g c = λ x told m stands.
    let (counter, mirrors) = c.requires.reads.mirrors x told in
    answers_exit m c.args.name _ c.from_residual.result c.from_residual.ensures.1
    (answers_fault x (g.C.Chip.told c.args.chip.now).places c.args.name m _ mirrors.laid
    (omega (arith, c.requires.name, mirrors.directory.units)) stands (c.in_err-bring.ensures.fault x told))

pub returns-in_err-bring-clause-fault : goal.returns-in_err-bring-clause-fault
returns-in_err-bring-clause-fault g c = λ x told.
    fault_exit _ (page_fault x (g.C.Chip.told c.args.chip.now).places (c.args.name / 64)) c.from_residual.result
    c.from_residual.ensures.1 (c.in_err-bring.ensures.fault x told)

pub returns-in_err-bring-clause-looks : goal.returns-in_err-bring-clause-looks
returns-in_err-bring-clause-looks g c = c.bring.ensures.looks

pub returns-in_err-bring-clause-cause : goal.returns-in_err-bring-clause-cause
returns-in_err-bring-clause-cause g c =
    let old = g.C.Chip.told c.args.chip.now in
    cause_exit old old (g.C.Chip.told c.bring.new.chip) _ c.from_residual.result c.from_residual.ensures.1 (counts_none old)
    c.in_err-bring.ensures.cause

pub returns-in_err-bring-clause-reads : goal.returns-in_err-bring-clause-reads
returns-in_err-bring-clause-reads g c = c.bring.ensures.reads

-- ---- the name has a value

pub returns-in-Some-clause-answers : goal.returns-in-Some-clause-answers
returns-in-Some-clause-answers g c = λ x told m stands.
    let (counter, mirrors) = c.requires.reads.mirrors x told in
    answers_held x (g.C.Chip.told c.args.chip.now).places c.args.name c.bring.new.self.frame m c.of.result mirrors.laid
    (omega (arith, c.requires.name, mirrors.directory.units)) stands (c.in_ok-bring.ensures.holds x told)
    (copied c.of.result c.in-Some.bytes.now c.of.ensures.some c.of.ensures.none c.in-Some.ensures.short
    ∙ (c.in-Some.ensures.value ∙ ap (λ (p : Slots). value_in p (c.args.name % 64)) c.committed.ensures.page))

pub returns-in-Some-clause-fault : goal.returns-in-Some-clause-fault
returns-in-Some-clause-fault g c = λ x told. c.in_ok-bring.ensures.fault x told

pub returns-in-Some-clause-looks : goal.returns-in-Some-clause-looks
returns-in-Some-clause-looks g c = c.bring.ensures.looks

pub returns-in-Some-clause-reads : goal.returns-in-Some-clause-reads
returns-in-Some-clause-reads g c = c.bring.ensures.reads

-- ---- or none

pub returns-in-None-clause-answers : goal.returns-in-None-clause-answers
returns-in-None-clause-answers g c = λ x told m stands.
    let (counter, mirrors) = c.requires.reads.mirrors x told in
    answers_held x (g.C.Chip.told c.args.chip.now).places c.args.name c.bring.new.self.frame m _ mirrors.laid
    (omega (arith, c.requires.name, mirrors.directory.units)) stands (c.in_ok-bring.ensures.holds x told)
    (c.in-None.ensures.value ∙ ap (λ (p : Slots). value_in p (c.args.name % 64)) c.committed.ensures.page)

pub returns-in-None-clause-fault : goal.returns-in-None-clause-fault
returns-in-None-clause-fault g c = λ x told. c.in_ok-bring.ensures.fault x told

pub returns-in-None-clause-looks : goal.returns-in-None-clause-looks
returns-in-None-clause-looks g c = c.bring.ensures.looks

pub returns-in-None-clause-reads : goal.returns-in-None-clause-reads
returns-in-None-clause-reads g c = c.bring.ensures.reads
