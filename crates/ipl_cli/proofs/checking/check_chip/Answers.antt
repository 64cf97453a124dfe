use Rattle.std.proofs.Common.{inr, subst}
use Rattle.store_trait.proofs.OnwardLemmas.{onward_counts, further_onward, further_then}
use Rattle.image_check.specs.declared.fault.CheckFault.{CheckFault}
use Rattle.image_check.specs.Checked.{CheckCause}
use Rattle.ipl_cli.proofs.LawfulLemmas.{adds_reads, adds_then}
use Rattle.ipl_cli.proofs.CheckLemmas.{checked_leaves, checked_end, said_further, said_adds, unwell_leaves}
use Rattle.ipl_cli.proofs.checking.check_chip.Goals as goal

-- ---- all was counted

pub returns-in-Ok-clause-leaves : goal.returns-in-Ok-clause-leaves
returns-in-Ok-clause-leaves g c =
    checked_leaves (g.D.Chip.told c.args.desk.now) (g.D.Chip.told c.check.new.chip) (g.D.Chip.told c.say_records.new.desk)
    c.in-Ok.records c.say_records.result c.in-Ok.ensures.checks c.check.ensures.looks c.say_records.ensures.said
    c.say_records.ensures.unsaid c.say_records.ensures.end

pub returns-in-Ok-clause-cause : goal.returns-in-Ok-clause-cause
returns-in-Ok-clause-cause g c =
    checked_end (g.D.Chip.told c.args.desk.now) (g.D.Chip.told c.check.new.chip) (g.D.Chip.told c.say_records.new.desk)
    c.say_records.result c.check.ensures.looks c.say_records.ensures.end c.say_records.ensures.cause

pub returns-in-Ok-clause-further : goal.returns-in-Ok-clause-further
returns-in-Ok-clause-further g c =
    let old = g.D.Chip.told c.args.desk.now in
    let mid = g.D.Chip.told c.check.new.chip in
    let new = g.D.Chip.told c.say_records.new.desk in
    further_then old mid new (further_onward old mid (onward_counts old mid c.check.ensures.looks.counts))
    (said_further mid new c.in-Ok.records c.say_records.result c.say_records.ensures.said c.say_records.ensures.unsaid
    c.say_records.ensures.counts)

pub returns-in-Ok-clause-lawful : goal.returns-in-Ok-clause-lawful
returns-in-Ok-clause-lawful g c =
    let old = g.D.Chip.told c.args.desk.now in
    let mid = g.D.Chip.told c.check.new.chip in
    let new = g.D.Chip.told c.say_records.new.desk in
    adds_then old mid new (adds_reads old mid c.check.ensures.looks)
    (said_adds mid new c.in-Ok.records c.say_records.result c.say_records.ensures.said c.say_records.ensures.unsaid)

-- ---- a fault of the chip

pub returns-in-Err-Image-clause-leaves : goal.returns-in-Err-Image-clause-leaves
returns-in-Err-Image-clause-leaves g c =
    unwell_leaves (g.D.Chip.told c.args.desk.now) (g.D.Chip.told c.check.new.chip) c.in-Err-Image.fault c.check.ensures.looks
    (λ other x told. c.in-Err-Image.ensures.checks x told c.in-Err-Image.fault c.in-Err-Image.field-0-is other)
    (λ misfit. c.in-Err-Image.ensures.early (inr misfit))

pub returns-in-Err-Image-clause-cause : goal.returns-in-Err-Image-clause-cause
returns-in-Err-Image-clause-cause g c = record {
  cause = subst (λ (f : CheckFault). CheckCause f (g.D.Chip.told c.args.desk.now) (g.D.Chip.told c.check.new.chip))
      c.in-Err-Image.field-0-is c.in-Err-Image.ensures.cause;
  unwell = λ other x told. c.in-Err-Image.ensures.checks x told c.in-Err-Image.fault c.in-Err-Image.field-0-is other;
}

pub returns-in-Err-Image-clause-further : goal.returns-in-Err-Image-clause-further
returns-in-Err-Image-clause-further g c =
    let old = g.D.Chip.told c.args.desk.now in
    let new = g.D.Chip.told c.check.new.chip in
    further_onward old new (onward_counts old new c.check.ensures.looks.counts)

pub returns-in-Err-Image-clause-lawful : goal.returns-in-Err-Image-clause-lawful
returns-in-Err-Image-clause-lawful g c =
    adds_reads (g.D.Chip.told c.args.desk.now) (g.D.Chip.told c.check.new.chip) c.check.ensures.looks

-- ---- memory was wanting

pub returns-in-Err-OutOfMemory-clause-further : goal.returns-in-Err-OutOfMemory-clause-further
returns-in-Err-OutOfMemory-clause-further g c =
    let old = g.D.Chip.told c.args.desk.now in
    let new = g.D.Chip.told c.check.new.chip in
    further_onward old new (onward_counts old new c.check.ensures.looks.counts)

pub returns-in-Err-OutOfMemory-clause-lawful : goal.returns-in-Err-OutOfMemory-clause-lawful
returns-in-Err-OutOfMemory-clause-lawful g c =
    adds_reads (g.D.Chip.told c.args.desk.now) (g.D.Chip.told c.check.new.chip) c.check.ensures.looks
