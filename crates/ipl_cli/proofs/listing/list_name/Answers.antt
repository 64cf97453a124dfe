use Rattle.std.proofs.Common.{◌/◌}
use Rattle.record_reader.specs.Reading.{page_fault}
use Rattle.ipl_cli.proofs.LineLemmas.{name_cut, name_faulted, name_said, range_exit, reads_said}
use Rattle.ipl_cli.proofs.listing.list_name.Goals as goal

-- ---- its line couldn't be said

pub returns-in_err-say_name-in-Ok-clause-says : goal.returns-in_err-say_name-in-Ok-clause-says
returns-in_err-say_name-in-Ok-clause-says g c =
    let told = g.D.Chip.told in
    range_exit (told c.args.desk.now) (told c.say_name.new.desk)
    (λ x. page_fault x (told c.args.desk.now).places (c.args.name / 64)) c.args.name 1 _ c.from_residual.result c.from_residual.ensures.1
    (name_cut (told c.args.desk.now) (told c.say_name.new.desk) c.args.reader.now c.requires.reads c.args.name c.in-Ok.value _
    (told c.get.new.chip) c.get.ensures.looks c.in-Ok.ensures.answers c.in_err-say_name-in-Ok.ensures.says c.in_err-say_name-in-Ok.ensures.cause)

pub returns-in_err-say_name-in-Ok-clause-reads : goal.returns-in_err-say_name-in-Ok-clause-reads
returns-in_err-say_name-in-Ok-clause-reads g c =
    let told = g.D.Chip.told in
    reads_said (told c.get.new.chip) (told c.say_name.new.desk) c.get.new.self c.args.name c.in-Ok.value c.say_name.result
    c.say_name.ensures.says c.get.ensures.reads

-- ---- it was said

pub returns-in_ok-say_name-in-Ok-clause-says : goal.returns-in_ok-say_name-in-Ok-clause-says
returns-in_ok-say_name-in-Ok-clause-says g c =
    let told = g.D.Chip.told in
    name_said (told c.args.desk.now) (told c.say_name.new.desk) c.args.reader.now c.requires.reads c.args.name c.in-Ok.value
    (told c.get.new.chip) c.get.ensures.looks c.in-Ok.ensures.answers c.in-Ok.ensures.fault c.in_ok-say_name-in-Ok.ensures.says

pub returns-in_ok-say_name-in-Ok-clause-reads : goal.returns-in_ok-say_name-in-Ok-clause-reads
returns-in_ok-say_name-in-Ok-clause-reads g c =
    let told = g.D.Chip.told in
    reads_said (told c.get.new.chip) (told c.say_name.new.desk) c.get.new.self c.args.name c.in-Ok.value c.say_name.result
    c.say_name.ensures.says c.get.ensures.reads

-- ---- its page is at fault, or a read failed

pub returns-in-Err-clause-says : goal.returns-in-Err-clause-says
returns-in-Err-clause-says g c =
    let told = g.D.Chip.told in
    name_faulted (told c.args.desk.now) (told c.get.new.chip) c.args.reader.now c.requires.reads c.args.name c.in-Err.fault
    c.pass_over.result c.requires.name c.get.ensures.looks c.in-Err.ensures.cause c.in-Err.ensures.fault c.pass_over.ensures
