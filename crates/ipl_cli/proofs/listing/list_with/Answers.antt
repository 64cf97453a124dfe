use Rattle.std.proofs.Common.{◌∙◌, ◌≡◌, ◌*◌, ℕ, List, false, ap}
use Rattle.ipl_meaning.specs.Chart.{chart_of}
use Rattle.ipl_meaning.specs.Chosen.{units_at}
use Rattle.unit_io.specs.Reads.{OfContents}
use Rattle.restart.specs.Looks.{HasCauseFor}
use Rattle.restart.proofs.LookLemmas.{cause_alone}
use Rattle.record_reader.specs.Reading.{names_of}
use Rattle.record_reader.proofs.PageLemmas.{names_are}
use Rattle.ipl_cli.specs.Lists.{SaysAmidReads}
use Rattle.ipl_cli.proofs.LawfulLemmas.{adds_reads}
use Rattle.ipl_cli.proofs.ListLemmas.{amid_lawful, looked_amid, looked_cause, looked_leaves, unopened_cause, unopened_leaves}
use Rattle.ipl_cli.proofs.listing.list_with.Given.{Over}
use Rattle.ipl_cli.proofs.listing.list_with.Goals as goal

-- ---- the chip was looked over

names : (g : Over) (c : goal.After-list_all g) → OfContents (g.D.Chip.told c.args.desk.now)
    (λ x. names_of c.open.new.self ≡ 960 * units_at (chart_of x) (g.D.Chip.told c.args.desk.now).places)
names g c x told =
    let reads = c.open.ensures.looks.only.reads in
    names_are (g.D.Chip.told c.open.new.chip) c.open.new.self c.in-Ok.ensures.reads x (reads.contents ∙ told)
    ∙ ap (λ (n : ℕ). 960 * units_at (chart_of x) n) reads.counts.places

pub returns-in-Ok-clause-leaves : goal.returns-in-Ok-clause-leaves
returns-in-Ok-clause-leaves g c =
    looked_leaves (names_of c.open.new.self) (g.D.Chip.told c.args.desk.now) (g.D.Chip.told c.open.new.chip)
    (g.D.Chip.told c.list_all.new.desk) c.open.ensures.looks.only.reads c.requires.fits c.in-Ok.ensures.bytes c.in-Ok.ensures.fault
    (names g c) c.list_all.result c.list_all.ensures.leaves

pub returns-in-Ok-clause-cause : goal.returns-in-Ok-clause-cause
returns-in-Ok-clause-cause g c =
    looked_cause (names_of c.open.new.self) (g.D.Chip.told c.args.desk.now) (g.D.Chip.told c.open.new.chip)
    (g.D.Chip.told c.list_all.new.desk) c.open.ensures.looks.only.reads c.requires.fits c.in-Ok.ensures.bytes c.in-Ok.ensures.fault
    (names g c) c.list_all.result c.list_all.ensures.leaves

-- lines were said amid reads
amid : (g : Over) (c : goal.After-list_all g) → (said : List (List ℕ)) × SaysAmidReads said (g.D.Chip.told c.args.desk.now)
    (g.D.Chip.told c.list_all.new.desk)
amid g c =
    looked_amid (names_of c.open.new.self) (g.D.Chip.told c.args.desk.now) (g.D.Chip.told c.open.new.chip)
    (g.D.Chip.told c.list_all.new.desk) c.open.ensures.looks.only.reads c.requires.fits c.in-Ok.ensures.bytes c.in-Ok.ensures.fault
    (names g c) c.list_all.result c.list_all.ensures.leaves

pub returns-in-Ok-clause-further : goal.returns-in-Ok-clause-further
returns-in-Ok-clause-further g c = (amid g c).1.further

pub returns-in-Ok-clause-lawful : goal.returns-in-Ok-clause-lawful
returns-in-Ok-clause-lawful g c = amid_lawful (g.D.Chip.told c.args.desk.now) (g.D.Chip.told c.list_all.new.desk) (amid g c).1

-- ---- it wasn't

missed : (g : Over) (c : goal.In-Err g) → HasCauseFor false c.in-Err.fault (g.D.Chip.told c.args.desk.now) (g.D.Chip.told c.open.new.chip)
missed g c = cause_alone false c.requires.room c.in-Err.ensures.looks.only.cause

pub returns-in-Err-clause-leaves : goal.returns-in-Err-clause-leaves
returns-in-Err-clause-leaves g c =
    unopened_leaves (g.D.Chip.told c.args.desk.now) (g.D.Chip.told c.open.new.chip) c.in-Err.fault c.open.ensures.looks.only.reads
    c.requires.fits (missed g c) c.in-Err.ensures.fault

pub returns-in-Err-clause-cause : goal.returns-in-Err-clause-cause
returns-in-Err-clause-cause g c =
    unopened_cause (g.D.Chip.told c.args.desk.now) (g.D.Chip.told c.open.new.chip) c.in-Err.fault c.open.ensures.looks.only.reads
    c.requires.fits (missed g c) c.in-Err.ensures.fault

pub returns-in-Err-clause-lawful : goal.returns-in-Err-clause-lawful
returns-in-Err-clause-lawful g c =
    adds_reads (g.D.Chip.told c.args.desk.now) (g.D.Chip.told c.open.new.chip) c.open.ensures.looks.only.reads
