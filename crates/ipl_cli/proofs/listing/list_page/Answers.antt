use Rattle.std.proofs.Common.{◌∙◌, ◌*◌, ◌+◌, ◌/◌, Option, Ok, arith, refl, subst}
use Rattle.ipl_base.specs.declared.fault.ChipFault.{ChipFault}
use Rattle.record_reader.specs.Reading.{page_fault}
use Rattle.ipl_cli.specs.Lists.{SaysRange}
use Rattle.ipl_cli.proofs.LineLemmas.{from_none, next_cut, next_fault, next_name, next_sound, range_exit}
use Rattle.ipl_cli.proofs.listing.list_page.Goals as goal

-- ---- nothing is wrong with the page

pub loop-slot-init : goal.loop-slot-init
loop-slot-init g c = record {
  says = from_none (c.args.page * 64) (g.D.Chip.told c.args.desk.now);
  sound = λ some. absurd (omega (arith, some));
  reads = c.requires.reads;
  names = refl;
}

pub loop-slot-preserved : goal.loop-slot-preserved
loop-slot-preserved g c =
    let old = g.D.Chip.told c.args.desk.now in
    let mid = g.D.Chip.told c.loop-slot.desk in
    let new = g.D.Chip.told c.list_name.new.desk in
    let name = c.args.page * 64 + c.loop-slot.slot in
    let next = subst (λ (o : Option ChipFault). SaysRange (λ x. page_fault x mid.places (name / 64)) name 1 (Ok o) mid new)
    c.in-None.is c.in_ok-list_name.ensures.says in
    let low = c.loop-slot-test.true in record {
      says = next_name old mid new c.args.page c.loop-slot.slot low c.loop-slot.invariant.says next;
      sound = λ some. next_sound old mid new c.args.page c.loop-slot.slot low c.loop-slot.invariant.says next;
      reads = c.list_name.ensures.reads;
      names = c.list_name.ensures.names ∙ c.loop-slot.invariant.names;
    }

-- ---- a line couldn't be said, or a read failed

pub returns-in_err-list_name-clause-says : goal.returns-in_err-list_name-clause-says
returns-in_err-list_name-clause-says g c =
    let old = g.D.Chip.told c.args.desk.now in
    let new = g.D.Chip.told c.list_name.new.desk in
    range_exit old new (λ x. page_fault x old.places c.args.page) (c.args.page * 64) 64 _ c.from_residual.result c.from_residual.ensures.1
    (next_cut old (g.D.Chip.told c.loop-slot.desk) new c.args.page c.loop-slot.slot c.loop-slot-test.true c.loop-slot.invariant.says _
    c.in_err-list_name.ensures.says)

-- ---- the page is at fault

pub returns-in-Some-clause-says : goal.returns-in-Some-clause-says
returns-in-Some-clause-says g c =
    let old = g.D.Chip.told c.args.desk.now in
    let mid = g.D.Chip.told c.loop-slot.desk in
    let new = g.D.Chip.told c.list_name.new.desk in
    let name = c.args.page * 64 + c.loop-slot.slot in
    let next = subst (λ (o : Option ChipFault). SaysRange (λ x. page_fault x mid.places (name / 64)) name 1 (Ok o) mid new)
    c.in-Some.is c.in_ok-list_name.ensures.says in
    next_fault old mid new c.args.page c.loop-slot.slot c.loop-slot-test.true c.loop-slot.invariant.says c.args.reader.now
    c.in-Some.fault c.requires.reads (omega (arith, c.requires.page)) next
