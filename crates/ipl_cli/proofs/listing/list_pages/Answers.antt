use Rattle.std.proofs.Common.{◌∙◌, ◌/◌, Option, arith, refl, subst, sym}
use Rattle.std.specs.Prelude.{IfSome}
use Rattle.chip_trait.specs.Story.{Contents}
use Rattle.ipl_base.specs.First.{first_below}
use Rattle.ipl_base.specs.declared.fault.ChipFault.{ChipFault}
use Rattle.record_reader.specs.Reading.{names_of, page_fault}
use Rattle.ipl_cli.specs.Lists.{IsFoundFault}
use Rattle.ipl_cli.proofs.LineLemmas.{all_pages, first_so_far, found_either, from_none, next_page, page_cut, range_exit}
use Rattle.ipl_cli.proofs.listing.list_pages.Goals as goal

pub loop-page-init : goal.loop-page-init
loop-page-init g c = record {
  says = from_none 0 (g.D.Chip.told c.args.desk.now);
  first = λ x told. refl;
  found = tt;
  reads = c.requires.reads;
  names = refl;
}

pub loop-page-preserved : goal.loop-page-preserved
loop-page-preserved g c =
    let old = g.D.Chip.told c.args.desk.now in
    let mid = g.D.Chip.told c.loop-page.desk in
    let new = g.D.Chip.told c.list_page.new.desk in
    let so_far = c.loop-page.invariant in
    let next = c.in_ok-fault.ensures.says in record {
      says = next_page old mid new c.loop-page.page so_far.says next.0;
      first = λ x told.
          c.or-first.ensures
          ∙ first_so_far old mid new c.loop-page.page so_far.says c.loop-page.first c.in_ok-fault.fault so_far.first next.1 x told;
      found = subst (λ (o : Option ChipFault). IfSome o (λ f. IsFoundFault f old new)) (sym c.or-first.ensures)
          (found_either old mid new c.loop-page.first c.in_ok-fault.fault so_far.says.says.further so_far.found next.2);
      reads = c.list_page.ensures.reads;
      names = c.list_page.ensures.names ∙ so_far.names;
    }

-- ---- a line couldn't be said, or a read failed

pub returns-in_err-fault : goal.returns-in_err-fault
returns-in_err-fault g c =
    let old = g.D.Chip.told c.args.desk.now in
    let new = g.D.Chip.told c.list_page.new.desk in
    let fault : Contents → Option ChipFault = λ x. first_below (page_fault x old.places) (names_of c.args.reader.now / 64) in record {
      says = range_exit old new fault 0 (names_of c.args.reader.now) _ c.from_residual.result c.from_residual.ensures.1
          (page_cut old (g.D.Chip.told c.loop-page.desk) new c.loop-page.page c.loop-page.invariant.says fault
          (names_of c.args.reader.now) _ (omega (arith, c.loop-page-test.true, c.names-page-end.ensures)) c.in_err-fault.ensures.says);
    }

-- ---- all pages were listed

pub returns : goal.returns
returns g c =
    let old = g.D.Chip.told c.args.desk.now in
    let so_far = c.loop-page.invariant in
    let end = c.names-page-end.ensures in record {
      says = all_pages old (g.D.Chip.told c.loop-page.desk) (names_of c.args.reader.now) c.loop-page.page c.loop-page.first
          (omega (arith, end, c.loop-page-test.false, c.loop-page.auto.page-end))
          (omega (arith, end, c.loop-page-test.false, c.loop-page.auto.page-end)) so_far.says so_far.first so_far.found;
    }
