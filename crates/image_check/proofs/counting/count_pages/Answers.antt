use Rattle.std.proofs.Common.{◌≡◌, ◌∙◌, ◌+◌, ℕ, List, Ok, refl, sym, subst, arith}
use Rattle.ipl_base.specs.First.{first_below}
use Rattle.ipl_base.proofs.FirstLemmas.{first_found}
use Rattle.ipl_meaning.specs.Chart.{chart_of}
use Rattle.unit_io.specs.ReadsAt.{Anywhere}
use Rattle.unit_io.proofs.ReadsAtLemmas.{at_none, at_then}
use Rattle.unit_log.specs.declared.scratch.LogSector.{LogSector}
use Rattle.page_rebuild.specs.Loaded.{IsKnown}
use Rattle.page_rebuild.proofs.LoadedLemmas.{whole_units_are_known}
use Rattle.image_check.specs.Checked.{TellsRecords, fault_of_page, fault_of_unit, records_on, records_of_unit, total_below}
use Rattle.image_check.proofs.CountLemmas.{cause_exit, tells_exit, none_more}
use Rattle.image_check.proofs.SumLemmas.{total_none, total_step}
use Rattle.image_check.proofs.counting.count_pages.Goals as goal

pub loop-page-init : goal.loop-page-init
loop-page-init g c = record {
  reads = at_none Anywhere (g.C.Chip.told c.args.chip.now);
  log = refl;
  so_far = λ x told it whole. (refl, sym (total_none (records_on x it c.args.unit)));
  small = omega arith;
}

pub loop-page-preserved : goal.loop-page-preserved
loop-page-preserved g c =
    let before = c.loop-page.invariant in record {
      reads = at_then Anywhere (g.C.Chip.told c.args.chip.now) (g.C.Chip.told c.loop-page.chip) (g.C.Chip.told c.count_page.new.chip)
          before.reads c.count_page.ensures.reads;
      log = c.count_page.ensures.log ∙ before.log;
      so_far = λ x told it whole.
          let known =
          subst (λ (l : List LogSector). IsKnown it c.args.place c.args.unit c.loop-page.page c.args.header.now l c.args.status.now)
          (sym before.log) (whole_units_are_known _ (chart_of x) it _ _ _ _ _ whole c.loop-page.page) in
          let here = c.in_ok-records.ensures.told x (before.reads.contents ∙ told) it known in
          let far = before.so_far x told it whole in (
            none_more (fault_of_page x it c.args.unit) c.loop-page.page far.0 here.0,
            let more = total_step (records_on x it c.args.unit) c.loop-page.page in
                omega (arith, far.1, here.1, more),
          );
      small = omega (arith, before.small, c.in_ok-records.ensures.most);
    }

pub returns-in_err-records-clause-told : goal.returns-in_err-records-clause-told
returns-in_err-records-clause-told g c = λ x told it whole.
    let before = c.loop-page.invariant in
    let known =
    subst (λ (l : List LogSector). IsKnown it c.args.place c.args.unit c.loop-page.page c.args.header.now l c.args.status.now)
    (sym before.log) (whole_units_are_known _ (chart_of x) it _ _ _ _ _ whole c.loop-page.page) in
    tells_exit _ (fault_of_unit x it c.args.unit) (records_of_unit x it c.args.unit)
    c.from_residual.result c.from_residual.ensures.1 (λ other.
    first_found (fault_of_page x it c.args.unit) c.loop-page.page 15 _ (omega arith)
    (before.so_far x told it whole).0
    (c.in_err-records.ensures.told x (before.reads.contents ∙ told) it known other))

pub returns-in_err-records-clause-reads : goal.returns-in_err-records-clause-reads
returns-in_err-records-clause-reads g c =
    at_then Anywhere (g.C.Chip.told c.args.chip.now) (g.C.Chip.told c.loop-page.chip) (g.C.Chip.told c.count_page.new.chip)
    c.loop-page.invariant.reads c.count_page.ensures.reads

pub returns-in_err-records-clause-cause : goal.returns-in_err-records-clause-cause
returns-in_err-records-clause-cause g c =
    cause_exit (g.C.Chip.told c.args.chip.now) (g.C.Chip.told c.loop-page.chip) (g.C.Chip.told c.count_page.new.chip) _
    c.from_residual.result c.from_residual.ensures.1 c.loop-page.invariant.reads.counts c.in_err-records.ensures.cause

pub returns-clause-told : goal.returns-clause-told
returns-clause-told g c = λ x told it whole.
    let end : c.loop-page.page ≡ 15 = omega arith in
    subst (λ (n : ℕ). TellsRecords (first_below (fault_of_page x it c.args.unit) n) (total_below (records_on x it c.args.unit) n)
    (Ok c.loop-page.records)) end (c.loop-page.invariant.so_far x told it whole)

pub returns-clause-reads : goal.returns-clause-reads
returns-clause-reads g c = c.loop-page.invariant.reads
