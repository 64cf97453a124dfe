use Rattle.std.proofs.Common.{◌≡◌, ◌∙◌, ◌+◌, ℕ, Ok, length, refl, sym, subst, arith}
use Rattle.ipl_base.specs.First.{first_below}
use Rattle.ipl_base.proofs.FirstLemmas.{first_found}
use Rattle.unit_io.specs.ReadsAt.{Anywhere}
use Rattle.unit_io.proofs.ReadsAtLemmas.{at_none, at_then}
use Rattle.image_check.specs.Checked.{TellsRecords, fault_of_unit, pages_fault, records_of_unit, records_below}
use Rattle.image_check.proofs.CountLemmas.{cause_exit, tells_exit, none_more, units_are, tables_then}
use Rattle.image_check.proofs.SumLemmas.{total_none, total_step}
use Rattle.image_check.proofs.counting.count_units.Goals as goal

pub loop-unit-init : goal.loop-unit-init
loop-unit-init g c = record {
  reads = at_none Anywhere (g.C.Chip.told c.args.chip.now);
  so_far = λ x told it t are. (refl, sym (total_none (records_of_unit x it)));
  small = omega arith;
}

pub loop-unit-preserved : goal.loop-unit-preserved
loop-unit-preserved g c =
    let before = c.loop-unit.invariant in record {
      reads = at_then Anywhere (g.C.Chip.told c.args.chip.now) (g.C.Chip.told c.loop-unit.chip) (g.C.Chip.told c.count_unit.new.chip)
          before.reads c.count_unit.ensures.reads;
      so_far = λ x told it t are.
          let here = c.in_ok-records.ensures.told x (before.reads.contents ∙ told) it t (tables_then before.reads.counts are) in
          let far = before.so_far x told it t are in (
            none_more (fault_of_unit x it) c.loop-unit.unit far.0 here.0,
            let more = total_step (records_of_unit x it) c.loop-unit.unit in
                omega (arith, far.1, here.1, more),
          );
      small = omega (arith, before.small, c.in_ok-records.ensures.most);
    }

pub returns-in_err-records-clause-told : goal.returns-in_err-records-clause-told
returns-in_err-records-clause-told g c = λ x told it t are.
    let before = c.loop-unit.invariant in
    tells_exit _ (pages_fault x it) (records_below x it it.count)
    c.from_residual.result c.from_residual.ensures.1 (λ other.
    first_found (fault_of_unit x it) c.loop-unit.unit it.count _ (omega (arith, units_are are))
    (before.so_far x told it t are).0
    (c.in_err-records.ensures.told x (before.reads.contents ∙ told) it t (tables_then before.reads.counts are) other))

pub returns-in_err-records-clause-reads : goal.returns-in_err-records-clause-reads
returns-in_err-records-clause-reads g c =
    at_then Anywhere (g.C.Chip.told c.args.chip.now) (g.C.Chip.told c.loop-unit.chip) (g.C.Chip.told c.count_unit.new.chip)
    c.loop-unit.invariant.reads c.count_unit.ensures.reads

pub returns-in_err-records-clause-cause : goal.returns-in_err-records-clause-cause
returns-in_err-records-clause-cause g c =
    cause_exit (g.C.Chip.told c.args.chip.now) (g.C.Chip.told c.loop-unit.chip) (g.C.Chip.told c.count_unit.new.chip) _
    c.from_residual.result c.from_residual.ensures.1 c.loop-unit.invariant.reads.counts c.in_err-records.ensures.cause

pub returns-clause-told : goal.returns-clause-told
returns-clause-told g c = λ x told it t are.
    let end : c.loop-unit.unit ≡ length c.args.tables.now.directory.current = omega arith in
    subst (λ (n : ℕ). TellsRecords (first_below (fault_of_unit x it) n) (records_below x it n) (Ok c.loop-unit.records))
    (end ∙ units_are are) (c.loop-unit.invariant.so_far x told it t are)

pub returns-clause-reads : goal.returns-clause-reads
returns-clause-reads g c = c.loop-unit.invariant.reads
