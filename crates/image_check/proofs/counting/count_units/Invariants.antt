use Rattle.std.proofs.Common.{◌≡◌, ◌≤◌, ◌*◌, None}
use Rattle.ipl_base.specs.First.{first_below}
use Rattle.unit_io.specs.ReadsAt.{Anywhere, ReadsAt}
use Rattle.page_rebuild.specs.Loaded.{OfTables}
use Rattle.image_check.specs.Checked.{fault_of_unit, records_below}
use Rattle.image_check.proofs.counting.count_units.Given as goal

abbrev pub invariant-loop-unit : goal.invariant-loop-unit
invariant-loop-unit g l =
    let told = g.C.Chip.told in record {
      reads : ReadsAt Anywhere (told l.fn.chip) (told l.chip);
      so_far : OfTables (told l.fn.chip) l.tables.directory l.tables.overflow l.tables.status (λ x it.
          (first_below (fault_of_unit x it) l.unit ≡ None)
          × (l.records ≡ records_below x it l.unit));
      small : l.records ≤ 960 * l.unit;
    }
