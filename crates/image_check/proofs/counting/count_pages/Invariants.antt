use Rattle.std.proofs.Common.{◌≡◌, ◌≤◌, ◌*◌, None}
use Rattle.ipl_base.specs.First.{first_below}
use Rattle.unit_io.specs.ReadsAt.{Anywhere, ReadsAt}
use Rattle.image_check.specs.Checked.{fault_of_page, records_on, total_below}
use Rattle.image_check.specs.Tables.{OfWhole}
use Rattle.image_check.proofs.counting.count_pages.Given as goal

abbrev pub invariant-loop-page : goal.invariant-loop-page
invariant-loop-page g l =
    let told = g.C.Chip.told in record {
      reads : ReadsAt Anywhere (told l.fn.chip) (told l.chip);
      log : l.room.log ≡ l.fn.room.log;
      so_far : OfWhole (told l.fn.chip) l.place l.unit l.header l.fn.room.log l.status (λ x it.
          (first_below (fault_of_page x it l.unit) l.page ≡ None)
          × (l.records ≡ total_below (records_on x it l.unit) l.page));
      small : l.records ≤ 64 * l.page;
    }
