use Rattle.std.proofs.Common.{◌≡◌, ◌≤◌, ◌+◌, ◌++◌, map, length}
use Rattle.ipl_meaning.specs.Tables.{masks_in}
use Rattle.overflow.specs.Lists.{pair_of}
use Rattle.unit_log.specs.Paged.{home_with}
use Rattle.unit_log.proofs.ChooseLemmas.{home_rest}
use Rattle.unit_log.proofs.pages.add_home.Given as goal

-- with those that are left they are all
abbrev pub invariant-loop-sector : goal.invariant-loop-sector
invariant-loop-sector l = record {
  chosen : map pair_of l.spots.items ++ home_rest l.page l.place (masks_in l.directory l.unit) l.sector
      ≡ home_with l.page l.place (masks_in l.directory l.unit);
  count : length l.spots.items + 241 ≤ l.sector;
}
