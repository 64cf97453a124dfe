use Rattle.std.proofs.Common.{◌≡◌, ◌≤◌, ◌+◌, ◌++◌, map, length}
use Rattle.overflow.specs.Lists.{pair_of}
use Rattle.unit_log.specs.Paged.{listed_with}
use Rattle.unit_log.proofs.ChooseLemmas.{listed_rest}
use Rattle.unit_log.proofs.pages.add_listed.Given as goal

-- with those that are left they are all
abbrev pub invariant-loop-i : goal.invariant-loop-i
invariant-loop-i l = record {
  chosen : map pair_of l.spots.items ++ listed_rest l.page l.listed l.masks l.i
      ≡ map pair_of l.fn.spots.items ++ listed_with l.page (map pair_of l.listed) l.masks;
  count : length l.spots.items ≤ length l.fn.spots.items + l.i;
}
