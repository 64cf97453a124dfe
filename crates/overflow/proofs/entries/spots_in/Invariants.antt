use Rattle.std.proofs.Common.{◌≡◌, length, map, take, drop}
use Rattle.overflow.specs.Lists.{pair_of}
use Rattle.overflow.specs.Parted.{spot_of}
use Rattle.overflow.proofs.entries.spots_in.Given as goal

-- those so far are listed
abbrev pub invariant-loop-i : goal.invariant-loop-i
invariant-loop-i l = record {
  spots : map pair_of l.spots.items ≡ take l.i (drop l.from (map spot_of l.entries));
  count : length l.spots.items ≡ l.i;
}
