use Rattle.std.proofs.Common.{◌≡◌, length, map, take, drop}
use Rattle.overflow.specs.Parted.{mask_of}
use Rattle.overflow.proofs.entries.masks_in.Given as goal

-- those so far are listed
abbrev pub invariant-loop-i : goal.invariant-loop-i
invariant-loop-i l = record {
  masks : l.masks.items ≡ take l.i (drop l.from (map mask_of l.entries));
  count : length l.masks.items ≡ l.i;
}
