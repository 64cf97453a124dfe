use Rattle.std.proofs.Common.{◌≡◌, ◌≤◌, length, take, drop}
use Rattle.number_set.specs.Flags.{flagged}
use Rattle.number_set.proofs.number_set.compact.Given as goal

-- those before the one at hand are looked at, and the others stand as they did
abbrev pub invariant-loop-i : goal.invariant-loop-i
invariant-loop-i l = record {
  few : l.kept ≤ l.i;
  size : length l.items.items ≡ length l.fn.items.items;
  end : l.i-end ≡ length l.fn.items.items;
  front : take l.kept l.items.items ≡ flagged l.flags (take l.i l.fn.items.items);
  back : drop l.i l.items.items ≡ drop l.i l.fn.items.items;
  room : l.items.room ≡ l.fn.items.room;
}
