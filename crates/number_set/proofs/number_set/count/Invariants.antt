use Rattle.std.proofs.Common.{◌≡◌, ◌≤◌, length, take}
use Rattle.number_set.specs.Flags.{flagged}
use Rattle.number_set.proofs.number_set.count.Given as goal

-- those before the one at hand are counted
abbrev pub invariant-loop-i : goal.invariant-loop-i
invariant-loop-i l = record {
  few : l.seen ≤ l.i;
  seen : l.seen ≡ length (flagged l.flags (take l.i l.items));
}
