use Rattle.std.proofs.Common.{◌≡◌, ◌≤◌, length, take, drop}
use Rattle.ipl_base.specs.declared.limits.TheConstants.{COMMIT_NUMBERS}
use Rattle.number_set.specs.Flags.{flagged}
use Rattle.number_set.proofs.number_set.gather.Given as goal

-- those before the one at hand are looked at
abbrev pub invariant-loop-i : goal.invariant-loop-i
invariant-loop-i l = record {
  few : l.seen ≤ l.i;
  seen : l.seen ≡ length (flagged l.flags (take l.i l.items));
  part : l.part.items ≡ take COMMIT_NUMBERS (drop l.start (flagged l.flags (take l.i l.items)));
}
