use Rattle.std.proofs.Common.{◌≤◌}
use Rattle.vectors.proofs.trials.do_all.Given as goal

abbrev pub invariant-loop-i : goal.invariant-loop-i
invariant-loop-i l = l.tally.commands ≤ l._i
