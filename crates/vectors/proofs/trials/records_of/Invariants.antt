use Rattle.std.proofs.Common.{◌≤◌}
use Rattle.vectors.proofs.trials.records_of.Given as goal

abbrev pub invariant-loop-name : goal.invariant-loop-name
invariant-loop-name l = l.records.count ≤ l.name
