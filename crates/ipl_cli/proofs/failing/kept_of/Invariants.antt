use Rattle.std.proofs.Common.{◌≡◌, drop}
use Rattle.ipl_cli.specs.Failing.{kept_at}
use Rattle.ipl_cli.proofs.failing.kept_of.Given as goal

abbrev pub invariant-loop-say : goal.invariant-loop-say
invariant-loop-say l = kept_at l.fn.failing l.fn.number ≡ kept_at (drop l.say-index l.failing) l.fn.number
