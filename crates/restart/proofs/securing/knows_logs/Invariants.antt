use Rattle.std.proofs.Common.{◌≡◌, false}
use Rattle.restart.specs.Securing.{is_known_below}
use Rattle.restart.proofs.securing.knows_logs.Given as goal

abbrev pub invariant-loop-unit : goal.invariant-loop-unit
invariant-loop-unit l = record {
  none : is_known_below l.directory l.unit ≡ false;
}
