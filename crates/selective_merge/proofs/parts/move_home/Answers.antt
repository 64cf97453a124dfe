use Rattle.std.proofs.Common.{arith}
use Rattle.selective_merge.proofs.MovingLemmas.{moved_unit, moved_left, moved_more, moved_all}
use Rattle.selective_merge.proofs.parts.move_home.Goals as goal

pub loop-i-init : goal.loop-i-init
loop-i-init c = record {
  moved = c.replace.ensures;
  logs =
      omega (arith, c.facts.ensures.logs, c.requires.unit);
}

pub used_log-requires-clause-unit : goal.used_log-requires-clause-unit
used_log-requires-clause-unit c = moved_unit _ c.args.unit c.args.place _ _ _ c.loop-i.invariant.moved
    c.requires.unit

pub used_log-requires-clause-left : goal.used_log-requires-clause-left
used_log-requires-clause-left c = moved_left _ c.args.unit c.args.place _ _ _ c.loop-i.invariant.moved
    c.loop-i.invariant.logs (omega (arith, c.requires.few))

pub loop-i-preserved : goal.loop-i-preserved
loop-i-preserved c =
    record {
      moved = moved_more _ c.args.unit c.args.place _ _ _ c.loop-i.invariant.moved _
          c.loop-i.invariant.logs c.used_log.ensures;
      logs = c.loop-i.invariant.logs;
    }

pub returns : goal.returns
returns c = moved_all _ c.args.unit c.args.place _ _ _ c.loop-i.invariant.moved c.args.used
    c.requires.unit (omega arith)
