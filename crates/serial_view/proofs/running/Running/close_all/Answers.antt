use Rattle.std.proofs.Common.{arith}
use Rattle.serial_view.specs.Running.{run_of}
use Rattle.serial_view.proofs.FollowLemmas.{follows_none, closes_more, closes_all}
use Rattle.serial_view.proofs.running.Running.close_all.Goals as goal

pub loop-s-init : goal.loop-s-init
loop-s-init c = follows_none (run_of c.args.self.now)

pub loop-s-preserved : goal.loop-s-preserved
loop-s-preserved c =
    closes_more (run_of c.args.self.now) (run_of c.loop-s.self) (run_of c.close.new.self) c.loop-s.s
    c.loop-s.invariant c.close.ensures

pub returns : goal.returns
returns c =
    closes_all (run_of c.args.self.now) (run_of c.loop-s.self) c.loop-s.s
    (omega (arith, c.loop-s-test.false, c.count-s-end.ensures.count))
    c.loop-s.invariant
