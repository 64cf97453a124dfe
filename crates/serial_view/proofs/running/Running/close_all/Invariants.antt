use Rattle.serial_view.specs.Running.{run_of, Follows}
use Rattle.serial_view.proofs.FirstLemmas.{closed_below}
use Rattle.serial_view.proofs.running.Running.close_all.Given as goal

-- the sessions so far are closed
abbrev pub invariant-loop-s : goal.invariant-loop-s
invariant-loop-s l = Follows (run_of l.fn.self) (λ state. closed_below state l.s) (run_of l.self)
