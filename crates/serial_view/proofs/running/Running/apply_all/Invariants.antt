use Rattle.std.proofs.Common.{take}
use Rattle.ipl_model.specs.Operations.{after_batch}
use Rattle.serial_view.specs.Running.{run_of, Follows}
use Rattle.serial_view.proofs.running.Running.apply_all.Given as goal

-- the sessions so far are closed
abbrev pub invariant-loop-s : goal.invariant-loop-s
invariant-loop-s l = Follows (run_of l.fn.self) (λ state. after_batch state (take l.s-index l.sessions)) (run_of l.self)
