use Rattle.ipl_model.specs.Plain.{state_of}
use Rattle.serial_view.specs.Turns.{kept_of}
use Rattle.serial_view.specs.Running.{run_of, limits_with}
use Rattle.serial_view.proofs.RunLemmas.{SoFar}
use Rattle.serial_view.proofs.order.serial_order.Given as goal

-- the run is tracked so far, and the table holds the commands
abbrev pub invariant-loop-command : goal.invariant-loop-command
invariant-loop-command l = SoFar (limits_with l.fn.sessions l.fn.geometry.units) (state_of l.start).map l.commands l.command-index
    (run_of l.running) (kept_of l.table)
