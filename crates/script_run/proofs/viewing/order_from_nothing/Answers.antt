use Rattle.ipl_model.specs.Plain.{state_of}
use Rattle.script_run.proofs.ViewLemmas.{starts_at_rest}
use Rattle.script_run.proofs.viewing.order_from_nothing.Goals as goal

pub serial_order-requires-clause-at_rest : goal.serial_order-requires-clause-at_rest
serial_order-requires-clause-at_rest c = starts_at_rest (state_of c.in_ok-start.start) c.in_ok-start.ensures.state
