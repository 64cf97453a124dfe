use Rattle.std.proofs.Common.{Ok, Err}
use Rattle.ipl_base.specs.declared.fault.ChipFault.TheVariants.{Stopped}
use Rattle.unit_io.proofs.CostLemmas.{spends_wait}
use Rattle.unit_io.proofs.calls.barrier.Goals as goal

pub returns-in-Ok-clause-costs : goal.returns-in-Ok-clause-costs
returns-in-Ok-clause-costs g c = spends_wait _ _ (Ok tt) c.in-Ok.ensures.ok

pub returns-in-Err-clause-costs : goal.returns-in-Err-clause-costs
returns-in-Err-clause-costs g c = spends_wait _ _ (Err Stopped) c.in-Err.ensures.err
