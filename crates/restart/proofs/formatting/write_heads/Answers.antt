use Rattle.std.proofs.Common.{[], ◌∷◌}
use Rattle.chip_trait.specs.declared.event.Event.TheVariants.{Barrier}
use Rattle.restart.specs.Events.{status_event}
use Rattle.restart.proofs.WriteLemmas.{stopped, stops_before, writes_then}
use Rattle.restart.proofs.formatting.write_heads.Goals as goal

pub returns-in_err-write_headers : goal.returns-in_err-write_headers
returns-in_err-write_headers g c =
    stopped c.from_residual.result c.from_residual.ensures.0 (stops_before (Barrier ∷ status_event c.args.geometry.units ∷ []) c.in_err-write_headers.ensures)

pub returns : goal.returns
returns g c = writes_then (Barrier ∷ status_event c.args.geometry.units ∷ []) _ c.write_status.result c.in_ok-write_headers.ensures c.write_status.ensures
