-- What ended work that comes behind a script.
use Rattle.std.specs.Prelude.{Result, Ok, Err}
use Rattle.store_trait.specs.declared.fault.Fault.{Fault}
use Rattle.script_run.specs.declared.fault.Stop.{Stop}
use Rattle.script_run.specs.declared.fault.Stop.TheVariants as stop

-- as a stop
abbrev pub stop_of : Result (Unit {0}) Fault → Result (Unit {0}) Stop
stop_of (Ok v) = Ok v
stop_of (Err fault) = Err (stop.Store fault)
