-- The cause of a stop, over a longer time.
use Rattle.std.proofs.Common.{Result, Ok, Err, IfErr, arith}
use Rattle.chip_trait.specs.Told.{Told}
use Rattle.script_run.specs.declared.fault.Stop.{Stop}
use Rattle.script_run.specs.declared.fault.Stop.TheVariants as stop
use Rattle.store_trait.specs.Onward.{Further}
use Rattle.store_trait.specs.Keeping.{Keeping}
use Rattle.script_run.specs.Goes.{StopCause}
use Rattle.store_trait.proofs.OnwardLemmas.{further_none}

-- from earlier on
pub cause_earlier : {S : Type 0} (k : Keeping S) (first old new : Told) (s : Stop) → Further first old → StopCause k old new s → StopCause k first new s
cause_earlier k first old new (stop.Store fault) before cause = k.caused fault first old new new before cause (further_none new)
cause_earlier k first old new stop.Script before cause = omega (arith, before.script, cause)
cause_earlier k first old new stop.Output before cause = omega (arith, before.says, cause)
cause_earlier k first old new stop.TooLong before cause = omega (arith, before.bytes, cause)

-- of the stop that a call ended with
pub causes_earlier : {S T : Type 0} (k : Keeping S) (first old new : Told) (result : Result T Stop) → Further first old → IfErr result (λ s. StopCause k old new s) → IfErr result (λ s. StopCause k first new s)
causes_earlier k first old new (Ok v) before cause = tt
causes_earlier k first old new (Err s) before cause = cause_earlier k first old new s before cause
