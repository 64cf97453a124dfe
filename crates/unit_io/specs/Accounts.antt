-- What a call of a chip counts, and why it fails.
use Rattle.std.specs.Prelude.{Result, IfErr}
use Rattle.chip_trait.specs.Told.{Told, Counts}

-- the chip has as many places as before, no count fell and what stands beside it is as it was; and where the call failed,
-- this is its cause
pub record Accounts {T E : Type 0} (Cause : E → Told → Told → Type 0) (result : Result T E) (old new : Told) : Type 0 where
  pub counts : Counts old new
  pub cause : IfErr result (λ fault. Cause fault old new)
