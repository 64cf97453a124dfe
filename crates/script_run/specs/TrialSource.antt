-- Where the commands of a trial come from.
use Rattle.std.specs.Prelude.{ℕ}

-- so many units, and the state of the generator of words
pub record WordSource : Type 0 where
  pub units : ℕ
  pub state : ℕ
