use Rattle.std.proofs.Common.{◌≡◌, ℕ, List, length}
use Rattle.ipl_base.specs.declared.limits.TheConstants.{VERSION}
use Rattle.unit_io.specs.Tails.{AreTails, FitTails}
use Rattle.unit_io.proofs.tails.known_tails.Given as goal

abbrev pub invariant-loop-piece : goal.invariant-loop-piece
invariant-loop-piece l = record {
  fit : (text : List ℕ) → (l.version ≡ VERSION → AreTails text l.tails) → FitTails text l.known;
  long : length l.known ≡ 16;
}
