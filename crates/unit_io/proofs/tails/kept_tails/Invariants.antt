use Rattle.std.proofs.Common.{◌≡◌, length}
use Rattle.unit_io.specs.Tails.{FitTails}
use Rattle.unit_io.proofs.tails.kept_tails.Given as goal

abbrev pub invariant-loop-piece : goal.invariant-loop-piece
invariant-loop-piece l = record {
  fit : FitTails l.text l.kept;
  long : length l.kept ≡ 16;
}
