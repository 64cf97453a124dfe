use Rattle.std.proofs.Common.{◌≡◌, ◌<◌, ℕ, length}
use Rattle.std.specs.Prelude.{slice_index}
use Rattle.ipl_meaning.specs.First.{at}
use Rattle.restart.specs.Filled.{erases_by, with_counts}
use Rattle.restart.proofs.filling.count_erases.Given as goal

abbrev pub invariant-loop-place : goal.invariant-loop-place
invariant-loop-place l = record {
  counts : length l.directory.erases ≡ length l.heads;
  erases_are : (p : ℕ) → p < l.place → slice_index l.directory.erases p ≡ erases_by (at l.heads p);
  same : l.directory ≡ with_counts l.fn.directory l.directory.erases;
}
