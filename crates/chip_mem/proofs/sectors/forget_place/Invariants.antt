use Rattle.std.proofs.Common.{◌≡◌, ℕ, List}
use Rattle.chip_mem.specs.Sectors.{written_contents}
use Rattle.chip_mem.proofs.SectorLemmas.{partly_erased}
use Rattle.chip_mem.proofs.sectors.forget_place.Given as goal

abbrev pub invariant-loop-s : goal.invariant-loop-s
invariant-loop-s l = (xs : List (List ℕ)) → written_contents l.written xs ≡ partly_erased (written_contents l.fn.written xs) l.place l.s
